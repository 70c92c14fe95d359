use Rattle.std.proofs.Common.{◌<◌, ◌∙◌, subst}
use Rattle.std.proofs.lemmas.Result.{on_ok_weaker}
use Rattle.tree_api.specs.Tree.{Version, Mix}
use Rattle.tree_memory.specs.Nodes.{version, node_of}
use Rattle.tree_memory.specs.Told.{count_of}
use Rattle.tree_memory.proofs.Stores.{node_read, node_set, put_same}
use Rattle.tree_memory.proofs.leave.follow_node.Goals as goal

pub returns-clause-mixed : goal.returns-clause-mixed
returns-clause-mixed c =
    let old = c.args.image.now.nodes.items in
    let now = c.args.now.now.nodes.items in
    let n = c.args.node in
    let low : n < count_of c.args.now.now = subst (λ k. n < k) c.requires.same c.requires.there in
    on_ok_weaker c.mix.result
    (λ m. (
      version c.mix.new.self,
      subst (λ (v : Version). Mix v (node_of now n) (version c.mix.new.self)) (node_read old n _ c.requires.there c.index_mut-left.ensures.value)
          (subst (λ (v : Version). Mix (version c.index_mut-left.result.now) v (version c.mix.new.self)) (node_read now n _ low c.index.ensures) m),
      node_set old n c.mix.new.self c.requires.there,
    ))
    c.mix.ensures.mixed

pub returns-clause-kept : goal.returns-clause-kept
returns-clause-kept c = λ never.
    let old = c.args.image.now.nodes.items in
    let n = c.args.node in
    node_set old n c.mix.new.self c.requires.there
    ∙ put_same (node_of old) n (version c.mix.new.self) (c.mix.ensures.kept never ∙ node_read old n _ c.requires.there c.index_mut-left.ensures.value)
