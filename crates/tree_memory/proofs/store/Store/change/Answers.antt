use Rattle.std.proofs.Common.{ap, ◌∙◌}
use Rattle.std.proofs.lemmas.Result.{on_ok_weaker, on_err_weaker}
use Rattle.tree_memory.specs.History.{put}
use Rattle.tree_memory.specs.Nodes.{node_of, changed}
use Rattle.tree_memory.specs.Told.{tree_of}
use Rattle.tree_memory.proofs.Stores.{node_set, node_read, put_same}
use Rattle.tree_memory.proofs.store.Store.change.Goals as goal

pub returns-clause-ok : goal.returns-clause-ok
returns-clause-ok c =
    let s = c.args.self.now in
    let xs = s.nodes.items in
    let n = c.args.node in
    on_ok_weaker c.change.result
    (λ new. ap (λ f. record (tree_of s) { node = f })
    (node_set xs n c.change.new.self c.requires.there
    ∙ ap (put (node_of xs) n) (new ∙ ap (changed c.args.change.now) (node_read xs n _ c.requires.there c.index_mut-changed.ensures.value))))
    c.change.ensures.ok

pub returns-clause-err : goal.returns-clause-err
returns-clause-err c =
    let s = c.args.self.now in
    let xs = s.nodes.items in
    let n = c.args.node in
    on_err_weaker c.change.result
    (λ same. ap (λ f. record (tree_of s) { node = f })
    (node_set xs n c.change.new.self c.requires.there ∙ put_same (node_of xs) n _ (same ∙ node_read xs n _ c.requires.there c.index_mut-changed.ensures.value)))
    c.change.ensures.err
