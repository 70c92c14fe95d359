use Rattle.std.proofs.Common.{inl, inr, refl, sym, ap, ◌∙◌}
use Rattle.tree_memory.specs.declared.event.Event.TheVariants.{Move}
use Rattle.tree_api.specs.Tree.{Version}
use Rattle.tree_memory.proofs.Orders.{same_path_is, same_path_other}
use Rattle.tree_memory.proofs.Stores.{node_read}
use Rattle.tree_memory.proofs.store.Store.moving.Goals as goal

pub returns-then-index : goal.returns-then-index
returns-then-index c =
    let s = c.args.self.now in
    let n = c.in_ok-node.node in
    let below = c.in_ok-moves.ensures in
    inr (inr (record {
      node = n;
      names = below.0;
      edits = c.in_ok-moves.field-0;
      is = refl;
      moves = below.2;
      here = c.in_ok-node.ensures;
      dir = sym (ap (λ (v : Version). v.dir) (node_read s.nodes.items n _ (c.requires.low c.args.from.now n c.in_ok-node.ensures) c.index.ensures)) ∙ c.if-index.true;
      below = below.1;
    }))

pub returns-then-eq : goal.returns-then-eq
returns-then-eq c =
    let s = c.args.self.now in
    let n = c.in_ok-node.node in
    inr (inl (record {
      node = n;
      edits = c.new.result;
      is = refl;
      none = c.new.ensures.items;
      here = c.in_ok-node.ensures;
      file = sym (ap (λ (v : Version). v.dir) (node_read s.nodes.items n _ (c.requires.low c.args.from.now n c.in_ok-node.ensures) c.index.ensures)) ∙ c.if-index.false;
      same = sym c.in_ok-copy.ensures ∙ same_path_is c.in_ok-copy.field-0 c.in_ok-copy-2.field-0 (sym c.eq.ensures ∙ c.if-eq.true) ∙ c.in_ok-copy-2.ensures;
    }))

pub returns : goal.returns
returns c =
    let s = c.args.self.now in
    let n = c.in_ok-node.node in
    inl (record {
      node = n;
      is = λ i. Move (c.in_ok-copy.ensures i) (c.in_ok-copy-2.ensures i) n;
      here = c.in_ok-node.ensures;
      file = sym (ap (λ (v : Version). v.dir) (node_read s.nodes.items n _ (c.requires.low c.args.from.now n c.in_ok-node.ensures) c.index.ensures)) ∙ c.if-index.false;
      apart = λ e. same_path_other c.in_ok-copy.field-0 c.in_ok-copy-2.field-0 (sym c.eq.ensures ∙ c.if-eq.false) (c.in_ok-copy.ensures ∙ e ∙ sym c.in_ok-copy-2.ensures);
    })
