use Rattle.std.proofs.Common.{◌<◌, length, sym, ap, subst, ◌∙◌, arith}
use Rattle.std.proofs.lemmas.List.{take_all}
use Rattle.tree_api.specs.Tree.{Version}
use Rattle.tree_api.specs.Answer.{kind_of}
use Rattle.tree_memory.specs.Names.{names_at, IsBelow}
use Rattle.tree_memory.specs.Nodes.{node_of}
use Rattle.tree_memory.specs.Told.{tree_of, count_of}
use Rattle.tree_memory.proofs.Listings.{listed, is_listing, listed_some, listed_none}
use Rattle.tree_memory.proofs.Stores.{item_low, node_read}
use Rattle.tree_memory.proofs.store.Store.list.Goals as goal
use Rattle.tree_memory.proofs.store.Store.list.Goals.{then-steps-eq1+in_ok-copy+in_ok-push, else-steps-eq1}

pub loop-name-preserved : goal.loop-name-preserved
loop-name-preserved c =
    let s = c.args.self.now in
    let l = c.deref-name-items.result.now in
    let i = c.loop-name.name-index in
    let x = c.name-item.result in
    let lt : i < length l = omega arith in
    let below = subst (IsBelow (names_at s.names) c.args.dir.now) (sym c.deref-name-items.ensures.value) c.in_ok-names.ensures in
    let low : x.node < count_of s = item_low (count_of s) (names_at s.names) c.args.dir.now l i x below c.requires lt c.name-item.is in
    elim c.if-steps-eq1.branch [
      | then-steps-eq1+in_ok-copy+in_ok-push w ↦
          ap (λ v. v.items) w.entries-is
          ∙ listed_some (node_of s.nodes.items) l i x c.loop-name.entries.items _ _ c.loop-name.invariant w.in_ok-push.ensures.items lt c.name-item.is (sym c.steps.ensures ∙ w.if-steps-eq1.true) w.in_ok-copy.ensures
          (w.kind_of.ensures ∙ ap (λ (v : Version). kind_of v.dir) (node_read s.nodes.items x.node _ low w.index.ensures))
      | else-steps-eq1 w ↦
          ap (λ v. v.items) w.entries-is
          ∙ listed_none (node_of s.nodes.items) l i x c.loop-name.entries.items c.loop-name.invariant lt c.name-item.is (λ e. w.if-steps-eq1.false (c.steps.ensures ∙ e))
    ]

pub returns : goal.returns
returns c =
    let s = c.args.self.now in
    let e = c.loop-name.invariant ∙ ap (listed (node_of s.nodes.items)) (take_all c.loop-name.name-index _ (omega arith) ∙ c.deref-name-items.ensures.value) in
    is_listing (tree_of s) c.args.dir.now c.in_ok-names.names.items c.loop-name.entries.items c.in_ok-names.ensures e
