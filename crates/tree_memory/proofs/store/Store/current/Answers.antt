use Rattle.std.proofs.Common.{◌≡◌, ◌<◌, length, map, sym, ap, ◌∙◌, arith, subst}
use Rattle.std.proofs.lemmas.List.{take_all}
use Rattle.tree_api.specs.Tree.{Path, current}
use Rattle.tree_memory.specs.Names.{names_at, IsBelow}
use Rattle.tree_memory.specs.Nodes.{node_of}
use Rattle.tree_memory.specs.Kept.{pair}
use Rattle.tree_memory.specs.Told.{tree_of, count_of}
use Rattle.tree_memory.specs.declared.names.Name.{Name}
use Rattle.tree_memory.proofs.Stores.{item_low, kept_more, kept_content, kept_each, node_read}
use Rattle.tree_memory.proofs.store.Store.current.Goals as goal

pub loop-name-preserved : goal.loop-name-preserved
loop-name-preserved c =
    let s = c.args.self.now in
    let l = c.deref-name-items.result.now in
    let i = c.loop-name.name-index in
    let x = c.name-item.result in
    let lt : i < length l = omega arith in
    let named = subst (λ (d : Path). IsBelow (names_at s.names) d c.in_ok-names.names.items) c.in_ok-dir.ensures c.in_ok-names.ensures in
    let below = subst (IsBelow (names_at s.names) current) (sym c.deref-name-items.ensures.value) named in
    let low : x.node < count_of s = item_low (count_of s) (names_at s.names) current l i x below c.requires lt c.name-item.is in
    kept_more (node_of s.nodes.items) c.loop-name.kept.items _ l i x _ c.loop-name.invariant c.in_ok-push.ensures.items c.in_ok-copy.ensures
    (c.in_ok-node.ensures ∙ node_read s.nodes.items x.node _ low c.index.ensures) lt c.name-item.is

pub invariant_of-result : goal.invariant_of-result
invariant_of-result c =
    let s = c.args.self.now in
    let l = c.in_ok-names.names.items in
    let e : map pair c.loop-name.kept.items ≡ map (λ (x : Name). (x.rest, node_of s.nodes.items x.node)) l =
    c.loop-name.invariant ∙ ap (λ m. map (λ (x : Name). (x.rest, node_of s.nodes.items x.node)) m) (take_all c.loop-name.name-index _ (omega arith) ∙ c.deref-name-items.ensures.value) in
    let below = subst (λ (d : Path). IsBelow (names_at s.names) d l) c.in_ok-dir.ensures c.in_ok-names.ensures in
    record { each = kept_each (tree_of s) l c.loop-name.kept.items below e }

pub returns : goal.returns
returns c =
    let s = c.args.self.now in
    let l = c.in_ok-names.names.items in
    let e : map pair c.loop-name.kept.items ≡ map (λ (x : Name). (x.rest, node_of s.nodes.items x.node)) l =
    c.loop-name.invariant ∙ ap (λ m. map (λ (x : Name). (x.rest, node_of s.nodes.items x.node)) m) (take_all c.loop-name.name-index _ (omega arith) ∙ c.deref-name-items.ensures.value) in
    let below = subst (λ (d : Path). IsBelow (names_at s.names) d l) c.in_ok-dir.ensures c.in_ok-names.ensures in
    kept_content (tree_of s) l c.loop-name.kept.items below e
