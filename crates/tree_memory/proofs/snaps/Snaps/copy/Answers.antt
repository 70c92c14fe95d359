use Rattle.std.proofs.Common.{rules, ◌≡◌, [], ◌∷◌, map, sym, ap, ◌∙◌}
use Rattle.std.specs.Map.Iter.{deref_pair}
use Rattle.std.specs.Map.{update_all}
use Rattle.std.specs.Ordering.{nat_cmp, eq_by_cmp}
use Rattle.std.proofs.lemmas.Map.Iter.{iter_end}
use Rattle.std.proofs.lemmas.List.{map-append}
use Rattle.tree_memory.proofs.Copies.{contents, at_none, copied_more, copied_all}
use Rattle.tree_memory.proofs.snaps.Snaps.copy.Goals as goal

pub loop-seq-preserved-in_ok-insert : goal.loop-seq-preserved-in_ok-insert
loop-seq-preserved-in_ok-insert c =
    let put = copied_more c.loop-seq.map c.insert.new.self (map deref_pair c.loop-seq.yielded) c.in-Some.seq.now c.in_ok-copy.field-0 c.in-Some.snap.now c.loop-seq.invariant c.in_ok-insert.ensures.updates.0 c.in_ok-copy.ensures in
    λ q. put q ∙ ap (λ l. update_all (eq_by_cmp nat_cmp) at_none (contents l) q) (sym (map-append deref_pair c.loop-seq.yielded ((c.in-Some.seq, c.in-Some.snap) ∷ [])))

pub loop-seq-preserved : goal.loop-seq-preserved
loop-seq-preserved c =
    let put = copied_more c.loop-seq.map c.insert.new.self (map deref_pair c.loop-seq.yielded) c.in-Some.seq.now c.in_ok-copy.field-0 c.in-Some.snap.now c.loop-seq.invariant c.in_ok-insert.ensures.updates.0 c.in_ok-copy.ensures in
    λ q. put q ∙ ap (λ l. update_all (eq_by_cmp nat_cmp) at_none (contents l) q) (sym (map-append deref_pair c.loop-seq.yielded ((c.in-Some.seq, c.in-Some.snap) ∷ [])))

pub returns : goal.returns
returns c =
    let e : map deref_pair c.loop-seq.yielded ≡ c.args.self.now.map.entries = search (rules, iter_end) in
    copied_all c.args.self.now.map c.loop-seq.map (map deref_pair c.loop-seq.yielded) e c.iter-seq-items.ensures.ordered c.loop-seq.invariant
