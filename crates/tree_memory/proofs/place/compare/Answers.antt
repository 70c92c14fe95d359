use Rattle.std.proofs.Common.{◌≡◌, ◌⊎◌, ◌+◌, ◌≤◌, inl, inr, true, false, drop, length, sym, ap, ◌∙◌, arith}
use Rattle.std.specs.Ordering.{is_eq, ordering_then}
use Rattle.tree_memory.specs.Paths.{path_cmp}
use Rattle.tree_memory.proofs.Orders.{both_longer, then_equal, then_not, by_length}
use Rattle.tree_memory.proofs.place.compare.Goals as goal
use Rattle.tree_memory.proofs.place.compare.Goals.{then-loop-i-test+else-i-steps, else-loop-i-test}

pub returns-then-not-is_eq : goal.returns-then-not-is_eq
returns-then-not-is_eq c =
    let a = c.args.a.now in
    let b = c.args.b.now in
    let both = both_longer a b c.loop-i.i _ _ c.step_bytes.ensures.bytes c.step_bytes-in-loop-i.ensures.bytes in
    let ordered = c.cmp-order.ensures in
    let unequal : is_eq c.cmp-order.result ≡ false = grind (arith, c.is_eq.ensures, c.if-not-is_eq.true) in
    sym (c.loop-i.invariant.same ∙ both ∙ ap (λ o. ordering_then o (path_cmp (drop (c.loop-i.i + 1) a) (drop (c.loop-i.i + 1) b))) (sym ordered) ∙ then_not _ _ unequal)

pub loop-i-preserved : goal.loop-i-preserved
loop-i-preserved c =
    let a = c.args.a.now in
    let b = c.args.b.now in
    let both = both_longer a b c.loop-i.i _ _ c.step_bytes.ensures.bytes c.step_bytes-in-loop-i.ensures.bytes in
    let ordered = c.cmp-order.ensures in
    let equal : is_eq c.cmp-order.result ≡ true = grind (arith, c.is_eq.ensures, c.if-not-is_eq.false) in
    record {
      same = c.loop-i.invariant.same ∙ both ∙ ap (λ o. ordering_then o (path_cmp (drop (c.loop-i.i + 1) a) (drop (c.loop-i.i + 1) b))) (sym ordered) ∙ then_equal _ _ equal;
      a_low = omega arith;
      b_low = omega arith;
    }

pub returns : goal.returns
returns c =
    let a = c.args.a.now in
    let b = c.args.b.now in
    let i = c.loop-i.i in
    let low = c.loop-i.invariant in
    let end = elim c.loop-i-test.branch as (λ w. (length a ≤ i) ⊎ (length b ≤ i)) [
      | then-loop-i-test+else-i-steps w ↦ inr (omega arith)
      | else-loop-i-test w ↦ inl (omega arith)
    ] in
    let same = c.loop-i.invariant.same ∙ by_length a b i low.a_low low.b_low end in
    grind (arith, same, c.cmp.ensures, c.steps-2.ensures, c.steps-3.ensures)
