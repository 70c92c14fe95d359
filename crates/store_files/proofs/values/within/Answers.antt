use Rattle.std.proofs.Common.{◌≡◌, ◌∙◌, sym, arith}
use Rattle.store_files.proofs.Decimals.{one_decimal}
use Rattle.store_files.proofs.values.within.Goals as goal
use Rattle.store_files.proofs.values.within.Goals.{then-number-eq0-via-then-number-eq0, then-number-eq0-via-else-number-eq0+then-number-from}

pub returns-then-number-eq0 : goal.returns-then-number-eq0
returns-then-number-eq0 c = λ n fits is.
    let small = c.ranges.most.fits in
    let same : c.in_ok-number.number ≡ n = one_decimal c.in_ok-number.number n c.in_ok-number.ensures.0 (omega (arith, fits.1, small)) (sym c.in_ok-number.ensures.1 ∙ is) in
    elim c.then-number-eq0.branch [
      | then-number-eq0-via-then-number-eq0 w ↦ absurd (omega (arith, w.if-number-eq0.true, same, fits.0))
      | then-number-eq0-via-else-number-eq0+then-number-from w ↦ absurd (omega (arith, w.if-number-from.true, w.from.ensures, same, fits.1))
    ]
