use Rattle.std.proofs.Common.{◌≡◌, ◌∙◌, ℕ, sym, ap, arith}
use Rattle.commit_point.specs.Number.{spelled}
use Rattle.commit_point.proofs.Digits.{one_number, texts_same}
use Rattle.commit_point.proofs.spelling.number_of.Goals as goal
use Rattle.commit_point.proofs.spelling.number_of.Goals.{else-number-via-then-number+in_ok-spelled+else-eq, else-number-via-else-number}

pub returns-else-number-clause-none : goal.returns-else-number-clause-none
returns-else-number-clause-none c = λ n small is.
    let same : c.in-Some.number ≡ n = one_number c.in-Some.number n (c.in-Some.ensures.is n small is) in
    elim c.else-number.branch [
      | else-number-via-then-number+in_ok-spelled+else-eq w ↦
          texts_same w.as_slice.result.now c.args.text.now (w.as_slice.ensures.value ∙ w.in_ok-spelled.ensures ∙ ap spelled same ∙ sym is) (sym w.eq.ensures ∙ w.if-eq.false)
      | else-number-via-else-number w ↦ absurd (omega (arith, w.if-number.false, same, small))
    ]
