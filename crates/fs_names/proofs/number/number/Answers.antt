use Rattle.std.proofs.Common.{length, sym, ◌∙◌}
use Rattle.std.proofs.lemmas.Bool.{eqb-true}
use Rattle.fs_names.proofs.Digits.{number_of-empty, number_of-leading_zero}
use Rattle.fs_names.proofs.number.number.Goals as goal

pub returns-then-is_empty : goal.returns-then-is_empty
returns-then-is_empty c =
    sym (number_of-empty c.args.base c.args.text.now c.requires.low c.requires.high
    (eqb-true (length c.args.text.now) 0 (sym c.is_empty.ensures ∙ c.if-is_empty.true)))

pub returns-then-text-eq48 : goal.returns-then-text-eq48
returns-then-text-eq48 c =
    sym (number_of-leading_zero c.args.base c.args.text.now c.requires.low c.requires.high c.if-text-gt1.true c.if-text-eq48.true)
