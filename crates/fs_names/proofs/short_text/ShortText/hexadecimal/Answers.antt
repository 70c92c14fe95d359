use Rattle.std.proofs.Common.{ap, refl, arith, ◌∷◌, []}
use Rattle.fs_names.proofs.Loops.{digits_begun, digits_grow}
use Rattle.fs_names.proofs.short_text.ShortText.hexadecimal.Goals as goal

pub loop-rest-init : goal.loop-rest-init
loop-rest-init c = digits_begun c.args.number _ refl (omega arith) (ap (λ d. d ∷ []) c.lower_digit.ensures)

pub loop-rest-preserved : goal.loop-rest-preserved
loop-rest-preserved c =
    digits_grow c.args.number c.loop-rest.bytes c.loop-rest.from c.loop-rest.rest c.lower_digit-in-loop-rest.result c.loop-rest.invariant (omega arith)
    c.lower_digit-in-loop-rest.ensures
