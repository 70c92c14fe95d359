use Rattle.std.proofs.Common.{◌++◌, sym, ◌∙◌, ap, arith}
use Rattle.fs_names.proofs.Loops.{not_stripped, stripped}
use Rattle.fs_names.proofs.UnitLaws.{unlikely, unlike, unit_byte_at}
use Rattle.fs_names.proofs.units.next_unit.Goals as goal

pub returns-in_default-clause-none : goal.returns-in_default-clause-none
returns-in_default-clause-none c = unlikely c.args.text.now (sym c.likely_byte.ensures ∙ c.in_default.is)

pub returns-in_default-strip_prefix-clause-none : goal.returns-in_default-strip_prefix-clause-none
returns-in_default-strip_prefix-clause-none c =
    unlike c.args.text.now c.in-Some.byte (sym c.likely_byte.ensures ∙ c.in-Some.is)
    (λ rest e. not_stripped c.args.text.now c.slice.result.now _ c.strip_prefix.result c.strip_prefix.ensures.cases c.in_default-strip_prefix.is rest
    (e ∙ ap (λ l. l ++ rest) (sym (c.slice.ensures.value ∙ c.of.ensures))))

pub returns-clause-byte : goal.returns-clause-byte
returns-clause-byte c =
    let rest = c.in-Some-strip_prefix.rest in
    unit_byte_at c.args.text.now rest.now c.in-Some.byte (omega arith)
    (stripped c.args.text.now c.slice.result.now c.strip_prefix.result rest c.strip_prefix.ensures.cases c.in-Some-strip_prefix.is
    ∙ ap (λ l. l ++ rest.now) (c.slice.ensures.value ∙ c.of.ensures))
