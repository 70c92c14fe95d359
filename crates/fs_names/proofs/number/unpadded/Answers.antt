use Rattle.std.proofs.Common.{◌+◌, ◌*◌, ◌^◌, ◌<◌, get_or, ltb, ap, sym, subst, ◌∙◌, arith}
use Rattle.std.proofs.lemmas.Bool.{ltb-true}
use Rattle.std.specs.Char.{digit_value}
use Rattle.fs_names.specs.Numbers.{is_lower_digit}
use Rattle.fs_names.proofs.Digits.{picked, read_first, read_more, number_of-stops, number_of-large, number_of-read}
use Rattle.fs_names.proofs.number.unpadded.Goals as goal

pub loop-byte-init : goal.loop-byte-init
loop-byte-init c = record { small = omega arith; read = read_first c.args.base (is_lower_digit c.args.base) c.args.text.now }

pub loop-byte-preserved : goal.loop-byte-preserved
loop-byte-preserved c =
    let base = c.args.base in
    let number = c.loop-byte.number in
    let byte = get_or c.args.text.now c.loop-byte.byte-index 0 in
    let sum = number * base + c.in-Some.digit in
    let digit = picked (is_lower_digit base byte) (digit_value byte) c.in-Some.digit (sym c.lower_value.ensures ∙ c.in-Some.is) in
    let longer = picked (ltb sum (2 ^ 64)) sum c.in-Some-with_digit.longer (sym c.with_digit.ensures ∙ c.in-Some-with_digit.is) in
    record {
      small = subst (λ v. v < 2 ^ 64) longer.1 (ltb-true sum (2 ^ 64) longer.0);
      read = read_more base (is_lower_digit base) c.args.text.now c.loop-byte.byte-index number c.in-Some-with_digit.longer c.loop-byte-test.true digit.0
          (sym longer.1 ∙ ap (λ v. number * base + v) (sym digit.1)) c.loop-byte.invariant.read;
    }

pub returns-in_default : goal.returns-in_default
returns-in_default c =
    sym (number_of-stops c.args.base c.args.text.now c.loop-byte.byte-index c.requires.low c.requires.high c.loop-byte-test.true
    (sym c.lower_value.ensures ∙ c.in_default.is))

pub returns-in_default-with_digit : goal.returns-in_default-with_digit
returns-in_default-with_digit c =
    sym (number_of-large c.args.base c.args.text.now c.loop-byte.byte-index c.loop-byte.number c.in-Some.digit c.requires.low c.requires.high
    c.loop-byte-test.true (sym c.lower_value.ensures ∙ c.in-Some.is) (sym c.with_digit.ensures ∙ c.in_default-with_digit.is) c.loop-byte.invariant.read)

pub returns : goal.returns
returns c =
    number_of-read c.args.base c.args.text.now c.loop-byte.byte-index c.loop-byte.number c.requires.low c.requires.high c.requires.some c.requires.nonzero
    c.loop-byte.invariant.small c.loop-byte-test.false c.loop-byte.invariant.read
