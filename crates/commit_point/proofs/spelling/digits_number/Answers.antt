use Rattle.std.proofs.Common.{◌≡◌, ◌∙◌, length, sym, ap, refl, Some, Ok}
use Rattle.commit_point.proofs.Digits.{spelled_length, decoded, no_fault, number_back}
use Rattle.commit_point.proofs.spelling.digits_number.Goals as goal

pub returns-then-text-ne17 : goal.returns-then-text-ne17
returns-then-text-ne17 c = record { is = λ n small spelled. absurd (c.if-text-ne17.true (ap length spelled ∙ spelled_length n)) }

pub returns-then-is_err : goal.returns-then-is_err
returns-then-is_err c = record {
  is = λ n small spelled.
      let d = decoded c.args.text.now _ n _ c.decode_to_slice.result c.decode_to_slice.new.out refl refl spelled c.decode_to_slice.ensures.value in
      absurd (no_fault c.decode_to_slice.result d.0 (sym c.is_err.ensures.value ∙ c.if-is_err.true));
}

pub returns : goal.returns
returns c = record {
  is = λ n small spelled.
      let d = decoded c.args.text.now _ n _ c.decode_to_slice.result c.decode_to_slice.new.out refl refl spelled c.decode_to_slice.ensures.value in
      ap Some (c.from_be_bytes.ensures ∙ number_back n c.decode_to_slice.new.out small d.1);
}
