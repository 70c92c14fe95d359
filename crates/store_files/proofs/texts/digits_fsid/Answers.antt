use Rattle.std.proofs.Common.{◌∙◌, length, sym, ap, refl, arith, Some, length-take}
use Rattle.commit_point.proofs.Digits.{no_fault}
use Rattle.store_files.proofs.Fsids.{fsid_length, decoded}
use Rattle.store_files.proofs.texts.digits_fsid.Goals as goal

pub returns-then-text-ne33 : goal.returns-then-text-ne33
returns-then-text-ne33 c = record { is = λ fsid fits spelled. absurd (c.if-text-ne33.true (ap length spelled ∙ fsid_length fsid fits)) }

pub slice_bounds-digits-end : goal.slice_bounds-digits-end
slice_bounds-digits-end c = omega (arith, length-take 32 c.args.text.now, c.if-text-ne33.false)

pub returns-then-is_err : goal.returns-then-is_err
returns-then-is_err c = record {
  is = λ fsid fits spelled.
      let d = decoded c.args.text.now _ fsid _ c.decode_to_slice.result c.decode_to_slice.new.out refl refl fits spelled c.decode_to_slice.ensures.value in
      absurd (no_fault c.decode_to_slice.result d.0 (sym c.is_err.ensures.value ∙ c.if-is_err.true));
}

pub returns : goal.returns
returns c = record {
  is = λ fsid fits spelled.
      let d = decoded c.args.text.now _ fsid _ c.decode_to_slice.result c.decode_to_slice.new.out refl refl fits spelled c.decode_to_slice.ensures.value in
      ap Some d.1;
}
