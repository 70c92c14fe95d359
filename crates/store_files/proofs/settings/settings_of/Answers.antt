use Rattle.std.proofs.Common.{◌≡◌, w32, sym, subst}
use Rattle.std.proofs.lemmas.Int.{to_z-of_z}
use Rattle.std.specs.Fmt.{decimal, signed_decimal}
use Rattle.store_files.specs.Texts.{IsMerge, IsWithin}
use Rattle.store_files.proofs.Decimals.{merge_fits}
use Rattle.store_files.proofs.Spelled.{no_values, no_merge_value, no_split_value, no_lfn_value, no_mode_value, all_read}
use Rattle.store_files.proofs.settings.settings_of.Goals as goal

pub returns-in_err-merge_text : goal.returns-in_err-merge_text
returns-in_err-merge_text c = rw c.from_residual.ensures (no_values c.args.text.now c.in_err-merge_text.ensures)

pub returns-in_err-merge : goal.returns-in_err-merge
returns-in_err-merge c =
    let v = c.in_ok-merge_text.ensures in
    rw c.from_residual-in_err-merge.ensures (no_merge_value c.args.text.now _ _ _ _ v.0 v.1 v.2 v.3 v.4 c.in_err-merge.ensures)

pub returns-in_err-split : goal.returns-in_err-split
returns-in_err-split c =
    let v = c.in_ok-merge_text.ensures in
    rw c.from_residual-in_err-split.ensures (no_split_value c.args.text.now _ _ _ _ v.0 v.1 v.2 v.3 v.4 c.in_err-split.ensures)

pub returns-in_err-lfn : goal.returns-in_err-lfn
returns-in_err-lfn c =
    let v = c.in_ok-merge_text.ensures in
    rw c.from_residual-in_err-lfn.ensures (no_lfn_value c.args.text.now _ _ _ _ v.0 v.1 v.2 v.3 v.4 c.in_err-lfn.ensures)

pub returns-in_err-mode : goal.returns-in_err-mode
returns-in_err-mode c =
    let v = c.in_ok-merge_text.ensures in
    rw c.from_residual-in_err-mode.ensures (no_mode_value c.args.text.now _ _ _ _ v.0 v.1 v.2 v.3 v.4 c.in_err-mode.ensures)

pub returns : goal.returns
returns c =
    let v = c.in_ok-merge_text.ensures in
    let kept = to_z-of_z w32 c.in_ok-merge.merge (merge_fits c.in_ok-merge.merge c.in_ok-merge.ensures.0) in
    let same = subst (λ z. IsMerge z × (c.in_ok-merge_text.merge_text.now ≡ signed_decimal z)) (sym kept) c.in_ok-merge.ensures in
    let counted = subst (λ n. IsWithin 100 n × (c.in_ok-merge_text.split_text.now ≡ decimal n)) (sym c.from.ensures) c.in_ok-split.ensures in
    all_read c.args.text.now _ _ _ _ v.0 v.1 v.2 v.3 v.4 _ same counted c.in_ok-lfn.ensures c.in_ok-mode.ensures
