-- Each text of a store is short.
use Rattle.std.proofs.Common.{◌<◌, ◌≤◌, ◌^◌, ℕ, ℤ, pos, negsuc, suc, List, [], ◌∷◌, ◌++◌, codes, length, length-append, arith}
use Rattle.std.proofs.lemmas.Fmt.{length-decimal-le}
use Rattle.std.specs.Fmt.{decimal, signed_decimal}
use Rattle.fs_names.specs.declared.settings.Settings.{Settings}
use Rattle.fs_names.specs.declared.settings.Mode.{Mode}
use Rattle.fs_names.specs.declared.settings.Mode.TheVariants.{WriteAhead, Parallel}
use Rattle.store_files.specs.Texts.{version_text, fsid_text, settings_text, mode_word, IsFsid, IsMerge, IsWithin}
use Rattle.store_files.specs.Stores.{IsUsable}
use Rattle.store_files.proofs.Fsids.{fsid_length}

pub version_short : (n : ℕ) → n < 2 ^ 64 → length (version_text n) ≤ 64
version_short n small = omega (arith, length-append (decimal n) (10 ∷ []), length-decimal-le 20 n (omega arith) (omega (arith, small)) small)

pub fsid_short : (fsid : List ℕ) → IsFsid fsid → length (fsid_text fsid) ≤ 64
fsid_short fsid is = omega (arith, fsid_length fsid is)

within_short : (most n : ℕ) → most ≤ 1000 → IsWithin most n → length (decimal n) ≤ 4
within_short most n small fits = length-decimal-le 4 n (omega arith) (omega (arith, small, fits.1)) (omega (arith, small, fits.1))

merge_short : (z : ℤ) → IsMerge z → length (signed_decimal z) ≤ 5
merge_short (pos n) fits = omega (arith, within_short 1000 n (omega arith) fits)
merge_short (negsuc n) fits = omega (arith, within_short 1000 (suc n) (omega arith) fits)

mode_short : (mode : Mode) → length (mode_word mode) ≤ 8
mode_short WriteAhead = omega arith
mode_short Parallel = omega arith

pub settings_short : (set : Settings) → IsUsable set → length (settings_text set) ≤ 64
unfolding settings_text
settings_short set fits =
    let m = merge_short set.merge fits.limits.merge in
    let s = within_short 100 set.split (omega arith) fits.limits.split in
    let l = within_short 40 set.lfn (omega arith) fits.limits.lfn in
    let d = mode_short set.mode in
    let whole = length-append (signed_decimal set.merge) (10 ∷ codes "split " ++ (decimal set.split ++ (10 ∷ codes "lfn " ++ (decimal set.lfn ++ (10 ∷ codes "mode " ++ (mode_word set.mode ++ 10 ∷ [])))))) in
    let after_split = length-append (decimal set.split) (10 ∷ codes "lfn " ++ (decimal set.lfn ++ (10 ∷ codes "mode " ++ (mode_word set.mode ++ 10 ∷ [])))) in
    let after_lfn = length-append (decimal set.lfn) (10 ∷ codes "mode " ++ (mode_word set.mode ++ 10 ∷ [])) in
    let end = length-append (mode_word set.mode) (10 ∷ []) in
    omega (arith, m, s, l, d, whole, after_split, after_lfn, end)
