-- A tree is one store at most.
use Rattle.std.proofs.Common.{◌≡◌, ◌≢◌, ⊎_elim, ℕ, ℤ, pos, negsuc, ◌<◌, ◌^◌, ◌++◌, ◌∷◌, [], List, refl, sym, ◌∙◌, ap, arith, Result, Ok, Err}
use Rattle.std.specs.Fmt.{decimal, signed_decimal}
use lib.Signed.{mag}
use Rattle.std.proofs.lemmas.Fmt.{signed_decimal_injective}
use Rattle.hex.specs.Hex.{decode_sized}
use Rattle.hex.specs.declared.error.FromHexError.{FromHexError}
use Rattle.fs_names.specs.declared.settings.Settings.{Settings}
use Rattle.fs_names.specs.declared.settings.Mode.{Mode}
use Rattle.tree_api.specs.Tree.{Path, Tree}
use Rattle.store_files.specs.Texts.{version_text, fsid_text, settings_text, IsFsid, IsMerge}
use Rattle.store_files.specs.Stores.{version_path, fsid_path, settings_path, IsUsable, HasVersion, HasFsid, HasSettings, HasNone, Versioned, IsStore, Lacks}
use Rattle.store_files.proofs.Decimals.{one_decimal, decimal_clear}
use Rattle.store_files.proofs.Fsids.{spelled_bytes}
use Rattle.store_files.proofs.Lines.{one_cut}
use Rattle.store_files.proofs.Spelled.{parts_are}
use Rattle.store_files.proofs.Spelling.{text_is}

pub one_version : (t : Tree) (n m : ℕ) → HasVersion t n → HasVersion t m → n ≡ m
one_version t n m one two =
    let same : version_text n ≡ version_text m = text_is t version_path (version_text n) (version_text m) one.1 two.1 in
    one_decimal n m one.0 two.0 (one_cut (decimal n) [] (decimal m) [] (decimal_clear n) (decimal_clear m) same).0

ok_same : (a b : List ℕ) → ◌≡◌ {A = Result (List ℕ) FromHexError} (Ok a) (Ok b) → a ≡ b
ok_same a b e = cc

pub one_fsid : (t : Tree) (a b : List ℕ) → HasFsid t a → HasFsid t b → a ≡ b
one_fsid t a b one two =
    let same : fsid_text a ≡ fsid_text b = text_is t fsid_path (fsid_text a) (fsid_text b) one.1 two.1 in
    ok_same a b (sym (spelled_bytes (fsid_text a) a one.0 refl) ∙ spelled_bytes (fsid_text a) b two.0 same)

small_merge : (z : ℤ) → IsMerge z → mag z < 2 ^ 63
small_merge (pos n) fits = omega (arith, fits.1)
small_merge (negsuc n) fits = omega (arith, fits.1)

record_is : (a b : Settings) → a.merge ≡ b.merge → a.split ≡ b.split → a.lfn ≡ b.lfn → a.mode ≡ b.mode → a ≡ b
record_is a b merge split lfn mode =
    ap (λ (z : ℤ). let s : Settings = record { merge = z; split = a.split; lfn = a.lfn; mode = a.mode } in s) merge
    ∙ ap (λ (n : ℕ). let s : Settings = record { merge = b.merge; split = n; lfn = a.lfn; mode = a.mode } in s) split
    ∙ ap (λ (n : ℕ). let s : Settings = record { merge = b.merge; split = b.split; lfn = n; mode = a.mode } in s) lfn
    ∙ ap (λ (m : Mode). let s : Settings = record { merge = b.merge; split = b.split; lfn = b.lfn; mode = m } in s) mode

pub one_settings : (t : Tree) (a b : Settings) → HasSettings t a → HasSettings t b → a ≡ b
one_settings t a b one two =
    let same : settings_text a ≡ settings_text b = text_is t settings_path (settings_text a) (settings_text b) one.1 two.1 in
    let parts = parts_are a b same in
    record_is a b
    (signed_decimal_injective a.merge b.merge (small_merge a.merge one.0.limits.merge) (small_merge b.merge two.0.limits.merge) parts.0)
    (one_decimal a.split b.split (omega (arith, one.0.limits.split.1)) (omega (arith, two.0.limits.split.1)) parts.1)
    (one_decimal a.lfn b.lfn (omega (arith, one.0.limits.lfn.1)) (omega (arith, two.0.limits.lfn.1)) parts.2)
    (one.0.mode ∙ sym two.0.mode)

pub one_store : (t : Tree) (fsid fsid2 : List ℕ) (set set2 : Settings) → IsStore t fsid set → IsStore t fsid2 set2 → (fsid ≡ fsid2) × (set ≡ set2)
one_store t fsid fsid2 set set2 one two = (one_fsid t fsid fsid2 one.identity two.identity, one_settings t set set2 one.settings two.settings)

-- and a store is refused for none of its texts
pub not_lacking : (t : Tree) (fsid : List ℕ) (set : Settings) → IsStore t fsid set → Lacks t → ⊥
not_lacking t fsid set is lacks = ⊎_elim (λ none. none 1 is.version) (λ rest. ⊎_elim (λ none. none fsid is.identity) (λ dirs. dirs.2 is.dirs) rest) lacks

pub not_other : (t : Tree) (fsid : List ℕ) (set : Settings) (n : ℕ) → IsStore t fsid set → Versioned t n → n ≢ 1 → ⊥
not_other t fsid set n is versioned other = other (one_version t n 1 versioned.0 is.version)

pub not_bad : (t : Tree) (fsid : List ℕ) (set : Settings) → IsStore t fsid set → HasNone (HasSettings t) → ⊥
not_bad t fsid set is none = none set is.settings
