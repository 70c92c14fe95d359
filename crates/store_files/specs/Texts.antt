-- How a store's version, its identity and its settings are spelled, and which settings a store may have.
use Rattle.std.specs.Prelude.{◌≡◌, ◌≢◌, ◌<◌, ◌≤◌, ℕ, ℤ, pos, negsuc, suc, codes, ◌++◌, ◌∷◌, [], List, length, All, Option, MatchOption}
use Rattle.std.specs.Fmt.{decimal, signed_decimal}
use Rattle.hex.specs.Hex.{encode_lower}
use Rattle.fs_names.specs.declared.settings.Settings.{Settings}
use Rattle.fs_names.specs.declared.settings.Mode.{Mode}
use Rattle.fs_names.specs.declared.settings.Mode.TheVariants.{WriteAhead, Parallel}
use Rattle.store_files.specs.Lines.{line}

-- what a text spells, or none where it spells nothing that fits
abbrev pub IsSpelled : {A : Type 0} → (A → List ℕ) → (A → Type 0) → List ℕ → Option A → Type 0
IsSpelled {A} spell fits text o = MatchOption o ((x : A) → fits x → text ≢ spell x) (λ x. fits x × (text ≡ spell x))

-- a decimal number and a newline
abbrev pub version_text : ℕ → List ℕ
version_text n = decimal n ++ 10 ∷ []

-- 32 lower-case hexadecimal digits and a newline
abbrev pub fsid_text : List ℕ → List ℕ
fsid_text fsid = encode_lower fsid ++ 10 ∷ []

pub record IsFsid (fsid : List ℕ) : Type 0 where
  pub long : length fsid ≡ 16
  pub bytes : All (λ b. b < 256) fsid

abbrev pub mode_word : Mode → List ℕ
mode_word WriteAhead = codes "wal"
mode_word Parallel = codes "parallel"

-- four lines
abbrev pub four_lines : List ℕ → List ℕ → List ℕ → List ℕ → List ℕ
four_lines merge split lfn mode = line (codes "merge ") merge (line (codes "split ") split (line (codes "lfn ") lfn (line (codes "mode ") mode [])))

unfoldable pub settings_text : Settings → List ℕ
settings_text s = four_lines (signed_decimal s.merge) (decimal s.split) (decimal s.lfn) (mode_word s.mode)

abbrev pub IsWithin : ℕ → ℕ → Type 0
IsWithin most n = (1 ≤ n) × (n ≤ most)

-- from -1,000 to 1,000, without 0
abbrev pub IsMerge : ℤ → Type 0
IsMerge (pos n) = IsWithin 1000 n
IsMerge (negsuc n) = IsWithin 1000 (suc n)

pub record InLimits (s : Settings) : Type 0 where
  pub merge : IsMerge s.merge
  pub split : IsWithin 100 s.split
  pub lfn : IsWithin 40 s.lfn
