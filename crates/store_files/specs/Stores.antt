-- What a tree spells of a store, and what reading it answers.
use Rattle.std.specs.Prelude.{◌≡◌, ◌≢◌, ◌⊎◌, ◌<◌, ◌≤◌, ◌^◌, ℕ, codes, ◌++◌, ◌∷◌, [], List, length, false, Option, Some, MatchOption, Result, Ok, Err, Vec}
use Rattle.std.specs.declared.alloc.Global.{Global}
use Rattle.tree_api.specs.Tree.{Path, Version, Tree, IsDir, current, look}
use Rattle.fs_names.specs.declared.settings.Settings.{Settings}
use Rattle.fs_names.specs.declared.settings.Mode.TheVariants.{WriteAhead}
use Rattle.commit_point.specs.Number.{aside}
use Rattle.store_files.specs.Texts.{version_text, fsid_text, settings_text, IsFsid, InLimits}
use Rattle.store_files.specs.declared.reading.Identity.{Identity}
use Rattle.store_files.specs.declared.fault.StoreFault.{StoreFault}
use Rattle.store_files.specs.declared.fault.StoreFault.TheVariants.{NotAStore, WrongVersion, BadSettings, Tree as TreeFailed, Memory}

abbrev pub version_path : Path
version_path = codes "store_version" ∷ []

abbrev pub fsid_path : Path
fsid_path = codes "fsid" ∷ []

abbrev pub settings_path : Path
settings_path = codes "settings" ∷ []

abbrev pub omap : Path
omap = current ++ codes "omap" ∷ []

abbrev pub trash : Path
trash = current ++ codes "trash" ∷ []

-- a file with this text stands at p
abbrev pub HasText : Tree → Path → List ℕ → Type 0
HasText t p text = (v : Version) × (look t p ≡ Some v) × (v.dir ≡ false) × (v.bytes ≡ text)

-- none with a text that is short
abbrev pub NoShortText : Tree → Path → Type 0
NoShortText t p = (text : List ℕ) → length text ≤ 64 → HasText t p text → ⊥

-- the text at p, or none where none is short
abbrev pub TellsText : Tree → Path → Option (Vec ℕ Global) → Type 0
TellsText t p o = MatchOption o (NoShortText t p) (λ text. HasText t p text.items)

-- the file at p spells x, which a store may have
abbrev pub Spells : {A : Type 0} → (A → List ℕ) → (A → Type 0) → Path → Tree → A → Type 0
Spells text fits p t x = fits x × HasText t p (text x)

abbrev pub HasNone : {A : Type 0} → (A → Type 0) → Type 0
HasNone {A} P = (x : A) → P x → ⊥

-- what there is, or none where there is none
abbrev pub Reads : {A : Type 0} → (A → Type 0) → Option A → Type 0
Reads P o = MatchOption o (HasNone P) P

-- in the limits, and of a mode that is built
pub record IsUsable (s : Settings) : Type 0 where
  pub limits : InLimits s
  pub mode : s.mode ≡ WriteAhead

abbrev pub HasVersion : Tree → ℕ → Type 0
HasVersion = Spells version_text (λ n. n < 2 ^ 64) version_path

abbrev pub HasFsid : Tree → List ℕ → Type 0
HasFsid = Spells fsid_text IsFsid fsid_path

abbrev pub HasSettings : Tree → Settings → Type 0
HasSettings = Spells settings_text IsUsable settings_path

-- the directories that each store has
pub record StoreDirs (t : Tree) : Type 0 where
  pub all : IsDir t current
  pub maps : IsDir t omap
  pub building : IsDir t aside
  pub removed : IsDir t trash

-- a store of this version, with this identity and these settings
pub record IsStore (t : Tree) (fsid : List ℕ) (set : Settings) : Type 0 where
  pub version : HasVersion t 1
  pub identity : HasFsid t fsid
  pub settings : HasSettings t set
  pub dirs : StoreDirs t

-- version and identity are spelled, and the version is this
abbrev pub Versioned : Tree → ℕ → Type 0
Versioned t n = HasVersion t n × (fsid : List ℕ) × HasFsid t fsid

-- why a tree is no store: a text is missing or misspelt, or, once all three are spelled, a directory is missing
abbrev pub Lacks : Tree → Type 0
Lacks t = HasNone (HasVersion t) ⊎ (HasNone (HasFsid t) ⊎ (Versioned t 1 × ((set : Settings) × HasSettings t set) × (StoreDirs t → ⊥)))

-- what reading answers, but for a fault of the tree and want of memory
abbrev pub Told : Tree → Result Identity StoreFault → Type 0
Told t (Ok x) = IsStore t x.fsid x.settings
Told t (Err NotAStore) = Lacks t
Told t (Err (WrongVersion n)) = Versioned t n × (n ≢ 1)
Told t (Err BadSettings) = Versioned t 1 × HasNone (HasSettings t)
Told t (Err TreeFailed) = Unit {0}
Told t (Err Memory) = Unit {0}
