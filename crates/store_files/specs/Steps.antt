-- What one call that makes a file or a directory of a store does.
use Rattle.std.specs.Prelude.{◌≡◌, ◌≢◌, ◌⊎◌, ℕ, List, [], ◌∷◌, ◌++◌, codes, Some, None}
use Rattle.fs_names.specs.declared.settings.Settings.{Settings}
use Rattle.store_files.specs.Texts.{version_text, fsid_text, settings_text}
use Rattle.tree_api.specs.Tree.{Path, Version, Tree, IsDir, current, new_dir, file_of, look}
use Rattle.commit_point.specs.Number.{aside, number_path, spelled}
use Rattle.store_files.specs.Stores.{version_path, fsid_path, settings_path, omap, trash}
use Rattle.tree_api.specs.Disk.{Disk, Everywhere}

-- names other than p's stay, and so does each node that has such a name
pub record Beside (p : Path) (old new : Tree) : Type 0 where
  pub snaps : new.snap ≡ old.snap
  pub others : (q : Path) → q ≢ p → new.at q ≡ old.at q
  pub nodes : (q : Path) (m : ℕ) → q ≢ p → old.at q ≡ Some m → new.node m ≡ old.node m

-- in each image the names are those that read, and at p stands this
pub record Stands (p : Path) (v : Version) (d : Disk) : Type 0 where
  pub names : Everywhere d (λ c. c.at ≡ d.tree.at)
  pub here : Everywhere d (λ c. look c p ≡ Some v)

-- q is none of these
abbrev pub Off : List Path → Path → Type 0
Off [] q = Unit {0}
Off (p ∷ ps) q = (q ≢ p) × Off ps q

-- names other than these stay, and so does each node that has such a name
pub record Among (ps : List Path) (old new : Tree) : Type 0 where
  pub snaps : new.snap ≡ old.snap
  pub others : (q : Path) → Off ps q → new.at q ≡ old.at q
  pub nodes : (q : Path) (m : ℕ) → Off ps q → old.at q ≡ Some m → new.node m ≡ old.node m

-- these stand there
abbrev pub AllIn : List (Path × Version) → Tree → Type 0
AllIn [] t = Unit {0}
AllIn (x ∷ xs) t = (look t x.0 ≡ Some x.1) × AllIn xs t

-- nothing stands but the root
abbrev pub IsBare : Tree → Type 0
IsBare t = IsDir t [] × ((q : Path) → q ≢ [] → t.at q ≡ None)

-- the directories of a store
abbrev pub dir_paths : List Path
dir_paths = current ∷ omap ∷ aside ∷ trash ∷ []

abbrev pub dir_items : List (Path × Version)
dir_items = (trash, new_dir) ∷ (aside, new_dir) ∷ (omap, new_dir) ∷ (current, new_dir) ∷ []

-- the first key file
abbrev pub key_path : Path
key_path = omap ++ codes "keys.0000000000000000" ∷ []

-- all but the version
abbrev pub rest_paths : List Path
rest_paths = current ∷ omap ∷ aside ∷ trash ∷ number_path ∷ key_path ∷ fsid_path ∷ settings_path ∷ []

abbrev pub rest_items : List ℕ → Settings → List (Path × Version)
rest_items fsid set =
    (settings_path, file_of (settings_text set)) ∷ (fsid_path, file_of (fsid_text fsid))
    ∷ (key_path, file_of []) ∷ (number_path, file_of (spelled 0)) ∷ dir_items

-- and the version
abbrev pub store_items : List ℕ → Settings → List (Path × Version)
store_items fsid set = (version_path, file_of (version_text 1)) ∷ rest_items fsid set

-- an image is no store yet, or has all but perhaps the version
abbrev pub Unfinished : List ℕ → Settings → Tree → Type 0
Unfinished fsid set t = (t.at version_path ≡ None) ⊎ AllIn (rest_items fsid set) t

-- all paths of a new store
abbrev pub store_paths : List Path
store_paths = version_path ∷ rest_paths
