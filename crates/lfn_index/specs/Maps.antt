-- The objects of a directory: which node is whose file, and what it holds.
use Rattle.std.specs.Prelude.{◌≡◌, ◌≢◌, ◌⊎◌, ◌==◌, ℕ, List, [], ◌∷◌, Option, Some, None, if◌then◌else◌}
use Rattle.std.specs.Str.{bytes_eq}
use Rattle.fs_names.specs.declared.oid.Oid.{Oid}
use Rattle.fs_names.specs.declared.settings.Settings.{Settings}
use Rattle.fs_names.specs.Reading.{OidFits}
use Rattle.fs_names.specs.Text.{oid_text}
use Rattle.tree_api.specs.Tree.{Path, Version, Tree, held}
use Rattle.tree_api.specs.Disk.{Disk, Everywhere, Keeps}
use Rattle.lfn_index.specs.Directory.{lfn_name, entry, HasFile, IsFileOf}
use Rattle.lfn_index.specs.Listing.{IsSubdir}
use Rattle.lfn_index.specs.declared.listing.Found.{Found}
use Rattle.lfn_index.specs.Changes.{aside}

-- which node is the file of an object
abbrev pub Map : Type 0
Map = Oid → Option ℕ

-- These are the files of the directory. Each entry is one of them or a hashed subdirectory.
pub record IsMap (set : Settings) (t : Tree) (dir : Path) (m : Map) : Type 0 where
  pub files : (o : Oid) (step : List ℕ) (n : ℕ) → IsFileOf set t dir o step n → m o ≡ Some n
  pub there : (o : Oid) (n : ℕ) → OidFits o → m o ≡ Some n → (step : List ℕ) × HasFile set t dir (oid_text o) step n
  pub known : (step : List ℕ) (n : ℕ) → t.at (entry dir step) ≡ Some n → ((o : Oid) × IsFileOf set t dir o step n) ⊎ IsSubdir t dir step

-- there is no damage
abbrev pub Whole : Settings → Path → Tree → Type 0
Whole set dir t = (m : Map) × IsMap set t dir m

-- the nodes of the files that were found
abbrev pub map_of : Tree → List Found → Map
map_of t [] o = None
map_of t (f ∷ fs) o = if bytes_eq (oid_text f.oid) (oid_text o) then t.at f.path else map_of t fs o

-- with a node for this text
abbrev pub put : List ℕ → ℕ → Map → Map
put text n m o = if bytes_eq (oid_text o) text then Some n else m o

-- without this node
abbrev pub but : ℕ → Option ℕ → Option ℕ
but n None = None
but n (Some k) = if k == n then None else Some k

abbrev pub without : ℕ → Map → Map
without n m o = but n (m o)

abbrev pub IsAside : Path → Type 0
IsAside q = (s : List ℕ) × (q ≡ entry aside s)

-- In each image a node that stands in the directory stands at no other path, but maybe aside, and has the same text.
pub record Level (dir : Path) (d : Disk) : Type 0 where
  pub alone : (c : Tree) (step : List ℕ) (q : Path) (n : ℕ) → d.may c → d.tree.at (entry dir step) ≡ Some n → c.at q ≡ Some n → (q ≡ entry dir step) ⊎ IsAside q
  pub called : (c : Tree) (step : List ℕ) (n : ℕ) → d.may c → d.tree.at (entry dir step) ≡ Some n → (c.node n).attr lfn_name ≡ (d.tree.node n).attr lfn_name

-- in each image a node that reads in the directory has what reads in this attribute
abbrev pub AttrLevel : List ℕ → Path → Disk → Type 0
AttrLevel key dir d = (c : Tree) (step : List ℕ) (n : ℕ) → d.may c → d.tree.at (entry dir step) ≡ Some n → (c.node n).attr key ≡ (d.tree.node n).attr key

-- the same of all nodes but this
pub record LevelBut (n : ℕ) (dir : Path) (d : Disk) : Type 0 where
  pub alone : (c : Tree) (step : List ℕ) (q : Path) (k : ℕ) → k ≢ n → d.may c → d.tree.at (entry dir step) ≡ Some k → c.at q ≡ Some k → (q ≡ entry dir step) ⊎ IsAside q
  pub called : (c : Tree) (step : List ℕ) (k : ℕ) → k ≢ n → d.may c → d.tree.at (entry dir step) ≡ Some k → (c.node k).attr lfn_name ≡ (d.tree.node k).attr lfn_name

-- no crash leaves damage, where none would have before
abbrev pub KeepsWhole : Settings → Disk → Disk → Type 0
KeepsWhole set old new = (dir : Path) → dir ≢ aside → Level dir old → Everywhere old (Whole set dir) → Keeps (Whole set dir) old new

abbrev pub KeepsLevel : Disk → Disk → Type 0
KeepsLevel old new = (dir : Path) → dir ≢ aside → Level dir old → Level dir new

abbrev pub KeepsAttrs : Disk → Disk → Type 0
KeepsAttrs old new = (key : List ℕ) (dir : Path) → dir ≢ aside → AttrLevel key dir old → AttrLevel key dir new

-- but for the node that stood at this path
abbrev pub KeepsOthersLevel : Path → Disk → Disk → Type 0
KeepsOthersLevel from old new = (n : ℕ) → old.tree.at from ≡ Some n → (dir : Path) → dir ≢ aside → Level dir old → LevelBut n dir new

-- what an object's file holds
abbrev pub content : Map → Tree → Oid → Option Version
content m t o = held (m o) t.node

-- which node the map has for an object that was looked for
abbrev pub IsInMap : Tree → Map → Oid → Option Path → Type 0
IsInMap t m o None = m o ≡ None
IsInMap t m o (Some p) = (n : ℕ) × (t.at p ≡ Some n) × (m o ≡ Some n)
