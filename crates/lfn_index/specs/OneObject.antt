-- A call that concerns one object.
use Rattle.std.specs.Prelude.{◌≡◌, ◌≢◌, ◌⊎◌, ℕ, List, Option, Some}
use Rattle.fs_names.specs.declared.oid.Oid.{Oid}
use Rattle.fs_names.specs.declared.settings.Settings.{Settings}
use Rattle.fs_names.specs.Reading.{OidFits}
use Rattle.fs_names.specs.Text.{oid_text}
use Rattle.tree_api.specs.Tree.{Path, Version, Tree, look}
use Rattle.tree_api.specs.Disk.{Disk, Leaves}
use Rattle.lfn_index.specs.Directory.{entry, StandsAt}
use Rattle.lfn_index.specs.Changes.{aside, new_file}
use Rattle.lfn_index.specs.Maps.{Map, IsMap, Level, content, put, without}

-- What other objects hold is as it was, and what this one holds has come from what it held by K.
abbrev pub ForOne : Settings → Path → Oid → (Option Version → Option Version → Type 0) → Tree → Tree → Type 0
ForOne set dir oid K old new =
    (m : Map) → IsMap set old dir m
    → (w : Map) × IsMap set new dir w × ((o : Oid) → OidFits o → o ≢ oid → content w new o ≡ content m old o) × K (content m old oid) (content w new oid)

-- all objects of the directory hold what they held
abbrev pub Untouched : Settings → Path → Tree → Tree → Type 0
Untouched set d old new = (m : Map) → IsMap set old d m → (w : Map) × IsMap set new d w × ((o : Oid) → OidFits o → content w new o ≡ content m old o)

-- no entry of the directory or of the one aside
abbrev pub IsOff : Path → Path → Type 0
IsOff dir q = ((s : List ℕ) → q ≢ entry dir s) × ((s : List ℕ) → q ≢ entry aside s)

-- One object of one directory goes by K. All others stay, in each directory, and so does what stands neither in that one nor aside.
pub record OnlyOne (set : Settings) (dir : Path) (oid : Oid) (K : Option Version → Option Version → Type 0) (old new : Tree) : Type 0 where
  pub here : ForOne set dir oid K old new
  pub rest : (d : Path) → d ≢ aside → d ≢ dir → Untouched set d old new
  pub looks : (q : Path) → IsOff dir q → look new q ≡ look old q

-- it is as it was, or this
abbrev pub StaysOr : Option Version → Option Version → Option Version → Type 0
StaysOr to x y = (y ≡ x) ⊎ (y ≡ to)

-- it is this
abbrev pub Becomes : Option Version → Option Version → Option Version → Type 0
Becomes to x y = y ≡ to

-- a crash leaves this one as it was or with this, and all else as it was; and so it reads
abbrev pub OneGoes : Settings → Path → Oid → Option Version → Disk → Disk → Type 0
OneGoes set dir oid to old new = Level dir old → Leaves (OnlyOne set dir oid (StaysOr to)) old new

-- The object has a new file at p, and all else is as before.
pub record MapsNew (set : Settings) (dir : Path) (oid : Oid) (t now : Tree) (p : Path) : Type 0 where
  pub n : ℕ
  pub here : now.at p ≡ Some n
  pub stands : StandsAt set now dir (oid_text oid) p
  pub map : (m : Map) → IsMap set t dir m → IsMap set now dir (put (oid_text oid) n m)
  pub reads : OnlyOne set dir oid (Becomes (Some (new_file (oid_text oid)))) t now

-- each map of a directory is still one
abbrev pub SameMaps : Settings → Tree → Tree → Type 0
SameMaps set old new = (d : Path) (m : Map) → d ≢ aside → IsMap set old d m → IsMap set new d m

-- it is one without node n
abbrev pub LeftMaps : Settings → ℕ → Tree → Tree → Type 0
LeftMaps set n old new = (d : Path) (m : Map) → d ≢ aside → IsMap set old d m → IsMap set new d (without n m)

-- node n is the object's file in one directory, and in no other
pub record HomeMaps (set : Settings) (dir : Path) (oid : Oid) (n : ℕ) (old new : Tree) : Type 0 where
  pub here : (m : Map) → IsMap set old dir m → IsMap set new dir (put (oid_text oid) n (without n m))
  pub rest : (d : Path) (m : Map) → d ≢ aside → d ≢ dir → IsMap set old d m → IsMap set new d (without n m)

-- Node n is on its way from one path to be the object's file in the directory. It goes by K, and all else stays.
pub record FileMoves (set : Settings) (from dir : Path) (oid : Oid) (n : ℕ) (K : Version → Version → Type 0) (old new : Tree) : Type 0 where
  pub maps : SameMaps set old new ⊎ LeftMaps set n old new ⊎ HomeMaps set dir oid n old new
  pub own : K (old.node n) (new.node n)
  pub others : (k : ℕ) → k ≢ n → new.node k ≡ old.node k
  pub looks : (q : Path) → q ≢ from → IsOff dir q → look new q ≡ look old q
