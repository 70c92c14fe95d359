-- Where a file of an object may go in another directory.
use Rattle.std.specs.Prelude.{◌≡◌, ℕ, List, Option, None}
use Rattle.fs_names.specs.declared.oid.Oid.{Oid}
use Rattle.fs_names.specs.declared.settings.Settings.{Settings}
use Rattle.fs_names.specs.Text.{oid_text}
use Rattle.tree_api.specs.Tree.{Path, Version, Tree, MovedFile}
use Rattle.tree_api.specs.Disk.{Disk, Moves}
use Rattle.lfn_index.specs.FileName.{CalledBy}
use Rattle.lfn_index.specs.Directory.{entry, HasFile, IsAbsent}
use Rattle.lfn_index.specs.Maps.{Level}
use Rattle.lfn_index.specs.OneObject.{HomeMaps, FileMoves}

-- a free name of the directory, and a file of the text with this name and this in `lfn` is one with that name too
abbrev pub IsRoom : Settings → Tree → Path → List ℕ → List ℕ → Path → Type 0
IsRoom set t dir text step p = (step2 : List ℕ) × (p ≡ entry dir step2) × (t.at p ≡ None) × ((lfn : Option (List ℕ)) → CalledBy set text step lfn → CalledBy set text step2 lfn)

-- the file has gone there; other names and all nodes stay
pub record Shifted (set : Settings) (from dir : Path) (text step : List ℕ) (t now : Tree) (p : Path) : Type 0 where
  pub room : IsRoom set t dir text step p
  pub moved : MovedFile from p t.at now.at
  pub nodes : now.node ≡ t.node
  pub snaps : now.snap ≡ t.snap

-- the file is the object's in a directory, and the object has none in this one
pub record IsApart (set : Settings) (from dir : Path) (oid : Oid) (step : List ℕ) (n : ℕ) (d : Disk) : Type 0 where
  pub home : Path
  pub path : from ≡ entry home step
  pub file : HasFile set d.tree home (oid_text oid) step n
  pub absent : IsAbsent set d.tree dir (oid_text oid)
  pub level : Level home d
  pub target : Level dir d

abbrev pub IsSame : Version → Version → Type 0
IsSame x y = y ≡ x

-- a crash leaves the object in the one directory or the other
abbrev pub ObjectShifts : Settings → Path → Path → Oid → List ℕ → Disk → Disk → Type 0
ObjectShifts set from dir oid step old new = (n : ℕ) → IsApart set from dir oid step n old → Moves (FileMoves set from dir oid n IsSame) old new

-- so it reads
abbrev pub ObjectShifted : Settings → Path → Path → Oid → List ℕ → Disk → Disk → Type 0
ObjectShifted set from dir oid step old new = (n : ℕ) → IsApart set from dir oid step n old → HomeMaps set dir oid n old.tree new.tree
