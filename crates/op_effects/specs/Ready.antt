-- What stands on a disk between two operations.
use Rattle.std.specs.Prelude.{◌≡◌, ◌≢◌, ◌++◌, ◌∷◌, [], List, ℕ, codes, None}
use Rattle.fs_names.specs.declared.coll.Coll.{Coll}
use Rattle.fs_names.specs.declared.settings.Settings.{Settings}
use Rattle.fs_names.specs.Reading.{CollFits}
use Rattle.tree_api.specs.Tree.{Path, Tree, IsDir, IsFree, current, look}
use Rattle.tree_api.specs.Disk.{Disk, Everywhere}
use Rattle.lfn_index.specs.Directory.{entry}
use Rattle.lfn_index.specs.Changes.{aside}
use Rattle.lfn_index.specs.Maps.{Level}
use Rattle.lfn_index.specs.OneObject.{IsOff}
use Rattle.tree_stands.specs.Trees.{dir_of, dir_guard, AllWhole, GuardsLevel}

-- where collections go that are taken away
abbrev pub trash : Path
trash = current ++ codes "trash" ∷ []

-- each collection that reads in t is there in e, with the guard that reads
abbrev pub HasColls : Tree → Tree → Type 0
HasColls t e = (c : Coll) → CollFits c → dir_guard t c ≢ None → dir_guard e c ≡ dir_guard t c

-- Files can be built aside. No image has damage, and each has the collections that read. In each image a file that reads
-- stands at no other path, with the text and the guard that read.
pub record Ready (set : Settings) (d : Disk) : Type 0 where
  pub dir : IsDir d.tree aside
  pub places : (step : List ℕ) → IsFree d.tree (entry aside step)
  pub whole : Everywhere d (AllWhole set)
  pub colls : Everywhere d (HasColls d.tree)
  pub level : (c : Coll) → CollFits c → Level (dir_of c) d
  pub guards : (c : Coll) → CollFits c → GuardsLevel (dir_of c) d

-- what stands neither in this directory nor aside is as it was
abbrev pub OffStays : Path → Tree → Tree → Type 0
OffStays dir e f = (q : Path) → IsOff dir q → look f q ≡ look e q

-- no directory comes where files are built
abbrev pub KeepsPlaces : Tree → Tree → Type 0
KeepsPlaces e f = (step : List ℕ) → IsFree e (entry aside step) → IsFree f (entry aside step)
