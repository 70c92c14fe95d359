-- Files that go from one directory.
use Rattle.std.specs.Prelude.{◌≡◌, ◌⊎◌, ℕ, List, None}
use Rattle.tree_api.specs.Tree.{Path, Names}
use Rattle.tree_api.specs.Disk.{Disk, Leaves}
use Rattle.tree_api.specs.Renaming.{Renamed, NoNode}
use Rattle.lfn_index.specs.Directory.{entry}
use Rattle.coll_ops.specs.Places.{Within}

-- it stands directly in the directory
abbrev pub IsIn : Path → Path → Type 0
IsIn dir q = (step : List ℕ) × (q ≡ entry dir step)

-- or at whatever depth
abbrev pub IsBelow : Path → Path → Type 0
IsBelow dir q = (step : List ℕ) × Within (entry dir step) q

-- of the names in it some are gone, and all others stay
abbrev pub Thinned : Path → Names → Names → Type 0
Thinned dir old new = (q : Path) → (new q ≡ old q) ⊎ ((new q ≡ None) × IsIn dir q)

abbrev pub Thins : Path → Disk → Disk → Type 0
Thins dir old new = Leaves (Renamed (λ c. Thinned dir old.tree.at c.at) NoNode) old new
