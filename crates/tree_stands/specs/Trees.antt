-- What a tree shows, by a map of each collection.
use Rattle.std.specs.Prelude.{◌≡◌, ◌≢◌, ℕ, cond, List, [], ◌∷◌, ◌++◌, Option, Some, None}
use Rattle.std.specs.Option.{option_map}
use Rattle.fs_names.specs.declared.coll.Coll.{Coll}
use Rattle.fs_names.specs.declared.oid.Oid.{Oid}
use Rattle.fs_names.specs.declared.settings.Settings.{Settings}
use Rattle.fs_names.specs.Reading.{OidFits, CollFits}
use Rattle.fs_names.specs.Text.{coll_text}
use Rattle.tree_api.specs.Tree.{Path, Version, Tree, look, current}
use Rattle.tree_api.specs.Disk.{Disk}
use Rattle.lfn_index.specs.Directory.{entry}
use Rattle.lfn_index.specs.Maps.{Map, IsMap, Whole, content}
use Rattle.replay_guard.specs.Guards.{guard_name}
use Rattle.replay_laws.specs.Replay.{Case}
use Rattle.replay_laws.specs.Places.{AtEach}
use Rattle.fs_cells.specs.declared.cell.Cell.{Cell}
use Rattle.fs_cells.specs.Values.{Value}
use Rattle.tree_stands.specs.Names.{Name, name_fits, coll_fits}
use Rattle.tree_stands.specs.Shown.{Counts, Shown, cells_in, guards_in}

-- where a collection stands
abbrev pub dir_of : Coll → Path
dir_of c = current ++ coll_text c ∷ []

abbrev pub Maps : Type 0
Maps = Coll → Map

-- a map of each collection; that of a missing one has no file
abbrev pub AreMaps : Settings → Tree → Maps → Type 0
AreMaps set t M = (c : Coll) → CollFits c → IsMap set t (dir_of c) (M c)

-- no collection has damage
abbrev pub AllWhole : Settings → Tree → Type 0
AllWhole set t = (c : Coll) → CollFits c → Whole set (dir_of c) t

abbrev pub guard_of : Version → Option (List ℕ)
guard_of v = v.attr guard_name

-- the guard of a collection's directory, where that is there
abbrev pub dir_guard : Tree → Coll → Option (Option (List ℕ))
dir_guard t c = option_map guard_of (look t (dir_of c))

-- what a tree shows; a name that no value can have shows nothing
abbrev pub shown : Maps → Tree → Shown
shown M t = record { object = λ n. cond (name_fits n) (content (M n.coll) t n.oid) None; dir = λ c. cond (coll_fits c) (dir_guard t c) None }

-- the cells and guards of a tree are at these places
abbrev pub TreeAt : Settings → Counts → Case Cell Value → (Cell → ℕ) → (Cell → ℕ) → Tree → Type 0
TreeAt set g c place passed t = (M : Maps) → AreMaps set t M → AtEach c place (cells_in (shown M t)) (guards_in g (shown M t)) passed

-- In one collection: its guard stays, and what each object holds goes by K.
pub record InColl (set : Settings) (c : Coll) (K : Oid → Option Version → Option Version → Type 0) (e f : Tree) : Type 0 where
  pub dir : dir_guard f c ≡ dir_guard e c
  pub objects : (m : Map) → IsMap set e (dir_of c) m
      → (w : Map) × IsMap set f (dir_of c) w × ((o : Oid) → OidFits o → K o (content m e o) (content w f o))

-- this name by K, all others stay
pub record OnlyBy (n : Name) (K : Option Version → Option Version → Type 0) (o : Name) (x y : Option Version) : Type 0 where
  pub other : o ≢ n → y ≡ x
  pub here : o ≡ n → K x y

abbrev pub name_at : Coll → Oid → Name
name_at c o = record { coll = c; oid = o }

-- over all collections: one object goes by K, and all else that is shown stays
abbrev pub ForObject : Settings → Name → (Option Version → Option Version → Type 0) → Tree → Tree → Type 0
ForObject set n K e f = (c : Coll) → CollFits c → InColl set c (λ o. OnlyBy n K (name_at c o)) e f

-- in each image a node that reads in the directory has the guard that reads
abbrev pub GuardsLevel : Path → Disk → Type 0
GuardsLevel dir d = (c : Tree) (step : List ℕ) (n : ℕ) → d.may c → d.tree.at (entry dir step) ≡ Some n
    → (c.node n).attr guard_name ≡ (d.tree.node n).attr guard_name
