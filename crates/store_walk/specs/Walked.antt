-- What a look over a store's tree finds.
use Rattle.std.specs.Prelude.{◌≡◌, ◌≢◌, ◌∷◌, [], ℕ, List, None}
use Rattle.fs_names.specs.declared.coll.Coll.{Coll}
use Rattle.fs_names.specs.declared.settings.Settings.{Settings}
use Rattle.fs_names.specs.Reading.{CollFits}
use Rattle.fs_names.specs.Text.{coll_text}
use Rattle.tree_api.specs.Tree.{Path, Tree, IsDir, IsFree}
use Rattle.tree_api.specs.declared.tree.Entry.{Entry}
use Rattle.lfn_index.specs.Changes.{aside}
use Rattle.lfn_index.specs.Directory.{entry}
use Rattle.lfn_index.specs.Maps.{Whole}
use Rattle.commit_point.specs.Number.{number_path}
use Rattle.tree_stands.specs.Trees.{AllWhole}
use Rattle.op_effects.specs.Clear.{IsClear}
use Rattle.op_effects.specs.Ready.{trash}

-- only files stand directly in it
abbrev pub HoldsFiles : Path → Tree → Type 0
HoldsFiles dir t = (step : List ℕ) → IsFree t (entry dir step)

-- the name of a collection
abbrev pub IsColl : List ℕ → Type 0
IsColl step = (c : Coll) × CollFits c × (step ≡ coll_text c)

-- the store's own directories stand, nothing is in the way, and no collection has damage
pub record IsWalked (set : Settings) (t : Tree) : Type 0 where
  pub building : IsDir t aside
  pub places : (step : List ℕ) → IsFree t (entry aside step)
  pub removed : IsDir t trash
  pub target : IsFree t number_path
  pub clear : IsClear t
  pub whole : AllWhole set t

-- what concerns the store's own directories and files
pub record OwnStands (t : Tree) : Type 0 where
  pub building : IsDir t aside
  pub places : HoldsFiles aside t
  pub removed : IsDir t trash
  pub target : IsFree t number_path

-- a collection's directory: only files of objects stand in it
pub record HoldsObjects (set : Settings) (path : Path) (t : Tree) : Type 0 where
  pub there : IsDir t path
  pub whole : Whole set path t
  pub flat : HoldsFiles path t

-- what may stand at this step of `current`: where a collection has that name, its directory
abbrev pub IsPlaced : Settings → Path → Tree → List ℕ → Type 0
IsPlaced set dir t step = IsColl step → HoldsObjects set (entry dir step) t

abbrev pub EntryPlaced : Settings → Path → Tree → Entry → Type 0
EntryPlaced set dir t e = (step : List ℕ) → e.step ≡ step ∷ [] → IsPlaced set dir t step

-- and all that stands there may
abbrev pub AllPlaced : Settings → Path → Tree → Type 0
AllPlaced set dir t = (step : List ℕ) → t.at (entry dir step) ≢ None → IsPlaced set dir t step
