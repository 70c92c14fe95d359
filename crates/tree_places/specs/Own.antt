-- What a change of a tree leaves of what is the store's own.
use Rattle.std.specs.Prelude.{◌≡◌, ◌⊎◌, ◌<◌, ◌^◌, ℕ, Some}
use Rattle.fs_names.specs.declared.coll.Coll.{Coll}
use Rattle.fs_names.specs.declared.settings.Settings.{Settings}
use Rattle.fs_names.specs.Reading.{CollFits}
use Rattle.tree_api.specs.Tree.{Tree, look}
use Rattle.lfn_index.specs.Changes.{aside}
use Rattle.tree_stands.specs.Trees.{dir_of}
use Rattle.commit_point.specs.Number.{number_path, number_file, HasNumber, Renumbers}
use Rattle.store_history.specs.History.{History}
use Rattle.op_effects.specs.Clear.{KeepsClear, KeepsFree}
use Rattle.op_effects.specs.Ready.{OffStays, KeepsPlaces, trash}
use Rattle.op_effects.specs.Collections.{CollStays}
use Rattle.tree_places.specs.Line.{At}
use Rattle.tree_places.specs.Images.{IsOwn, Image}

-- the store's own directories and its number are as they were, and nothing came in the way
pub record OwnStays (e f : Tree) : Type 0 where
  pub building : look f aside ≡ look e aside
  pub removed : look f trash ≡ look e trash
  pub number : look f number_path ≡ look e number_path
  pub places : KeepsPlaces e f
  pub clear : KeepsClear e f

pub record OwnLaw : Type 0 where
  pub stays : (e f : Tree) (n : ℕ) → OwnStays e f → IsOwn e → HasNumber e n → IsOwn f × HasNumber f n
  pub keeps : (e f : Tree) → OwnStays e f → IsOwn e → IsOwn f
  -- as where one collection's directory and the one for building are changed, and no directory comes
  pub off : (c : Coll) (e f : Tree) → OffStays (dir_of c) e f → KeepsFree e f → OwnStays e f
  -- a number that is written changes no collection, and what was an image is one with its number or with this
  pub colls : (set : Settings) (seq : ℕ) (e f : Tree) → Renumbers seq e f → (c : Coll) → CollFits c → CollStays set c e f
  pub at : (set : Settings) (h : History) (k hi seq : ℕ) (e f : Tree) → Renumbers seq e f → At set h k hi e → At set h k hi f
  pub renumbered : (seq : ℕ) (e f : Tree) → Renumbers seq e f → IsOwn e → IsOwn f
  pub numbered : (set : Settings) (h : History) (n lo hi seq : ℕ) (e f : Tree) → seq < 2 ^ 63 → Renumbers seq e f → Image set h n lo hi e
      → Image set h n lo hi f ⊎ Image set h seq lo hi f
  pub then_number : (set : Settings) (h : History) (n lo hi seq : ℕ) (t : Tree) → seq < 2 ^ 63 → look t number_path ≡ Some (number_file seq)
      → Image set h n lo hi t → Image set h seq lo hi t
