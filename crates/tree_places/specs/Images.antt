-- What a tree shows of a store's history, and of the store itself.
use Rattle.std.specs.Prelude.{◌≡◌, ◌≤◌, ℕ, List, slice_get, Some}
use Rattle.fs_names.specs.declared.settings.Settings.{Settings}
use Rattle.fs_model.specs.declared.op.Op.{Op}
use Rattle.built_ops.specs.Built.{CanDo}
use Rattle.tree_api.specs.Tree.{Tree, IsDir, IsFree}
use Rattle.op_effects.specs.Clear.{IsClear}
use Rattle.op_effects.specs.Ready.{trash}
use Rattle.lfn_index.specs.Changes.{aside}
use Rattle.lfn_index.specs.Directory.{entry}
use Rattle.tree_stands.specs.Trees.{AllWhole}
use Rattle.commit_point.specs.Number.{number_path, HasNumber}
use Rattle.store_files.specs.declared.reading.Identity.{Identity}
use Rattle.store_files.specs.Stores.{IsStore}
use Rattle.store_history.specs.History.{History, end_of}
use Rattle.store_turns.specs.declared.numbers.How.TheVariants.{Live, Replay}
use Rattle.store_turns.specs.Theory.{Reads}
use Rattle.tree_places.specs.Line.{Past}

-- the store's own directories are there, no directory is in the way of a file that is built, nor of the committed number, and
-- nothing in that of an operation
pub record IsOwn (t : Tree) : Type 0 where
  pub building : IsDir t aside
  pub places : (step : List ℕ) → IsFree t (entry aside step)
  pub removed : IsDir t trash
  pub target : IsFree t number_path
  pub clear : IsClear t

-- and no collection has damage
pub record IsLaid (set : Settings) (t : Tree) : Type 0 where
  pub own : IsOwn t
  pub whole : AllWhole set t

-- each transaction of the history can be done
abbrev pub AllCan : History → Type 0
AllCan h = (i : ℕ) (ops : List Op) → slice_get h.txns i ≡ Some ops → CanDo ops

-- The committed number of the tree is n, each part of it is past the transactions up to lo, and past none above hi.
pub record Image (set : Settings) (h : History) (n lo hi : ℕ) (t : Tree) : Type 0 where
  pub base : h.base ≤ lo
  pub number : HasNumber t n
  pub own : IsOwn t
  pub fit : AllCan h
  pub past : Past set h lo hi t

-- Which store it is stands there too, as a mount reads it first.
pub record StoreImage (id : Identity) (h : History) (n lo hi : ℕ) (t : Tree) : Type 0 where
  pub store : IsStore t id.fsid id.settings
  pub image : Image id.settings h n lo hi t

-- What reads live is past no transaction to come. On replay it may be: that is what a crash left.
abbrev pub reads : Settings → Reads
reads set Live h m t = Past set h m m t
reads set Replay h m t = Past set h m (end_of h) t
