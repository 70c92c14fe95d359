-- What the tree and its images hold of a store's history, between its turns.
use Rattle.std.specs.Prelude.{◌≡◌, ◌≢◌, ℕ, ◌+◌, ◌-◌, List, [], get_or, slice_get, Option, Some, None}
use Rattle.fs_names.specs.declared.settings.Settings.{Settings}
use Rattle.fs_names.specs.declared.coll.Coll.{Coll}
use Rattle.fs_names.specs.Reading.{CollFits}
use Rattle.fs_model.specs.declared.op.Op.{Op}
use Rattle.fs_model.specs.Objects.{Objects}
use Rattle.tree_api.specs.Tree.{Version, Tree}
use Rattle.tree_api.specs.Disk.{Disk, Everywhere, Moves}
use Rattle.lfn_index.specs.Maps.{content}
use Rattle.turn_core.specs.declared.slots.Slot.{Slot}
use Rattle.turn_core.specs.declared.state.Core.{Core}
use Rattle.replay_laws.specs.Replay.{Case}
use Rattle.slot_laws.specs.History.{count, line, place}
use Rattle.turn_history.specs.History.{opens_of}
use Rattle.fs_cells.specs.declared.cell.Cell.{Cell}
use Rattle.fs_cells.specs.Values.{Value, raise, cells_of}
use Rattle.fs_cells.specs.Standing.{history_of}
use Rattle.tree_stands.specs.Names.{Name}
use Rattle.tree_stands.specs.Shown.{Counts, Paired}
use Rattle.tree_stands.specs.Trees.{Maps, AreMaps, AllWhole, dir_guard, TreeAt, ForObject}

-- the objects that a store was mounted with, after which number, and the transactions since
pub record History : Type 0 where
  pub base : ℕ
  pub objects : Objects
  pub txns : List (List Op)

-- the operations of the transactions up to the one started last, in order
abbrev pub line_of : History → ℕ → Case Cell Value
line_of h started = line raise (cells_of h.objects) (history_of h.txns) (started - h.base)

-- how many of them have gone past a cell
abbrev pub place_of : History → Core → Cell → ℕ
place_of h core = place (history_of h.txns) (core.started - h.base) (opens_of h.base core.slots)

-- how many the transactions up to this number have
abbrev pub count_to : History → ℕ → ℕ
count_to h number = count (history_of h.txns) (number - h.base)

-- where a slot is: its transaction's first operation, and those done
abbrev pub slot_place : History → Slot → ℕ
slot_place h slot = count (history_of h.txns) (slot.seq - (h.base + 1)) + slot.next

-- the next operation of a slot's transaction
abbrev pub IsNext : History → Slot → Op → Type 0
IsNext h slot op = slice_get (get_or h.txns (slot.seq - (h.base + 1)) []) slot.next ≡ Some op

-- An image beside the tree that reads, with this number: its cells are past the transactions up to it, it has no damage, and
-- a collection that reads has the guard that reads.
pub record Image (set : Settings) (g : Counts) (h : History) (started number : ℕ) (passed : Cell → ℕ) (t e : Tree) : Type 0 where
  pub at : TreeAt set g (line_of h started) (λ x. count_to h number) passed e
  pub whole : AllWhole set e
  pub dirs : (coll : Coll) → CollFits coll → dir_guard t coll ≢ None → dir_guard e coll ≡ dir_guard t coll

-- What stands between two turns: what reads is where the slots are, and each image has this number.
pub record Stand (set : Settings) (g : Counts) (h : History) (core : Core) (number : ℕ) (passed : Cell → ℕ) (d : Disk) : Type 0 where
  pub reads : TreeAt set g (line_of h core.started) (place_of h core) passed d.tree
  pub images : Everywhere d (Image set g h core.started number passed d.tree)

-- What an operation on one object owes: each image since entry comes from one at entry, where each cell of the object with
-- its guard is as in that image, as it read, or as F makes it of that, and all else that is shown stays.
abbrev pub ObjectCrash : Settings → Name → (Option Version → Option Version) → Disk → Disk → Type 0
ObjectCrash set n F old new =
    (M : Maps) → AreMaps set old.tree M
    → Moves (ForObject set n (Paired (content (M n.coll) old.tree n.oid) (F (content (M n.coll) old.tree n.oid)))) old new
