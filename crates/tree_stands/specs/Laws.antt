-- An Apply turn on one object, from the files to what the store keeps.
use Rattle.std.specs.Prelude.{◌≡◌, ◌≢◌, ℕ, ◌≤◌, Option, None}
use Rattle.fs_names.specs.declared.settings.Settings.{Settings}
use Rattle.fs_model.specs.declared.op.Op.{Op}
use Rattle.tree_api.specs.Tree.{Version, Tree}
use Rattle.lfn_index.specs.Maps.{content}
use Rattle.turn_core.specs.declared.turn.Turn.TheVariants as turn
use Rattle.turn_core.specs.declared.slots.Slot.{Slot}
use Rattle.turn_core.specs.declared.state.Core.{Core}
use Rattle.turn_core.specs.Slots.{Holding}
use Rattle.turn_core.specs.Phases.{target}
use Rattle.turn_core.specs.Table.{after}
use Rattle.turn_core.specs.Chain.{Chain, IsReady}
use Rattle.turn_history.specs.History.{Opens}
use Rattle.fs_cells.specs.declared.cell.Cell.{Cell}
use Rattle.fs_cells.specs.declared.cell.Part.{Part}
use Rattle.fs_cells.specs.Parts.{CellAct}
use Rattle.fs_cells.specs.Standing.{group_at, history_of}
use Rattle.tree_stands.specs.Names.{Name, NameFits, cell_at}
use Rattle.tree_stands.specs.Shown.{Counts, guards_in, Paired}
use Rattle.tree_stands.specs.Trees.{Maps, AreMaps, dir_guard, shown, TreeAt, ForObject}
use Rattle.tree_stands.specs.Standing.{History, line_of, place_of, slot_place, IsNext, Image}
use Rattle.tree_stands.specs.Edits.{IsOn, Edits}

-- An Apply turn of the slot at i is ready, and its operation is on one object, as this row.
pub record AppliesTo (h : History) (core : Core) (i : ℕ) (slot : Slot) (n : Name) (row : Part → CellAct) : Type 0 where
  pub chain : Chain core
  pub opens : Opens group_at h.base (history_of h.txns) core
  pub ready : IsReady core (turn.Apply i) None
  pub holding : Holding core.slots i slot
  pub op : Op
  pub next : IsNext h slot op
  pub is_on : IsOn op n row
  pub fits : NameFits n

-- Before it: what reads is where the slots are and an image of itself, the object's collection is there, and no guard leaves
-- the operation out.
pub record Before (set : Settings) (g : Counts) (h : History) (core : Core) (number : ℕ) (passed : Cell → ℕ) (slot : Slot) (n : Name) (t : Tree) : Type 0 where
  pub reads : TreeAt set g (line_of h core.started) (place_of h core) passed t
  pub itself : Image set g h core.started number passed t t
  pub taken : number ≤ target core.committed core.phase
  pub there : dir_guard t n.coll ≢ None
  pub applies : (M : Maps) → AreMaps set t M → (part : Part) → guards_in g (shown M t) (cell_at n part) ≤ slot_place h slot

pub record ApplyLaw (set : Settings) (g : Counts) (h : History) (core : Core) (number : ℕ) (passed : Cell → ℕ) (i : ℕ) (n : Name) (F : Option Version → Option Version) (t : Tree) : Type 0 where
  -- what a crash makes of an image is an image
  pub keeps : (M : Maps) → AreMaps set t M → (e f : Tree) → Image set g h core.started number passed t e
      → ForObject set n (Paired (content (M n.coll) t n.oid) (F (content (M n.coll) t n.oid))) e f → Image set g h core.started number passed t f
  -- once it is done, what reads is where the slots are then, and beside it each image is one
  pub goes : (u : Tree) → ForObject set n (λ x y. y ≡ F x) t u
      → TreeAt set g (line_of h core.started) (place_of h (after core (turn.Apply i) None)) passed u
  pub beside : (u e : Tree) → ForObject set n (λ x y. y ≡ F x) t u → Image set g h core.started number passed t e
      → Image set g h core.started number passed u e

-- An operation on one object that leads its file as its row says.
abbrev pub EditLaw : Type 0
EditLaw = (set : Settings) (g : Counts) (h : History) (core : Core) (number : ℕ) (passed : Cell → ℕ) (i : ℕ) (slot : Slot) (n : Name) (row : Part → CellAct) (F : Option Version → Option Version) (t : Tree)
    → AppliesTo h core i slot n row → ((a : Option Version) → Edits row a (F a)) → Before set g h core number passed slot n t
    → ApplyLaw set g h core number passed i n F t
