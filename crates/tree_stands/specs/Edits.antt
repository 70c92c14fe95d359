-- What an operation on one object does to its file.
use Rattle.std.specs.Prelude.{◌≡◌, ◌⊎◌, true, Option, None}
use Rattle.tree_api.specs.Tree.{Version}
use Rattle.fs_model.specs.declared.op.Op.{Op}
use Rattle.replay_laws.specs.Replay.{sets, Source, effect, moved}
use Rattle.fs_cells.specs.declared.cell.Cell.{Cell}
use Rattle.fs_cells.specs.declared.cell.Part.{Part}
use Rattle.fs_cells.specs.Values.{Value, raise}
use Rattle.fs_cells.specs.Parts.{CellAct}
use Rattle.fs_cells.specs.Actions.{act_of, on_object}
use Rattle.fs_cells.specs.Laws.{is_named}
use Rattle.tree_stands.specs.Names.{Name, cell_at}
use Rattle.tree_stands.specs.Shown.{value_in, guard_in}

-- the operation names this object's collection, does this to its parts, and leaves all other cells
pub record IsOn (op : Op) (n : Name) (row : Part → CellAct) : Type 0 where
  pub named : (part : Part) → is_named op (cell_at n part) ≡ true
  pub acts : (x : Cell) → act_of op x ≡ on_object n.coll n.oid row x

-- The row copies nothing, and leads from what the file a holds to what b holds. The guard stays, or goes with all the cells.
pub record Edits (row : Part → CellAct) (a b : Option Version) : Type 0 where
  pub no_copy : (part : Part) (y : Cell) → Source (row part) y → ⊥
  pub gives : (part : Part) (s : Cell → Value) → value_in b part ≡ moved raise (effect (row part) s) (value_in a part)
  pub guard : (guard_in b ≡ guard_in a) ⊎ (guard_in b ≡ None) × ((part : Part) → (v : Value) × (row part ≡ sets v))
