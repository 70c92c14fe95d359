-- Actions are what operations mean, and guarded replay of operations ends in the objects that they mean.
use Rattle.std.specs.Prelude.{◌≡◌, ℕ, Bool, true, false, List, [], ◌∷◌, length, map}
use Rattle.std.specs.List.{list_all, list_any}
use Rattle.std.specs.FinMap as fin
use Rattle.fs_names.specs.declared.coll.Coll.{Coll}
use Rattle.fs_model.specs.declared.op.Op.{Op}
use Rattle.fs_model.specs.Named.{needed, colls_named}
use Rattle.fs_model.specs.Objects.{Objects}
use Rattle.fs_model.specs.Rows.{row, fold_ops}
use Rattle.replay_laws.specs.Replay.{leaves, Source, Case, effect, moved, fold, GoodStart, Replayed}
use Rattle.fs_cells.specs.declared.cell.Cell.{Cell}
use Rattle.fs_cells.specs.Values.{Value, raise, cells_of, is_omap}
use Rattle.fs_cells.specs.Actions.{in_coll, act_of}

-- each collection that an operation names is there, but the one that it makes
abbrev pub IsAllowed : Objects → Op → Type 0
IsAllowed O op = list_all (λ c. fin.contains_key O c) (needed op) ≡ true

-- after the operations before it
abbrev pub AreAllowed : Objects → List Op → Type 0
AreAllowed O [] = Unit {0}
AreAllowed O (op ∷ ops) = IsAllowed O op × AreAllowed (row O op) ops

-- the cells after an operation
abbrev pub cells_after : (Cell → Value) → Op → Cell → Value
cells_after s op x = moved raise (effect (act_of op x) s) (s x)

-- an operation means for each cell what its action says
abbrev pub RowLaw : Type 0
RowLaw = (O : Objects) (op : Op) → IsAllowed O op → (x : Cell) → cells_of (row O op) x ≡ cells_after (cells_of O) op x

-- and so do several
abbrev pub FoldLaw : Type 0
FoldLaw = (O : Objects) (ops : List Op) → AreAllowed O ops → (x : Cell)
    → cells_of (fold_ops O ops) x ≡ fold raise (map act_of ops) (cells_of O) x

-- objects are determined by which collections are there, and by their cells
abbrev pub DeterminedLaw : Type 0
DeterminedLaw = (O P : Objects) → ((c : Coll) → fin.contains_key O c ≡ fin.contains_key P c)
    → ((x : Cell) → cells_of O x ≡ cells_of P x) → O ≡ P

-- replay of operations that begin with the objects O, over the cells of start
abbrev pub replay_of : Objects → List Op → (Cell → Value) → (Cell → ℕ) → Case Cell Value
replay_of O ops start skips = record { raise = raise; ops = map act_of ops; before = cells_of O; start = start; skips = skips }

-- from a good start guarded replay gives each cell its value in the objects that the operations mean
abbrev pub ReplayOfOps : Type 0
ReplayOfOps = (O : Objects) (ops : List Op) → AreAllowed O ops → (start : Cell → Value) (skips : Cell → ℕ)
    → GoodStart (replay_of O ops start skips) → (end : Cell → Value)
    → Replayed (replay_of O ops start skips) (length ops) end → (x : Cell) → end x ≡ cells_of (fold_ops O ops) x

-- a start is good for one end alone, where the same collections are there
abbrev pub UniqueEnd : Type 0
UniqueEnd = (O P : Objects) (ops : List Op) → AreAllowed O ops → AreAllowed P ops
    → (start : Cell → Value) (skips : Cell → ℕ) → GoodStart (replay_of O ops start skips)
    → GoodStart (replay_of P ops start skips)
    → ((c : Coll) → fin.contains_key (fold_ops O ops) c ≡ fin.contains_key (fold_ops P ops) c)
    → fold_ops O ops ≡ fold_ops P ops

-- the cell is of a collection that the operation names
abbrev pub is_named : Op → Cell → Bool
is_named op x = list_any (λ c. in_coll c x) (colls_named op)

-- an operation leaves the cells of other collections, and reads none of them
abbrev pub LeavesOthers : Type 0
LeavesOthers = (op : Op) (x : Cell) → is_named op x ≡ false → act_of op x ≡ leaves

abbrev pub ReadsOwn : Type 0
ReadsOwn = (op : Op) (x y : Cell) → Source (act_of op x) y → is_named op y ≡ true

-- no copy goes from the omap to another part, nor the other way
abbrev pub OmapApart : Type 0
OmapApart = (op : Op) (x y : Cell) → Source (act_of op x) y → is_omap x.part ≡ is_omap y.part
