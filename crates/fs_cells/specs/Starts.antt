-- Starts that a store's crashes leave of any journal, and what goes wrong where a collection is missing.
use Rattle.std.specs.Prelude.{◌≡◌, suc, Bool, true, false, if◌then◌else◌, List, [], ◌∷◌, ◌++◌, length}
use Rattle.std.specs.FinMap as fin
use Rattle.fs_names.specs.declared.coll.Coll.{Coll}
use Rattle.fs_names.specs.declared.oid.Oid.{Oid}
use Rattle.fs_model.specs.declared.op.Op.{Op}
use Rattle.fs_model.specs.declared.op.Op.TheVariants.{Touch, Clone, MoveRename}
use Rattle.fs_model.specs.Check.{same_object}
use Rattle.fs_model.specs.Objects.{Objects}
use Rattle.fs_model.specs.Rows.{row, fold_ops}
use Rattle.replay_laws.specs.Replay.{GoodStart}
use Rattle.fs_cells.specs.declared.cell.Cell.{Cell}
use Rattle.fs_cells.specs.declared.cell.Part.TheVariants.{Exists}
use Rattle.fs_cells.specs.Values.{flag, cells_of}
use Rattle.fs_cells.specs.Parts.{part_at}
use Rattle.fs_cells.specs.Actions.{is_of}
use Rattle.fs_cells.specs.Laws.{AreAllowed, cells_after, replay_of}

-- The first operations are done and guarded, and the others aren't begun: none, some or all of a journal. So stands a move
-- whose guard in progress is on its source, since it counts the operations before the move.
abbrev pub DoneSoFar : Type 0
DoneSoFar = (O : Objects) (ops more : List Op) → AreAllowed O ops
    → GoodStart (replay_of O (ops ++ more) (cells_of (fold_ops O ops)) (λ x. length ops))

-- A clone is half done: some cells of its copy are there, any of them, and no guard counts it.
abbrev pub HalfCloned : Type 0
HalfCloned = (O : Objects) (ops : List Op) (c : Coll) (o : Oid) (c2 : Coll) (o2 : Oid) → AreAllowed O (ops ++ Clone c o c2 o2 ∷ [])
    → same_object (Clone c o c2 o2) ≡ false → (is_copied : Cell → Bool)
    → GoodStart (replay_of O (ops ++ Clone c o c2 o2 ∷ []) (λ x. if is_copied x then cells_of (fold_ops O (ops ++ Clone c o c2 o2 ∷ [])) x else cells_of (fold_ops O ops) x) (λ x. length ops))

-- A move has renamed its file: the guard on its destination counts the move, and nothing stands at its source.
abbrev pub Renamed : Type 0
Renamed = (O : Objects) (ops : List Op) (c : Coll) (o : Oid) (c2 : Coll) (o2 : Oid) → AreAllowed O (ops ++ MoveRename c o c2 o2 ∷ [])
    → GoodStart (replay_of O (ops ++ MoveRename c o c2 o2 ∷ []) (cells_of (fold_ops O (ops ++ MoveRename c o c2 o2 ∷ []))) (λ x. if is_of c2 o2 x then suc (length ops) else length ops))

-- In a missing collection a touch means nothing, but the cells after it have the object.
abbrev pub CollsNeeded : Type 0
CollsNeeded = (O : Objects) (c : Coll) (o : Oid) → fin.contains_key O c ≡ false
    → (cells_of (row O (Touch c o)) (part_at c o Exists) ≡ flag false) × (cells_after (cells_of O) (Touch c o) (part_at c o Exists) ≡ flag true)
