use Rattle.std.proofs.Common.{◌≡◌, length}
use Rattle.fs_model.specs.Plain.{undone, IsUndoOf}
use Rattle.fs_model.proofs.pair_map.PairMap.take_back.Given as goal

abbrev pub invariant-loop-entry : goal.invariant-loop-entry
invariant-loop-entry l = record {
  noted : IsUndoOf l.self l.undo.items;
  back : undone l.self l.undo.items ≡ undone l.fn.self l.fn.undo.items;
}

abbrev pub decreases-loop-entry : goal.decreases-loop-entry
decreases-loop-entry l = length l.undo.items
