use Rattle.std.proofs.Common.{◌≡◌, take}
use Rattle.fs_model.specs.Plain.{undone, IsUndoOf}
use Rattle.fs_model.specs.Rows.{set_pairs}
use Rattle.fs_model.proofs.pair_map.PairMap.set_each.Given as goal

abbrev pub invariant-loop-pair : goal.invariant-loop-pair
invariant-loop-pair l = record {
  set : l.self ≡ set_pairs l.fn.self (take l.pair-index l.pairs);
  noted : IsUndoOf l.fn.self l.fn.undo.items → IsUndoOf l.self l.undo.items;
  back : undone l.self l.undo.items ≡ undone l.fn.self l.fn.undo.items;
}
