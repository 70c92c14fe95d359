use Rattle.std.proofs.Common.{map}
use Rattle.std.specs.Map.Iter.{deref}
use Rattle.fs_model.proofs.PlacedColls.{Placed}
use Rattle.fs_model.proofs.plain.PlainObjects.placed_colls.Given as goal

abbrev pub invariant-loop-c : goal.invariant-loop-c
invariant-loop-c l = Placed (map deref l.yielded) l.set.keys
