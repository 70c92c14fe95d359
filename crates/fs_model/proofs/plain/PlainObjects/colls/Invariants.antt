use Rattle.std.proofs.Common.{◌≡◌, map}
use Rattle.std.specs.FinSet.{from_list}
use Rattle.std.specs.Map.Iter.{deref}
use Rattle.fs_model.proofs.plain.PlainObjects.colls.Given as goal

abbrev pub invariant-loop-c : goal.invariant-loop-c
invariant-loop-c l = l.colls ≡ from_list (map deref l.yielded)
