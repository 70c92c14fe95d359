use Rattle.std.proofs.Common.{◌≡◌, map}
use Rattle.std.specs.FinSet.{difference, from_list}
use Rattle.std.specs.Map.Iter.{deref}
use Rattle.fs_model.proofs.check.CollList.remove_all.Given as goal

abbrev pub invariant-loop-c : goal.invariant-loop-c
invariant-loop-c l = l.self ≡ difference l.fn.self (from_list (map deref l.yielded))
