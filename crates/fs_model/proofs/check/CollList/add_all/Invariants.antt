use Rattle.std.proofs.Common.{◌≡◌, map}
use Rattle.std.specs.FinSet.{union, from_list}
use Rattle.std.specs.Map.Iter.{deref}
use Rattle.fs_model.proofs.check.CollList.add_all.Given as goal

abbrev pub invariant-loop-c : goal.invariant-loop-c
invariant-loop-c l = l.self ≡ union l.fn.self (from_list (map deref l.yielded))
