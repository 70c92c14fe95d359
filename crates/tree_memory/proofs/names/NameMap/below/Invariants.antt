use Rattle.std.proofs.Common.{◌≡◌, map}
use Rattle.std.specs.Map.Iter.{deref_pair}
use Rattle.tree_memory.proofs.Belows.{below_list}
use Rattle.tree_memory.proofs.names.NameMap.below.Given as goal

abbrev pub invariant-loop-place : goal.invariant-loop-place
invariant-loop-place l = l.names.items ≡ below_list l.dir (map deref_pair l.yielded)
