use Rattle.std.proofs.Common.{◌≡◌, take, drop}
use Rattle.tree_memory.proofs.paths.rest_from.Given as goal

abbrev pub invariant-loop-i : goal.invariant-loop-i
invariant-loop-i l = l.rest ≡ drop l.first (take l.i l.path)
