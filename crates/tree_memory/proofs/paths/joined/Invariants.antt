use Rattle.std.proofs.Common.{◌≡◌, ◌++◌, take}
use Rattle.tree_memory.proofs.paths.joined.Given as goal

abbrev pub invariant-loop-i : goal.invariant-loop-i
invariant-loop-i l = l.path ≡ l.dir ++ take l.i l.rest
