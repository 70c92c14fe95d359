use Rattle.std.proofs.Common.{◌≡◌, drop}
use Rattle.tree_memory.specs.Paths.{strip}
use Rattle.tree_memory.proofs.paths.leads_to.Given as goal

abbrev pub invariant-loop-i : goal.invariant-loop-i
invariant-loop-i l = strip l.dir l.path ≡ strip (drop l.i l.dir) (drop l.i l.path)
