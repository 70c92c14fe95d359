use Rattle.turn_core.specs.Table.{IsWellFormed}
use Rattle.turn_core.proofs.tests.after_starts.Given as goal

abbrev pub invariant-loop-i : goal.invariant-loop-i
invariant-loop-i l = IsWellFormed l.core
