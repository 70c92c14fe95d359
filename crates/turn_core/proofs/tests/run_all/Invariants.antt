use Rattle.turn_core.specs.Table.{IsWellFormed}
use Rattle.turn_core.proofs.tests.run_all.Given as goal

abbrev pub invariant-loop-turn : goal.invariant-loop-turn
invariant-loop-turn l = IsWellFormed l.core
