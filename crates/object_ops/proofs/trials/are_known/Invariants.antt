use Rattle.std.proofs.Common.{take}
use Rattle.std.specs.Prelude.{All}
use Rattle.object_ops.specs.Trials.{IsKnown}
use Rattle.object_ops.proofs.trials.are_known.Given as goal

abbrev pub invariant-loop-entry : goal.invariant-loop-entry
invariant-loop-entry l = All (IsKnown l.text) (take l.entry-index l.entries)
