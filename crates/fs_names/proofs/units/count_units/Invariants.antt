use Rattle.std.proofs.Common.{length}
use Rattle.fs_names.proofs.Loops.{CountedTo}
use Rattle.fs_names.proofs.units.count_units.Given as goal

abbrev pub invariant-loop-following : goal.invariant-loop-following
invariant-loop-following l = CountedTo l.fn.at l.fn.text l.count l.place l.rest

abbrev pub decreases-loop-following : goal.decreases-loop-following
decreases-loop-following l = length l.rest
