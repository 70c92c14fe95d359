use Rattle.std.proofs.Common.{length}
use Rattle.fs_names.proofs.Loops.{PushedTo}
use Rattle.fs_names.proofs.units.push_units.Given as goal

abbrev pub invariant-loop-byte : goal.invariant-loop-byte
invariant-loop-byte l = PushedTo l.fn.out.items l.out.items l.fn.text l.rest

abbrev pub decreases-loop-byte : goal.decreases-loop-byte
decreases-loop-byte l = length l.rest
