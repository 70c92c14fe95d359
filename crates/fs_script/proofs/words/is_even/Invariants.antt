use Rattle.std.proofs.Common.{◌≡◌}
use Rattle.fs_script.specs.Words.{pieces_left, is_even}
use Rattle.fs_script.proofs.Counts.{same}
use Rattle.fs_script.proofs.Cuts.{left_of}
use Rattle.fs_script.proofs.words.is_even.Given as goal

abbrev pub invariant-loop-rest : goal.invariant-loop-rest
invariant-loop-rest l = is_even (pieces_left 32 l.fn.words) ≡ same l.even (is_even (pieces_left 32 l.rest))

abbrev pub decreases-loop-rest : goal.decreases-loop-rest
decreases-loop-rest l = left_of l.rest
