use Rattle.std.proofs.Common.{arith}
use Rattle.ring_frame.specs.Frame.{need}
use Rattle.ring_frame.proofs.tests.sealed.Goals as goal

pub seal-requires-clause-room : goal.seal-requires-clause-room
unfolding need
seal-requires-clause-room c = omega arith
