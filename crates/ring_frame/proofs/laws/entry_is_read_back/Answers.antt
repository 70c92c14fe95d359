use Rattle.std.proofs.Common.{arith}
use Rattle.ring_frame.proofs.Facts.{entry-spelled}
use Rattle.ring_frame.proofs.laws.entry_is_read_back.Goals as goal

pub returns : goal.returns
returns c = λ fsid rest place e long fits. entry-spelled fsid place e (omega arith) rest fits
