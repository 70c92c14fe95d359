use Rattle.std.proofs.Common.{arith}
use Rattle.ring_frame.proofs.Facts.{length-spelled}
use Rattle.ring_frame.proofs.laws.entry_fills_its_blocks.Goals as goal

pub returns : goal.returns
returns c = λ fsid place e long. length-spelled fsid place e (omega arith)
