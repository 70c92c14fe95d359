use Rattle.std.proofs.Common.{arith, refl}
use Rattle.ring_images.proofs.Crash.{is_read}
use Rattle.ring_images.proofs.Linear.{read_once}
use Rattle.ring_images.proofs.Headers.{head_of_is}
use Rattle.ring_images.proofs.readable_law.Goals as goal

pub returns-clause-read : goal.returns-clause-read
returns-clause-read c = λ bytes h e. let i = head_of_is bytes h e in is_read bytes h _ e refl i.low (omega (arith, i.high))

pub returns-clause-only : goal.returns-clause-only
returns-clause-only c = read_once
