use Rattle.ring_images.proofs.Crash.{left_all}
use Rattle.ring_images.proofs.left_law.Goals as goal

pub returns : goal.returns
returns c = left_all
