use Rattle.ring_frame.proofs.HeadFacts.{head_read_back}
use Rattle.ring_frame.proofs.laws.head_is_read_back.Goals as goal

pub returns : goal.returns
returns c = λ size h in_fields fits. head_read_back size h in_fields fits
