use Rattle.ring_frame.proofs.Facts.{entry_same}
use Rattle.ring_frame.proofs.laws.entry_stands_alone.Goals as goal

pub returns : goal.returns
returns c = λ fsid bytes others place e h same. entry_same fsid place bytes others e h same
