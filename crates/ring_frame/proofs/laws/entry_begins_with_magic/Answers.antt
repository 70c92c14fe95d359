use Rattle.ring_frame.proofs.Facts.{entry_magic_first}
use Rattle.ring_frame.proofs.laws.entry_begins_with_magic.Goals as goal

pub returns : goal.returns
returns c = λ fsid bytes place e h. entry_magic_first fsid place bytes e h
