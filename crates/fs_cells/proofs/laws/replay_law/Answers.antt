use Rattle.fs_cells.proofs.Replaying.{replay_of_ops}
use Rattle.fs_cells.proofs.laws.replay_law.Goals as goal

pub returns : goal.returns
returns c = replay_of_ops
