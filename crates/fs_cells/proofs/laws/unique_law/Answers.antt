use Rattle.fs_cells.proofs.Replaying.{unique_end}
use Rattle.fs_cells.proofs.laws.unique_law.Goals as goal

pub returns : goal.returns
returns c = unique_end
