use Rattle.fs_cells.proofs.Determined.{determined}
use Rattle.fs_cells.proofs.laws.cells_law.Goals as goal

pub returns : goal.returns
returns c = determined
