use Rattle.fs_cells.proofs.Rows.{row_cell, fold_law}
use Rattle.fs_cells.proofs.laws.row_law.Goals as goal

pub returns-clause-one : goal.returns-clause-one
returns-clause-one c = row_cell

pub returns-clause-several : goal.returns-clause-several
returns-clause-several c = fold_law
