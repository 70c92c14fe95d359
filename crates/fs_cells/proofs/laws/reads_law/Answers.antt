use Rattle.fs_cells.proofs.Reading.{leaves_others, reads_own, omap_apart}
use Rattle.fs_cells.proofs.laws.reads_law.Goals as goal

pub returns-clause-leaves_others : goal.returns-clause-leaves_others
returns-clause-leaves_others c = leaves_others

pub returns-clause-reads_own : goal.returns-clause-reads_own
returns-clause-reads_own c = reads_own

pub returns-clause-apart : goal.returns-clause-apart
returns-clause-apart c = omap_apart
