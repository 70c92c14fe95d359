use Rattle.tree_stands.proofs.Closed.{closed_law}
use Rattle.tree_stands.proofs.OneFile.{one_file_law}
use Rattle.tree_stands.proofs.closed_law.Goals as goal

pub returns-clause-closed : goal.returns-clause-closed
returns-clause-closed c = closed_law

pub returns-clause-one_file : goal.returns-clause-one_file
returns-clause-one_file c = one_file_law
