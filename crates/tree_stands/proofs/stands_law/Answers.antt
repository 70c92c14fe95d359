use Rattle.tree_stands.proofs.Stands.{stands_law}
use Rattle.tree_stands.proofs.stands_law.Goals as goal

pub returns : goal.returns
returns c = stands_law
