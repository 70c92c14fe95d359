use Rattle.tree_stands.proofs.Copies.{copy_law}
use Rattle.tree_stands.proofs.copy_law.Goals as goal

pub returns : goal.returns
returns c = copy_law
