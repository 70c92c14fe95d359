use Rattle.tree_stands.proofs.Law.{edit_law}
use Rattle.tree_stands.proofs.edit_law.Goals as goal

pub returns : goal.returns
returns c = edit_law
