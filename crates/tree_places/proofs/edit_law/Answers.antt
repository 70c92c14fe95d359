use Rattle.tree_places.proofs.Operations.{edit_law}
use Rattle.tree_places.proofs.edit_law.Goals as goal

pub returns : goal.returns
returns c = edit_law
