use Rattle.tree_places.proofs.Operations.{coll_law}
use Rattle.tree_places.proofs.coll_law.Goals as goal

pub returns : goal.returns
returns c = coll_law
