use Rattle.tree_places.proofs.Own.{own_law}
use Rattle.tree_places.proofs.own_law.Goals as goal

pub returns : goal.returns
returns c = own_law
