use Rattle.op_places.proofs.Makes.{coll_law}
use Rattle.op_places.proofs.coll_law.Goals as goal

pub returns : goal.returns
returns c = coll_law
