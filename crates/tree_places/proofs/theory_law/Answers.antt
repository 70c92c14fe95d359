use Rattle.tree_places.proofs.Theory.{theory_law}
use Rattle.tree_places.proofs.theory_law.Goals as goal

pub returns : goal.returns
returns c = theory_law
