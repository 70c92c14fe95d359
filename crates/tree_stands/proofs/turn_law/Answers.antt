use Rattle.tree_stands.proofs.Turns.{turn_law}
use Rattle.tree_stands.proofs.turn_law.Goals as goal

pub returns : goal.returns
returns c = turn_law
