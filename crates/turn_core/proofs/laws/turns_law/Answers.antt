use Rattle.turn_core.proofs.Chains.{turns_law}
use Rattle.turn_core.proofs.laws.turns_law.Goals as goal

pub returns : goal.returns
returns c = turns_law
