use Rattle.replay_laws.proofs.Examples.{examples_law}
use Rattle.replay_laws.proofs.examples_law.Goals as goal

pub returns : goal.returns
returns c = examples_law
