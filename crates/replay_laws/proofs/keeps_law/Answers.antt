-- An op keeps what makes each start good.
use Rattle.replay_laws.proofs.Keeps.{keeps_law}
use Rattle.replay_laws.proofs.keeps_law.Goals as goal

pub returns : goal.returns
returns g c = keeps_law
