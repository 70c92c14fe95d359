-- An op keeps what makes each start good.
use Rattle.replay_laws.proofs.Places.{places_law}
use Rattle.replay_laws.proofs.places_law.Goals as goal

pub returns : goal.returns
returns g c = places_law
