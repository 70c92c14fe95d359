-- From a good start guarded replay gives every cell its value in the fold.
use Rattle.replay_laws.proofs.Walk.{replay_ends}
use Rattle.replay_laws.proofs.replay_law.Goals as goal

pub returns : goal.returns
returns g c = λ r laws good end replayed x. replay_ends r laws good end replayed x
