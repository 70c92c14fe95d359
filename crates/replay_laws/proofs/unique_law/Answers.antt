-- A start is good for one end alone.
use Rattle.replay_laws.proofs.Unique.{unique_law}
use Rattle.replay_laws.proofs.unique_law.Goals as goal

pub returns : goal.returns
returns g c = λ a other laws good good_other x. unique_law a other laws good good_other x
