use Rattle.turn_history.proofs.Opening.{history_law}
use Rattle.turn_history.proofs.history_law.Goals as goal

pub returns : goal.returns
returns g c = history_law
