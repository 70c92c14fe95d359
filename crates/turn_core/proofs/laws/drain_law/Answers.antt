use Rattle.turn_core.proofs.Draining.{drain_law}
use Rattle.turn_core.proofs.laws.drain_law.Goals as goal

pub returns : goal.returns
returns c = drain_law
