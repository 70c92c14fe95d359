-- What a store with several transactions open keeps.
use Rattle.slot_laws.proofs.Positions.{positions_law}
use Rattle.slot_laws.proofs.positions_law.Goals as goal

pub returns : goal.returns
returns g c = positions_law
