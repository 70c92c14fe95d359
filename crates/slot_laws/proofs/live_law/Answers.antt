-- What a store with several transactions open keeps.
use Rattle.slot_laws.proofs.Live.{live_law}
use Rattle.slot_laws.proofs.live_law.Goals as goal

pub returns : goal.returns
returns g c = live_law
