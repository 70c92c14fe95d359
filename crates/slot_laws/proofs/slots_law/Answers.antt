-- What a store with several transactions open keeps.
use Rattle.slot_laws.proofs.Slots.{slots_law}
use Rattle.slot_laws.proofs.slots_law.Goals as goal

pub returns : goal.returns
returns g c = slots_law
