-- Which fault of a ring a store's comes from.
use Rattle.std.proofs.Common.{◌≡◌, refl}
use Rattle.ring_journal.specs.declared.fault.RingFault.{RingFault}
use Rattle.ring_journal.specs.declared.fault.RingFault.TheVariants as of_ring
use Rattle.store_journal.specs.declared.fault.JournalFault.TheVariants.{Device, Memory}
use Rattle.store_journal.specs.Fault.{fault_of}

no_memory : Memory ≡ Device → ⊥
no_memory e = cc

pub device_is : (fault : RingFault) → fault_of fault ≡ Device → fault ≡ of_ring.Dev
device_is of_ring.Dev e = refl
device_is of_ring.Memory e = absurd (no_memory e)
device_is of_ring.NoHeader e = absurd (no_memory e)
device_is of_ring.Spent e = absurd (no_memory e)
device_is (of_ring.WrongRing found) e = absurd (no_memory e)
device_is (of_ring.Full need free) e = absurd (no_memory e)
device_is (of_ring.TooLarge need size) e = absurd (no_memory e)
