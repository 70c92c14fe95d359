-- What a ring's fault is to a store.
use Rattle.ring_journal.specs.declared.fault.RingFault.{RingFault}
use Rattle.ring_journal.specs.declared.fault.RingFault.TheVariants as of_ring
use Rattle.store_journal.specs.declared.fault.JournalFault.{JournalFault}
use Rattle.store_journal.specs.declared.fault.JournalFault.TheVariants.{Device, Memory}

-- the device refused, or else memory was wanting: the other faults don't come where a step may be taken
abbrev pub fault_of : RingFault → JournalFault
fault_of of_ring.Dev = Device
fault_of _ = Memory
