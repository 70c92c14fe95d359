-- What the faults of the crates below are to a mount.
use Rattle.std.specs.Prelude.{ℕ, List}
use Rattle.index_fault.specs.declared.IndexFault.{IndexFault}
use Rattle.index_fault.specs.declared.IndexFault.TheVariants as index
use Rattle.ring_journal.specs.declared.fault.RingFault.{RingFault}
use Rattle.ring_journal.specs.declared.fault.RingFault.TheVariants as ring
use Rattle.store_journal.specs.declared.fault.JournalFault.{JournalFault}
use Rattle.store_journal.specs.declared.fault.JournalFault.TheVariants as journal
use Rattle.store_turns.specs.declared.replaying.RedoFault.{RedoFault}
use Rattle.store_turns.specs.declared.replaying.RedoFault.TheVariants as redo
use Rattle.store_mount.specs.declared.fault.MountFault.{MountFault}
use Rattle.store_mount.specs.declared.fault.MountFault.TheVariants.{NoHeader, WrongFsid, Spent, Damaged, BadEntry, Tree, Device, Memory}

abbrev pub of_index : IndexFault → MountFault
of_index index.Memory = Memory
of_index index.Tree = Tree
of_index (index.Damaged path) = Damaged path

abbrev pub of_journal : JournalFault → MountFault
of_journal journal.Memory = Memory
of_journal journal.Device = Device

-- of a ring that is loaded for this fsid
abbrev pub of_ring : List ℕ → RingFault → MountFault
of_ring fsid ring.NoHeader = NoHeader
of_ring fsid (ring.WrongRing found) = WrongFsid fsid found
of_ring fsid ring.Spent = Spent
of_ring fsid ring.Dev = Device
of_ring fsid ring.Memory = Memory
of_ring fsid (ring.Full need free) = Memory
of_ring fsid (ring.TooLarge need size) = Memory

-- of the entry with this number
abbrev pub of_redo : ℕ → RedoFault → MountFault
of_redo seq redo.Memory = Memory
of_redo seq redo.Tree = Tree
of_redo seq redo.BadEntry = BadEntry seq
of_redo seq (redo.Damaged path) = Damaged path
