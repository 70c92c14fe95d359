-- What the faults of the crates below are to a mount.
use Rattle.index_fault.specs.declared.IndexFault.{IndexFault}
use Rattle.index_fault.specs.declared.IndexFault.TheVariants as index
use Rattle.store_files.specs.declared.fault.StoreFault.{StoreFault}
use Rattle.store_files.specs.declared.fault.StoreFault.TheVariants as files
use Rattle.store_mount.specs.declared.fault.MountFault.{MountFault as Below}
use Rattle.store_mount.specs.declared.fault.MountFault.TheVariants as below
use Rattle.store_opening.specs.declared.fault.MountFault.{MountFault}
use Rattle.store_opening.specs.declared.fault.MountFault.TheVariants.{NotAStore, WrongVersion, BadSettings, NoHeader, WrongFsid, Spent, BadSeq, JournalGap, Damaged, BadEntry, Tree, Device, Memory}

abbrev pub of_files : StoreFault → MountFault
of_files files.NotAStore = NotAStore
of_files (files.WrongVersion found) = WrongVersion found
of_files files.BadSettings = BadSettings
of_files files.Tree = Tree
of_files files.Memory = Memory

abbrev pub of_mount : Below → MountFault
of_mount below.NoHeader = NoHeader
of_mount (below.WrongFsid tree ring) = WrongFsid tree ring
of_mount below.Spent = Spent
of_mount below.BadSeq = BadSeq
of_mount (below.JournalGap start committed) = JournalGap start committed
of_mount (below.Damaged path) = Damaged path
of_mount (below.BadEntry seq) = BadEntry seq
of_mount below.Tree = Tree
of_mount below.Device = Device
of_mount below.Memory = Memory

abbrev pub of_index : IndexFault → MountFault
of_index index.Memory = Memory
of_index index.Tree = Tree
of_index (index.Damaged path) = Damaged path
