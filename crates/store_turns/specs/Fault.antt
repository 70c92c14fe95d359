-- What the fault of a tree or a journal is to a store.
use Rattle.index_fault.specs.declared.IndexFault.{IndexFault}
use Rattle.index_fault.specs.declared.IndexFault.TheVariants as index
use Rattle.store_journal.specs.declared.fault.JournalFault.{JournalFault}
use Rattle.store_journal.specs.declared.fault.JournalFault.TheVariants as journal
use Rattle.store_turns.specs.declared.numbers.StoreFault.{StoreFault}
use Rattle.store_turns.specs.declared.numbers.StoreFault.TheVariants.{Damaged, Tree, Device, Memory}
use Rattle.store_turns.specs.declared.replaying.RedoFault.{RedoFault}
use Rattle.store_turns.specs.declared.replaying.RedoFault.TheVariants as redo

abbrev pub of_index : IndexFault → StoreFault
of_index index.Memory = Memory
of_index index.Tree = Tree
of_index (index.Damaged path) = Damaged path

abbrev pub of_journal : JournalFault → StoreFault
of_journal journal.Memory = Memory
of_journal journal.Device = Device

-- and to the replay of an entry
abbrev pub redo_of : IndexFault → RedoFault
redo_of index.Memory = redo.Memory
redo_of index.Tree = redo.Tree
redo_of (index.Damaged path) = redo.Damaged path
