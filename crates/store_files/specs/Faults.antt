-- A fault of the tree as one of a store.
use Rattle.tree_api.specs.declared.tree.TreeError.{TreeError}
use Rattle.tree_api.specs.declared.tree.TreeError.TheVariants as failed
use Rattle.store_files.specs.declared.fault.StoreFault.{StoreFault}
use Rattle.store_files.specs.declared.fault.StoreFault.TheVariants.{Tree, Memory}
use Rattle.store_files.specs.declared.fault.MakeFault.{MakeFault}
use Rattle.store_files.specs.declared.fault.MakeFault.TheVariants as making

abbrev pub fault_of : TreeError → StoreFault
fault_of failed.Memory = Memory
fault_of failed.Refused = Tree

abbrev pub make_fault_of : TreeError → MakeFault
make_fault_of failed.Memory = making.Memory
make_fault_of failed.Refused = making.Tree
