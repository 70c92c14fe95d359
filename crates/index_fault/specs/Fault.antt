-- Faults of a tree, as an index tells them.
use Rattle.tree_api.specs.declared.tree.TreeError.{TreeError}
use Rattle.tree_api.specs.declared.tree.TreeError.TheVariants as of_tree
use Rattle.index_fault.specs.declared.IndexFault.{IndexFault}
use Rattle.index_fault.specs.declared.IndexFault.TheVariants.{Memory, Tree}

-- what a tree's error is told as
abbrev pub fault_of : TreeError → IndexFault
fault_of of_tree.Memory = Memory
fault_of of_tree.Refused = Tree
