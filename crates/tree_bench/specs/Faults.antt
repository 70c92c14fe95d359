-- Why a command was not done.
use Rattle.std.specs.Prelude.{◌≤◌, ℕ, Result, IsErrOf}
use Rattle.fault_count.specs.Counted.{Counted}
use Rattle.tree_api.specs.declared.tree.TreeError.{TreeError}
use Rattle.tree_api.specs.declared.tree.TreeError.TheVariants as tree
use Rattle.index_fault.specs.declared.IndexFault.{IndexFault}
use Rattle.index_fault.specs.declared.IndexFault.TheVariants as index
use Rattle.tree_bench.specs.declared.fault.Fault.{Fault}
use Rattle.tree_bench.specs.declared.fault.Fault.TheVariants.{Usage, Tree, Objects, Memory}

abbrev pub of_tree : TreeError → Fault
of_tree tree.Refused = Tree
of_tree tree.Memory = Memory

abbrev pub of_index : IndexFault → Fault
of_index index.Tree = Tree
of_index (index.Damaged path) = Objects
of_index index.Memory = Memory

-- `Tree` is told only where the tree has counted a fault, and the words are never at fault
pub record HasCause {T : Type 0} (before now : ℕ) (result : Result T Fault) : Type 0 where
  pub later : before ≤ now
  pub tree : IsErrOf result Tree → Counted before now
  pub words : IsErrOf result Usage → ⊥
