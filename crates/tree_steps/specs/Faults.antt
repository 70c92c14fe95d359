-- Why a change was not made.
use Rattle.std.specs.Prelude.{◌≤◌, ℕ, Result, IsErrOf}
use Rattle.fault_count.specs.Counted.{Counted}
use Rattle.tree_api.specs.declared.tree.TreeError.{TreeError}
use Rattle.tree_api.specs.declared.tree.TreeError.TheVariants as tree
use Rattle.tree_steps.specs.declared.fault.Fault.{Fault}
use Rattle.tree_steps.specs.declared.fault.Fault.TheVariants.{Tree, Memory}

abbrev pub of_tree : TreeError → Fault
of_tree tree.Refused = Tree
of_tree tree.Memory = Memory

-- `Tree` is told only where the tree has counted a fault
pub record HasCause {T : Type 0} (before now : ℕ) (result : Result T Fault) : Type 0 where
  pub later : before ≤ now
  pub tree : IsErrOf result Tree → Counted before now
