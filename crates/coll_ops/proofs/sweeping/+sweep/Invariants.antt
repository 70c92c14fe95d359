use Rattle.std.proofs.Common.{◌+◌, ◌*◌}
use Rattle.tree_api.specs.Answer.{IsListing}
use Rattle.coll_ops.specs.Changes.{Sweeps, Faults}
use Rattle.coll_ops.proofs.Clearing.{Cleared}
use Rattle.coll_ops.proofs.sweeping.+sweep.Given as goal

abbrev pub decreases-sweep_dir : goal.decreases-sweep_dir
decreases-sweep_dir g l = 2 * l.levels + 1

abbrev pub decreases-sweep_entry : goal.decreases-sweep_entry
decreases-sweep_entry g l = 2 * l.levels

abbrev pub invariant-sweep_dir-loop-entry : goal.invariant-sweep_dir-loop-entry
invariant-sweep_dir-loop-entry g l = record {
  told : g.T.FileTree.tells l.tree → g.T.FileTree.tells l.fn.tree;
  counts : Faults ⊥ (g.T.FileTree.disk l.fn.tree) (g.T.FileTree.disk l.tree);
  sweeps : g.T.FileTree.tells l.tree → Sweeps l.path (g.T.FileTree.disk l.fn.tree) (g.T.FileTree.disk l.tree);
  cleared : g.T.FileTree.tells l.tree → Cleared (g.T.FileTree.disk l.fn.tree).tree (g.T.FileTree.disk l.tree).tree l.path l.entry-items l.entry-index;
  listing : g.T.FileTree.tells l.tree → IsListing (g.T.FileTree.disk l.fn.tree).tree l.path l.entry-items;
}
