use Rattle.tree_api.specs.Answer.{IsListing}
use Rattle.tree_api.specs.Disk.{Leaves}
use Rattle.coll_ops.specs.Changes.{Elsewhere, Sweeps, Faults}
use Rattle.coll_ops.proofs.Clearing.{Cleared}
use Rattle.store_walk.specs.Thinned.{IsBelow}
use Rattle.store_walk.proofs.emptying.sweep_each.Given as goal

abbrev pub invariant-loop-entry : goal.invariant-loop-entry
invariant-loop-entry g l = record {
  told : g.T.FileTree.tells l.tree → g.T.FileTree.tells l.fn.tree;
  counts : Faults ⊥ (g.T.FileTree.disk l.fn.tree) (g.T.FileTree.disk l.tree);
  sweeps : g.T.FileTree.tells l.tree → Sweeps l.dir (g.T.FileTree.disk l.fn.tree) (g.T.FileTree.disk l.tree);
  elsewhere : g.T.FileTree.tells l.tree → Leaves (Elsewhere (IsBelow l.dir)) (g.T.FileTree.disk l.fn.tree) (g.T.FileTree.disk l.tree);
  cleared : g.T.FileTree.tells l.tree → Cleared (g.T.FileTree.disk l.fn.tree).tree (g.T.FileTree.disk l.tree).tree l.dir l.entry-items l.entry-index;
  listing : g.T.FileTree.tells l.tree → IsListing (g.T.FileTree.disk l.fn.tree).tree l.dir l.entry-items;
}
