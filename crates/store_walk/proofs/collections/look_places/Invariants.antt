use Rattle.tree_api.specs.Answer.{IsListing}
use Rattle.tree_api.specs.Disk.{Still}
use Rattle.coll_ops.specs.Changes.{Faults}
use Rattle.store_walk.specs.Walked.{IsPlaced}
use Rattle.store_walk.proofs.Looked.{Looked}
use Rattle.store_walk.proofs.collections.look_places.Given as goal

abbrev pub invariant-loop-entry : goal.invariant-loop-entry
invariant-loop-entry g l = record {
  told : g.T.FileTree.tells l.tree → g.T.FileTree.tells l.fn.tree;
  counts : Faults ⊥ (g.T.FileTree.disk l.fn.tree) (g.T.FileTree.disk l.tree);
  still : g.T.FileTree.tells l.tree → Still (g.T.FileTree.disk l.fn.tree) (g.T.FileTree.disk l.tree);
  listing : g.T.FileTree.tells l.tree → IsListing (g.T.FileTree.disk l.fn.tree).tree l.dir l.entry-items;
  looked : g.T.FileTree.tells l.tree → Looked (IsPlaced l.set l.dir (g.T.FileTree.disk l.fn.tree).tree) l.entry-items l.entry-index;
}
