use Rattle.std.proofs.Common.{◌+◌, ◌*◌}
use Rattle.tree_api.specs.Answer.{IsListing}
use Rattle.tree_api.specs.Disk.{Still}
use Rattle.lfn_index.specs.Directory.{entry}
use Rattle.coll_ops.specs.Changes.{Faults}
use Rattle.store_walk.specs.Deep.{IsBounded}
use Rattle.store_walk.proofs.Looked.{Looked}
use Rattle.store_walk.proofs.depth.+levels.Given as goal

abbrev pub decreases-look_below : goal.decreases-look_below
decreases-look_below g l = 2 * l.levels + 1

abbrev pub decreases-look_at_entry : goal.decreases-look_at_entry
decreases-look_at_entry g l = 2 * l.levels

abbrev pub invariant-look_below-loop-entry : goal.invariant-look_below-loop-entry
invariant-look_below-loop-entry g l = record {
  told : g.T.FileTree.tells l.tree → g.T.FileTree.tells l.fn.tree;
  counts : Faults ⊥ (g.T.FileTree.disk l.fn.tree) (g.T.FileTree.disk l.tree);
  still : g.T.FileTree.tells l.tree → Still (g.T.FileTree.disk l.fn.tree) (g.T.FileTree.disk l.tree);
  listing : g.T.FileTree.tells l.tree → IsListing (g.T.FileTree.disk l.fn.tree).tree l.path l.entry-items;
  looked : g.T.FileTree.tells l.tree → Looked (λ step. IsBounded l.levels (entry l.path step) (g.T.FileTree.disk l.fn.tree).tree) l.entry-items l.entry-index;
}
