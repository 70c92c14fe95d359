use Rattle.std.proofs.Common.{ℕ, length}
use Rattle.tree_api.specs.Tree.{Version, IsFile}
use Rattle.tree_api.specs.Counts.{Counts}
use Rattle.tree_api.specs.Disk.{Leaves}
use Rattle.tree_api.specs.Passing.{Passing}
use Rattle.object_ops.specs.Attributes.{Setting}
use Rattle.object_ops.proofs.attributes.set_all.Given as goal

abbrev pub invariant-loop-pair : goal.invariant-loop-pair
invariant-loop-pair g l = record {
  file : g.T.FileTree.tells l.tree → IsFile (g.T.FileTree.disk l.tree).tree l.path;
  told : g.T.FileTree.tells l.tree → g.T.FileTree.tells l.fn.tree;
  counts : Counts ⊥ 0 0 (g.T.FileTree.disk l.fn.tree) (g.T.FileTree.disk l.tree);
  way : g.T.FileTree.tells l.tree → (n : ℕ) (a b : Version) → Setting l.path n a b l.fn.pairs (g.T.FileTree.disk l.fn.tree).tree
      → Leaves (Passing n a b) (g.T.FileTree.disk l.fn.tree) (g.T.FileTree.disk l.tree) × Setting l.path n a b l.rest (g.T.FileTree.disk l.tree).tree;
}

abbrev pub decreases-loop-pair : goal.decreases-loop-pair
decreases-loop-pair g l = length l.rest
