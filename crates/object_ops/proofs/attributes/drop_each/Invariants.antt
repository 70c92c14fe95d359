use Rattle.std.proofs.Common.{ℕ}
use Rattle.tree_api.specs.Tree.{Version, IsFile}
use Rattle.tree_api.specs.Counts.{Counts}
use Rattle.tree_api.specs.Disk.{Leaves}
use Rattle.tree_api.specs.Passing.{Passing}
use Rattle.object_file.specs.Inner.{Settles}
use Rattle.object_file.proofs.Copies.{Named}
use Rattle.object_ops.specs.Attributes.{Dropping}
use Rattle.object_ops.proofs.attributes.drop_each.Given as goal

abbrev pub invariant-loop-name : goal.invariant-loop-name
invariant-loop-name g l = record {
  file : g.T.FileTree.tells l.tree → IsFile (g.T.FileTree.disk l.tree).tree l.path;
  told : g.T.FileTree.tells l.tree → g.T.FileTree.tells l.fn.tree;
  counts : Counts ⊥ 0 0 (g.T.FileTree.disk l.fn.tree) (g.T.FileTree.disk l.tree);
  way : g.T.FileTree.tells l.tree → (n : ℕ) (a b : Version) → Dropping l.path n a b (g.T.FileTree.disk l.fn.tree).tree
      → Leaves (Passing n a b) (g.T.FileTree.disk l.fn.tree) (g.T.FileTree.disk l.tree)
      × Settles b ((g.T.FileTree.disk l.fn.tree).tree.node n) ((g.T.FileTree.disk l.tree).tree.node n)
      × Named l.names l.name-index b ((g.T.FileTree.disk l.tree).tree.node n);
}
