use Rattle.std.proofs.Common.{◌≡◌, ◌≤◌}
use Rattle.tree_places.specs.Underway.{Underway}
use Rattle.apply_ops.specs.Next.{IsReady, StaysStore, WhereDue}
use Rattle.apply_ops.proofs.transaction.apply_all.Given as goal

abbrev pub invariant-loop-i : goal.invariant-loop-i
invariant-loop-i g l = record {
  told : g.T.FileTree.tells l.tree → g.T.FileTree.tells l.fn.tree;
  faults : (g.T.FileTree.disk l.fn.tree).faults ≤ (g.T.FileTree.disk l.tree).faults;
  syncs : (g.T.FileTree.disk l.tree).syncs ≡ (g.T.FileTree.disk l.fn.tree).syncs;
  ready : g.T.FileTree.tells l.tree → IsReady l.set (g.T.FileTree.disk l.tree);
  stores : g.T.FileTree.tells l.tree → StaysStore (g.T.FileTree.disk l.fn.tree) (g.T.FileTree.disk l.tree);
  under : g.T.FileTree.tells l.tree → WhereDue l.set l.seq l.ops (g.T.FileTree.disk l.fn.tree)
      (λ how h n lo hi. Underway l.set how h n lo hi l.seq l.i (g.T.FileTree.disk l.fn.tree) (g.T.FileTree.disk l.tree));
}
