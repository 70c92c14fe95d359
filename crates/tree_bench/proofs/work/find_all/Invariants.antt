use Rattle.std.proofs.Common.{◌≡◌, ◌≤◌}
use Rattle.tree_bench.proofs.work.find_all.Given as goal

abbrev pub invariant-loop-hash : goal.invariant-loop-hash
invariant-loop-hash g l = record {
  told : g.T.FileTree.tells l.tree → g.T.FileTree.tells l.fn.tree;
  later : (g.T.FileTree.disk l.fn.tree).faults ≤ (g.T.FileTree.disk l.tree).faults;
  syncs : (g.T.FileTree.disk l.tree).syncs ≡ (g.T.FileTree.disk l.fn.tree).syncs;
}
