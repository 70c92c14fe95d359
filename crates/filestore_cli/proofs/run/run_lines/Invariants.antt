use Rattle.std.proofs.Common.{◌≡◌, ◌≤◌, length}
use Rattle.store_files.specs.declared.reading.Identity.{Identity}
use Rattle.fs_session.specs.Answers.{Session}
use Rattle.file_store.specs.Store.{Works, IsItsTree, IsItsDevice}
use Rattle.script_store.specs.Held.{IsSame}
use Rattle.filestore_cli.specs.Seen.{moves, sides}
use Rattle.filestore_cli.specs.Opened.{Opens}
use Rattle.filestore_cli.proofs.Runs.{Going}
use Rattle.filestore_cli.proofs.run.run_lines.Given as goal

abbrev pub invariant-loop-line : goal.invariant-loop-line
invariant-loop-line g l = record {
  going : g.T.FileTree.tells l.tree → g.D.Device.tells l.dev → (id : Identity) (s : Session) → Opens l.fn.store (sides (g.T.FileTree.disk l.fn.tree) (g.D.Device.state l.fn.dev)) id s
      → Going id s l.fn.script l.script l.store (moves (g.K.Sink.tells l.sink) (g.K.Sink.out l.fn.sink) (g.K.Sink.out l.sink)) (sides (g.T.FileTree.disk l.tree) (g.D.Device.state l.dev));
  works : Works l.store.store;
  is_tree : IsItsTree l.store.store (g.T.FileTree.tells l.tree) (g.T.FileTree.disk l.tree);
  is_device : IsItsDevice l.store.store (g.D.Device.tells l.dev) (g.D.Device.state l.dev);
  same : IsSame l.fn.store.store l.store.store;
  later : (g.K.Sink.out l.fn.sink).faults ≤ (g.K.Sink.out l.sink).faults;
  tree_faults : (g.T.FileTree.disk l.fn.tree).faults ≤ (g.T.FileTree.disk l.tree).faults;
  faults : (g.D.Device.state l.fn.dev).faults ≤ (g.D.Device.state l.dev).faults;
  extent : (g.D.Device.state l.dev).size ≡ (g.D.Device.state l.fn.dev).size;
  told : g.T.FileTree.tells l.tree → g.T.FileTree.tells l.fn.tree;
  honest : g.D.Device.tells l.dev → g.D.Device.tells l.fn.dev;
  heard : g.K.Sink.tells l.sink → g.K.Sink.tells l.fn.sink;
}

abbrev pub decreases-loop-line : goal.decreases-loop-line
decreases-loop-line g l = length l.script
