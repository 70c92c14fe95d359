use Rattle.std.proofs.Common.{◌≡◌, ◌≤◌, ◌+◌, ℕ, List}
use Rattle.ring_journal.specs.State.{Holds}
use Rattle.store_history.specs.History.{History}
use Rattle.store_turns.specs.State.{Fits, Holding}
use Rattle.store_turns.specs.Waiting.{AreDue}
use Rattle.store_turns.proofs.draining.drain.Given as goal

abbrev pub invariant-loop-one : goal.invariant-loop-one
invariant-loop-one g l = record {
  counts : Fits l.core l.ring;
  number : l.core.journalled ≡ l.fn.core.journalled + l.one-index;
  extent : (g.D.Device.state l.dev).size ≡ l.ring.head.size;
  size : l.ring.head.size ≡ l.fn.ring.head.size;
  fsid : l.ring.head.fsid ≡ l.fn.ring.head.fsid;
  told : g.T.FileTree.tells l.tree → g.T.FileTree.tells l.fn.tree;
  honest : g.D.Device.tells l.dev → g.D.Device.tells l.fn.dev;
  ready : g.T.FileTree.tells l.tree → g.S.Side.ready (g.S.Side.set l.side) (g.T.FileTree.disk l.tree);
  holds : g.D.Device.tells l.dev → Holds l.ring (g.D.Device.state l.dev).disk;
  tree_faults : (g.T.FileTree.disk l.fn.tree).faults ≤ (g.T.FileTree.disk l.tree).faults;
  device_faults : (g.D.Device.state l.fn.dev).faults ≤ (g.D.Device.state l.dev).faults;
  kept : g.T.FileTree.tells l.tree → g.D.Device.tells l.dev → (fsid : List ℕ) (h : History)
      → Holding (g.S.Side.image (g.S.Side.set l.side)) (g.S.Side.reads (g.S.Side.set l.side)) fsid h l.fn.core (g.T.FileTree.disk l.fn.tree) l.fn.ring (g.D.Device.state l.fn.dev).disk
      → AreDue h l.fn.core.journalled l.waiting
      → Holding (g.S.Side.image (g.S.Side.set l.side)) (g.S.Side.reads (g.S.Side.set l.side)) fsid h l.core (g.T.FileTree.disk l.tree) l.ring (g.D.Device.state l.dev).disk;
}
