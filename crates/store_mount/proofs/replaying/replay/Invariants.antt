-- What was told above the committed number has been done again, and the device is as it was.
use Rattle.std.proofs.Common.{◌≡◌, ◌≤◌, ◌+◌, ◌-◌, ◌^◌}
use Rattle.ring_images.specs.Held.{readable}
use Rattle.ring_journal.specs.State.{Loaded}
use Rattle.store_mount.specs.Replays.{WhereSpelled}
use Rattle.store_mount.proofs.Going.{GoneOn}
use Rattle.store_mount.proofs.Told.{Spelled}
use Rattle.store_mount.proofs.replaying.replay.Given as goal

abbrev pub invariant-loop-stored : goal.invariant-loop-stored
invariant-loop-stored g l = record {
  extent : (g.D.Device.state l.dev).size ≡ l.ring.head.size;
  size : (g.D.Device.state l.dev).size ≡ (g.D.Device.state l.fn.dev).size;
  head : l.ring.head ≡ l.fn.ring.head;
  loaded : g.D.Device.tells l.dev → Loaded l.ring (g.D.Device.state l.dev).disk;
  disk : g.D.Device.tells l.dev → (g.D.Device.state l.dev).disk ≡ (g.D.Device.state l.fn.dev).disk;
  past : g.D.Device.tells l.dev → (g.D.Device.state l.dev).past ≡ (g.D.Device.state l.fn.dev).past;
  told : g.T.FileTree.tells l.tree → g.T.FileTree.tells l.fn.tree;
  honest : g.D.Device.tells l.dev → g.D.Device.tells l.fn.dev;
  tree_faults : (g.T.FileTree.disk l.fn.tree).faults ≤ (g.T.FileTree.disk l.tree).faults;
  device_faults : (g.D.Device.state l.fn.dev).faults ≤ (g.D.Device.state l.dev).faults;
  ready : g.T.FileTree.tells l.tree → g.S.Side.ready (g.S.Side.set l.side) (g.T.FileTree.disk l.tree);
  spelled : g.D.Device.tells l.dev → Spelled g.S.Side.fits (l.committed + 1 - l.fn.ring.head.seq) (readable (g.D.Device.state l.fn.dev).disk.stable) l.ring.count;
  gone : g.T.FileTree.tells l.tree → g.D.Device.tells l.dev → WhereSpelled (g.S.Side.image (g.S.Side.set l.side)) l.committed l.fn.ring.head.seq (readable (g.D.Device.state l.fn.dev).disk.stable) (g.T.FileTree.disk l.fn.tree)
      (GoneOn (g.S.Side.image (g.S.Side.set l.side)) (g.S.Side.reads (g.S.Side.set l.side)) l.committed (l.fn.ring.head.seq + l.ring.count) (g.T.FileTree.disk l.fn.tree) (g.T.FileTree.disk l.tree));
}

abbrev pub decreases-loop-stored : goal.decreases-loop-stored
decreases-loop-stored g l = 2 ^ 63 - (l.ring.head.seq + l.ring.count)
