use Rattle.std.proofs.Common.{◌≡◌, ◌+◌, ◌*◌, ◌≤◌, List, ℕ, length, take, drop}
use Rattle.dev_api.specs.Run.{Keeps}
use Rattle.ring_frame.specs.Frame.{Entry}
use Rattle.ring_frame.specs.Heads.{Head}
use Rattle.ring_images.specs.Turned.{turned}
use Rattle.ring_images.specs.Held.{Leaves}
use Rattle.ring_journal.specs.Swept.{Swept, Sweeps}
use Rattle.ring_journal.proofs.clear.clear_piece.Given as goal

abbrev pub invariant-loop-block : goal.invariant-loop-block
invariant-loop-block g l = record {
  honest : g.D.Device.tells l.dev → g.D.Device.tells l.fn.dev;
  extent : (g.D.Device.state l.dev).size ≡ (g.D.Device.state l.fn.dev).size;
  later : (g.D.Device.state l.fn.dev).faults ≤ (g.D.Device.state l.dev).faults;
  swept : g.D.Device.tells l.dev → (h : Head) (heads : List ℕ) (es : List Entry) → Sweeps h l.start l.size heads es l.offset (g.D.Device.state l.fn.dev).disk
      → l.bytes ≡ take (length l.bytes) (drop l.offset (turned l.start (g.D.Device.state l.fn.dev).disk.reads))
      → Swept h l.size heads es (l.offset + l.block * 4096) (g.D.Device.state l.fn.dev).disk (g.D.Device.state l.dev).disk;
  keeps : g.D.Device.tells l.dev → (h : Head) (heads : List ℕ) (es : List Entry) → Sweeps h l.start l.size heads es l.offset (g.D.Device.state l.fn.dev).disk
      → l.bytes ≡ take (length l.bytes) (drop l.offset (turned l.start (g.D.Device.state l.fn.dev).disk.reads))
      → Keeps (Leaves h es es) (g.D.Device.state l.dev).disk (g.D.Device.state l.fn.dev).past (g.D.Device.state l.dev).past;
}
