use Rattle.std.proofs.Common.{◌≡◌, ◌≤◌}
use Rattle.ring_bench.proofs.work.append.Given as goal

abbrev pub invariant-loop-number : goal.invariant-loop-number
invariant-loop-number g l = record {
  extent : l.device.size ≡ l.ring.head.size;
  later : l.fn.device.faults ≤ l.device.faults;
}
