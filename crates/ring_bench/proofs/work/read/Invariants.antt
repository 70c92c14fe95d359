use Rattle.std.proofs.Common.{◌≡◌, ◌≤◌}
use Rattle.ring_bench.proofs.work.read.Given as goal

abbrev pub invariant-loop : goal.invariant-loop
invariant-loop g l = record {
  extent : l.device.size ≡ l.ring.head.size;
  later : l.fn.device.faults ≤ l.device.faults;
}
