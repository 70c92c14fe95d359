use Rattle.std.proofs.Common.{◌≡◌, ◌-◌, ◌≤◌, length, take}
use Rattle.io_edge.specs.Pieces.{Writes}
use Rattle.io_edge.proofs.sink.write_all.Given as goal

abbrev pub invariant-loop-done : goal.invariant-loop-done
invariant-loop-done g l = record {
  within : l.done ≤ length l.bytes;
  written : g.K.Sink.tells l.sink → Writes (g.K.Sink.out l.fn.sink) (g.K.Sink.out l.sink) (take l.done l.bytes);
  honest : g.K.Sink.tells l.sink → g.K.Sink.tells l.fn.sink;
  later : (g.K.Sink.out l.fn.sink).faults ≤ (g.K.Sink.out l.sink).faults;
}

abbrev pub decreases-loop-done : goal.decreases-loop-done
decreases-loop-done g l = length l.bytes - l.done
