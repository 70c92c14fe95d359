use Rattle.std.proofs.Common.{◌-◌, ◌<◌, ◌≤◌, vec_len}
use Rattle.io_edge.proofs.Reading.{HasRead}
use Rattle.io_edge.proofs.source.read_all.Given as goal

abbrev pub invariant-loop-bytes : goal.invariant-loop-bytes
invariant-loop-bytes g l = record {
  piece : 0 < vec_len l.piece;
  within : vec_len l.bytes ≤ l.limit;
  read : g.S.Source.tells l.source → HasRead (g.S.Source.inflow l.fn.source) (g.S.Source.inflow l.source) l.bytes.items;
  honest : g.S.Source.tells l.source → g.S.Source.tells l.fn.source;
  later : (g.S.Source.inflow l.fn.source).faults ≤ (g.S.Source.inflow l.source).faults;
}

abbrev pub decreases-loop-bytes : goal.decreases-loop-bytes
decreases-loop-bytes g l = l.limit - vec_len l.bytes
