use Rattle.std.proofs.Common.{◌≡◌, ◌-◌}
use Rattle.txn_codec.specs.Reading.{pair_at, repeated}
use Rattle.txn_codec.proofs.Loop.{with_front}
use Rattle.txn_codec.proofs.reader.Reader.some_pairs.Given as goal

abbrev pub invariant-loop : goal.invariant-loop
invariant-loop l = with_front pair_at l.pairs.items (repeated (l.count - l.counter) pair_at l.self) ≡ repeated l.count pair_at l.fn.self
