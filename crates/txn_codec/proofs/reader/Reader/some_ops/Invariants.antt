use Rattle.std.proofs.Common.{◌≡◌, ◌-◌}
use Rattle.txn_codec.specs.Reading.{op_at, repeated}
use Rattle.txn_codec.proofs.Loop.{with_front}
use Rattle.txn_codec.proofs.reader.Reader.some_ops.Given as goal

abbrev pub invariant-loop : goal.invariant-loop
invariant-loop l = with_front op_at l.ops.items (repeated (l.count - l.counter) op_at l.self) ≡ repeated l.count op_at l.fn.self
