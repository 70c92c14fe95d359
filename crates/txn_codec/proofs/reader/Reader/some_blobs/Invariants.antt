use Rattle.std.proofs.Common.{◌≡◌, ◌-◌}
use Rattle.txn_codec.specs.Reading.{blob_at, repeated}
use Rattle.txn_codec.proofs.Loop.{with_front}
use Rattle.txn_codec.proofs.reader.Reader.some_blobs.Given as goal

abbrev pub invariant-loop : goal.invariant-loop
invariant-loop l = with_front blob_at l.blobs.items (repeated (l.count - l.counter) blob_at l.self) ≡ repeated l.count blob_at l.fn.self
