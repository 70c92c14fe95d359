use Rattle.txn_codec.specs.Reading.{blob_at, repeated}
use Rattle.txn_codec.proofs.Loop.{goes_on}
use Rattle.txn_codec.proofs.reader.Reader.some_blobs.Goals as goal

pub loop-preserved : goal.loop-preserved
loop-preserved c =
    rw c.in_ok-push.ensures.items
    (goes_on blob_at c.loop.blobs.items c.args.count c.loop.counter c.loop.self c.in_ok-blob.field-0 c.blob.new.self (repeated c.args.count blob_at c.args.self.now)
    c.loop-test.true c.in_ok-blob.ensures c.loop.invariant)
