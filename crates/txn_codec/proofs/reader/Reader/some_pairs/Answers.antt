use Rattle.txn_codec.specs.Reading.{pair_at, repeated}
use Rattle.txn_codec.proofs.Loop.{goes_on}
use Rattle.txn_codec.proofs.reader.Reader.some_pairs.Goals as goal

pub loop-preserved : goal.loop-preserved
loop-preserved c =
    rw c.in_ok-push.ensures.items
    (goes_on pair_at c.loop.pairs.items c.args.count c.loop.counter c.loop.self c.in_ok-pair.field-0 c.pair.new.self (repeated c.args.count pair_at c.args.self.now)
    c.loop-test.true c.in_ok-pair.ensures c.loop.invariant)
