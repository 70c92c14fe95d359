use Rattle.txn_codec.specs.Reading.{op_at, repeated}
use Rattle.txn_codec.proofs.Loop.{goes_on, fault_goes}
use Rattle.txn_codec.proofs.reader.Reader.some_ops.Goals as goal

pub loop-preserved : goal.loop-preserved
loop-preserved c =
    rw c.in_ok-push.ensures.items
    (goes_on op_at c.loop.ops.items c.args.count c.loop.counter c.loop.self c.in-Ok.op c.op.new.self (repeated c.args.count op_at c.args.self.now)
    c.loop-test.true c.in-Ok.ensures c.loop.invariant)

pub returns-in-Err : goal.returns-in-Err
returns-in-Err c =
    fault_goes op_at c.loop.ops.items c.args.count c.loop.counter c.loop.self c.in-Err.fault (repeated c.args.count op_at c.args.self.now)
    c.loop-test.true c.in-Err.ensures c.loop.invariant
