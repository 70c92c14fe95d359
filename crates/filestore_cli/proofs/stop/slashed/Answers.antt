use Rattle.std.proofs.Common.{arith}
use Rattle.filestore_cli.proofs.Lines.{one_more}
use Rattle.filestore_cli.proofs.stop.slashed.Goals as goal

pub loop-i-preserved : goal.loop-i-preserved
loop-i-preserved c = record {
  text = one_more c.args.path.now c.loop-i.i c.step.result.now c.loop-i.text.items c.push.new.self.items c.extend_from_slice.new.self.items (omega (arith, c.loop-i-test.true, c.steps-i-end.ensures)) c.step.ensures.bytes c.loop-i.invariant.text
      c.in_ok-push.ensures.items c.in_ok-extend_from_slice.ensures.items;
}
