use Rattle.object_ops.proofs.Fresh.{known_all}
use Rattle.object_ops.proofs.trials.are_known.Goals as goal

pub returns : goal.returns
returns c = λ yes. known_all c.args.text.now c.args.entries.now c.loop-entry.entry-index c.loop-entry-test.false c.loop-entry.invariant
