use Rattle.std.proofs.Common.{◌≡◌, None, subst}
use Rattle.turn_core.specs.declared.turn.Turn.TheVariants as turn
use Rattle.turn_core.specs.Table.{missing}
use Rattle.turn_core.proofs.tests.start.Goals as goal

pub step-requires-clause-is_ready : goal.step-requires-clause-is_ready
step-requires-clause-is_ready c = subst (λ front. missing c.args.core.now turn.Start front ≡ None) c.slice.ensures c.in_ok-ready.ensures.none_missing
