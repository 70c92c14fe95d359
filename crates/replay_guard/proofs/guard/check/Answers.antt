use Rattle.std.proofs.Common.{true, false, refl}
use Rattle.std.specs.declared.cmp.Ordering.TheVariants.{Less, Equal, Greater}
use Rattle.replay_guard.proofs.Spelling.{verdict_is}
use Rattle.replay_guard.proofs.guard.check.Goals as goal

pub returns-in-Less : goal.returns-in-Less
returns-in-Less c = verdict_is c.args.guard c.in-Some.guard c.args.pos Less c.in-Some.guard.in_progress c.in-Some.is c.in-Less.ensures refl

pub returns-in-Equal : goal.returns-in-Equal
returns-in-Equal c = verdict_is c.args.guard c.in-Some.guard c.args.pos Equal true c.in-Some.is c.in-Equal.ensures c.if-guard.true

pub returns-in-Equal-2 : goal.returns-in-Equal-2
returns-in-Equal-2 c = verdict_is c.args.guard c.in-Some.guard c.args.pos Equal false c.in-Some.is c.in-Equal-2.ensures c.if-guard.false

pub returns-in-Greater : goal.returns-in-Greater
returns-in-Greater c = verdict_is c.args.guard c.in-Some.guard c.args.pos Greater c.in-Some.guard.in_progress c.in-Some.is c.in-Greater.ensures refl
