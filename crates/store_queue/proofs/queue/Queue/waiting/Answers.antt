use Rattle.std.proofs.Common.{sym, subst}
use Rattle.built_ops.specs.Built.{CanDo}
use Rattle.store_turns.specs.Waiting.{AllMeet}
use Rattle.store_queue.specs.Waiting.{AllSpelled}
use Rattle.store_queue.proofs.queue.Queue.waiting.Goals as goal

pub returns-clause-spells : goal.returns-clause-spells
returns-clause-spells c = subst AllSpelled (sym c.deref.ensures.value) c.self.invariant.spells

pub returns-clause-meets : goal.returns-clause-meets
returns-clause-meets c = subst (AllMeet CanDo) (sym c.deref.ensures.value) c.self.invariant.meets
