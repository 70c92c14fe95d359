use Rattle.script_store.proofs.Queued.{queue_answers, queue_after}
use Rattle.script_store.proofs.queueing.queue.Goals as goal

pub returns-clause-answer : goal.returns-clause-answer
returns-clause-answer c = λ h waits. queue_answers h c.args.store c.args.txn c.queue-queued.result c.in_ok-answer.answer c.queue-queued.ensures.answer c.in_ok-answer.ensures waits

pub returns-clause-after : goal.returns-clause-after
returns-clause-after c = λ h waits.
    let q = c.queue-queued in
    queue_after h c.args.store c.args.txn q.new.self q.result c.in_ok-answer.answer q.ensures.answer c.in_ok-answer.ensures q.ensures.after q.ensures.err waits
