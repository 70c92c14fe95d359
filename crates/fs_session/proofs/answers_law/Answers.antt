use Rattle.std.proofs.Common.{ap}
use Rattle.fs_session.specs.Answers.{Step}
use Rattle.fs_session.proofs.Sessions.{run_lines-append, answers_text-append, steps, acked-within}
use Rattle.fs_session.proofs.answers_law.Goals as goal

pub returns-clause-after_more : goal.returns-clause-after_more
returns-clause-after_more c = λ s xs ys. ap (λ (r : Step). r.session) (run_lines-append s xs ys)

pub returns-clause-queued_more : goal.returns-clause-queued_more
returns-clause-queued_more c = λ s xs ys. ap (λ (r : Step). r.queued) (run_lines-append s xs ys)

pub returns-clause-answers_more : goal.returns-clause-answers_more
returns-clause-answers_more c = λ s xs ys. ap (λ (r : Step). r.answers) (run_lines-append s xs ys)

pub returns-clause-text_more : goal.returns-clause-text_more
returns-clause-text_more c = answers_text-append

pub returns-clause-numbers : goal.returns-clause-numbers
returns-clause-numbers c = λ s lines. (steps s lines).number

pub returns-clause-counted : goal.returns-clause-counted
returns-clause-counted c = λ s lines counted. (steps s lines).counted counted

pub returns-clause-acked : goal.returns-clause-acked
returns-clause-acked c = acked-within
