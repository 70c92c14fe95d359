use Rattle.history_tails.proofs.Waits.{waits_begun, waits_more, waits_done}
use Rattle.history_tails.proofs.wait_law.Goals as goal

pub returns-clause-none : goal.returns-clause-none
returns-clause-none c = waits_begun

pub returns-clause-more : goal.returns-clause-more
returns-clause-more c = waits_more

pub returns-clause-done : goal.returns-clause-done
returns-clause-done c = waits_done
