use Rattle.ring_journal.proofs.Numbers.{numbered, held_used, held_count, ended_counts, from_numbered}
use Rattle.ring_journal.proofs.laws.numbers_law.Goals as goal

pub returns-clause-read : goal.returns-clause-read
returns-clause-read c = numbered

pub returns-clause-used : goal.returns-clause-used
returns-clause-used c = held_used

pub returns-clause-count : goal.returns-clause-count
returns-clause-count c = held_count

pub returns-clause-ended : goal.returns-clause-ended
returns-clause-ended c = ended_counts

pub returns-clause-from : goal.returns-clause-from
returns-clause-from c = from_numbered
