use Rattle.fs_cells.proofs.Groups.{txns_within, txns_apart}
use Rattle.fs_cells.proofs.Standing.{join_law, once_law}
use Rattle.fs_cells.proofs.laws.stands_law.Goals as goal

pub returns-clause-within : goal.returns-clause-within
returns-clause-within c = txns_within

pub returns-clause-apart : goal.returns-clause-apart
returns-clause-apart c = txns_apart

pub returns-clause-join : goal.returns-clause-join
returns-clause-join c = join_law

pub returns-clause-once : goal.returns-clause-once
returns-clause-once c = once_law
