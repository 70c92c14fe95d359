use Rattle.ring_journal.proofs.Numbers.{sound_stable, sound_asked}
use Rattle.ring_journal.proofs.laws.sound_law.Goals as goal

pub returns-clause-stable : goal.returns-clause-stable
returns-clause-stable c = sound_stable

pub returns-clause-asked : goal.returns-clause-asked
returns-clause-asked c = sound_asked
