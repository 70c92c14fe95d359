-- Examples and counterexamples.
use Rattle.slot_laws.proofs.Eight.{eight_open}
use Rattle.slot_laws.proofs.Weaker.{weaker_law}
use Rattle.slot_laws.proofs.weaker_law.Goals as goal

pub returns-clause-weaker : goal.returns-clause-weaker
returns-clause-weaker c = weaker_law

pub returns-clause-eight : goal.returns-clause-eight
returns-clause-eight c = eight_open
