use Rattle.replay_laws.proofs.Keeps.{keeps_law}
use Rattle.replay_laws.proofs.Places.{places_law}
use Rattle.fs_cells.proofs.Replaying.{raise_laws}
use Rattle.fs_cells.proofs.laws.keeps_law.Goals as goal

pub returns-clause-raising : goal.returns-clause-raising
returns-clause-raising c = raise_laws

pub returns-clause-one : goal.returns-clause-one
returns-clause-one c = keeps_law

pub returns-clause-several : goal.returns-clause-several
returns-clause-several c = places_law
