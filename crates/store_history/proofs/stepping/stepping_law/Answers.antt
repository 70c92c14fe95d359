use Rattle.store_history.proofs.StepLaws.{stepping_laws}
use Rattle.store_history.proofs.stepping.stepping_law.Goals as goal

pub returns-clause-laws : goal.returns-clause-laws
returns-clause-laws c = stepping_laws

pub returns-clause-unique : goal.returns-clause-unique
returns-clause-unique c = c.stands_law.ensures.unique stepping_laws
