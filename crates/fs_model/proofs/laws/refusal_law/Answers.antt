use Rattle.fs_model.proofs.Refusals.{refused_first, first_refused, taken_accepted, accepted_taken, within_limits, few_operations}
use Rattle.fs_model.proofs.laws.refusal_law.Goals as goal

pub returns-clause-refused : goal.returns-clause-refused
returns-clause-refused c = λ S ops k why. (refused_first S ops k why, first_refused S ops k why)

pub returns-clause-accepted : goal.returns-clause-accepted
returns-clause-accepted c = λ S ops. (taken_accepted S ops, accepted_taken S ops)

pub returns-clause-within : goal.returns-clause-within
returns-clause-within c = within_limits

pub returns-clause-few : goal.returns-clause-few
returns-clause-few c = few_operations
