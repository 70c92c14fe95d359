use Rattle.fs_model.proofs.Refusals.{within_limits, few_operations}
use Rattle.txn_codec.proofs.Shorts.{short_ops}
use Rattle.txn_codec.proofs.laws.encodable_law.Goals as goal

pub returns-clause-few : goal.returns-clause-few
returns-clause-few c = few_operations

pub returns-clause-short : goal.returns-clause-short
returns-clause-short c = λ S ops accepted. short_ops ops (within_limits S ops accepted)
