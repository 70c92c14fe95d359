use Rattle.txn_codec.proofs.Payload.{payload_takes, payload_again, payload_one}
use Rattle.txn_codec.proofs.laws.payload_law.Goals as goal

pub returns-clause-read : goal.returns-clause-read
returns-clause-read c = payload_again

pub returns-clause-spelled : goal.returns-clause-spelled
returns-clause-spelled c = payload_takes

pub returns-clause-one : goal.returns-clause-one
returns-clause-one c = payload_one
