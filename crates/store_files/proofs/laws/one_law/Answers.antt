use Rattle.store_files.proofs.Once.{one_store}
use Rattle.store_files.proofs.laws.one_law.Goals as goal

pub returns : goal.returns
returns c = one_store
