use Rattle.store_files.proofs.Whole.{made_is_store}
use Rattle.store_files.proofs.laws.made_law.Goals as goal

pub returns : goal.returns
returns c = made_is_store
