use Rattle.std.proofs.Common.{refl}
use Rattle.filestore_cli.specs.Run.{new_identity}
use Rattle.filestore_cli.proofs.opening.new_identity.Goals as goal

pub returns-clause-is : goal.returns-clause-is
unfolding new_identity
returns-clause-is c = refl
