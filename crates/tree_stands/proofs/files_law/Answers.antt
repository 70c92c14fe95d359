use Rattle.tree_stands.proofs.Files.{files_law}
use Rattle.tree_stands.proofs.files_law.Goals as goal

pub returns : goal.returns
returns c = files_law
