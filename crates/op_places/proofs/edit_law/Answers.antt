use Rattle.op_places.proofs.Edits.{edit_law}
use Rattle.op_places.proofs.edit_law.Goals as goal

pub returns : goal.returns
returns c = edit_law
