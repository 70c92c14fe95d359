use Rattle.op_places.proofs.Lines.{line_law}
use Rattle.op_places.proofs.line_law.Goals as goal

pub returns : goal.returns
returns c = line_law
