use Rattle.file_side.proofs.Fit.{fit_law}
use Rattle.file_side.proofs.fit_law.Goals as goal

pub returns : goal.returns
returns c = fit_law
