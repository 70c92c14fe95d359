use Rattle.std.proofs.Common.{inr, ap}
use Rattle.filestore_cli.specs.declared.status.Status.{Status}
use Rattle.filestore_cli.proofs.stop.end_refused.Goals as goal

pub returns-in_default-clause-ends : goal.returns-in_default-clause-ends
returns-in_default-clause-ends g c = inr (ap (λ (s : Status). s.0) c.close.ensures.same, tt, c.close.ensures.ends)
