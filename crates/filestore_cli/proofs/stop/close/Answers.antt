use Rattle.filestore_cli.proofs.Saying.{ends_written}
use Rattle.filestore_cli.proofs.stop.close.Goals as goal

pub returns-clause-ends : goal.returns-clause-ends
returns-clause-ends g c = ends_written _ _ _ _ c.write_all.result c.write_all.ensures.whole c.write_all.ensures.part c.write_all.ensures.cause
