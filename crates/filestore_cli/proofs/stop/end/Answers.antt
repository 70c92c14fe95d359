use Rattle.std.proofs.Common.{ap, refl}
use Rattle.filestore_cli.specs.declared.stop.Stop.TheVariants.{Usage, Tree, Device, Source, Memory}
use Rattle.filestore_cli.specs.declared.status.Status.{Status}
use Rattle.filestore_cli.proofs.Stopping.{ended_as}
use Rattle.filestore_cli.proofs.stop.end.Goals as goal

pub returns-in-Usage-clause-ends : goal.returns-in-Usage-clause-ends
returns-in-Usage-clause-ends g c = ended_as _ Usage _ _ _ c.in-Usage.is (ap (λ (s : Status). s.0) c.close.ensures.same) refl c.close.ensures.ends

pub returns-in-Tree-clause-ends : goal.returns-in-Tree-clause-ends
returns-in-Tree-clause-ends g c = ended_as _ Tree _ _ _ c.in-Tree.is (ap (λ (s : Status). s.0) c.close-in-Tree.ensures.same) refl c.close-in-Tree.ensures.ends

pub returns-in-Device-clause-ends : goal.returns-in-Device-clause-ends
returns-in-Device-clause-ends g c = ended_as _ Device _ _ _ c.in-Device.is (ap (λ (s : Status). s.0) c.close-in-Device.ensures.same) refl c.close-in-Device.ensures.ends

pub returns-in-Source-clause-ends : goal.returns-in-Source-clause-ends
returns-in-Source-clause-ends g c = ended_as _ Source _ _ _ c.in-Source.is (ap (λ (s : Status). s.0) c.close-in-Source.ensures.same) refl c.close-in-Source.ensures.ends

pub returns-in-Memory-clause-ends : goal.returns-in-Memory-clause-ends
returns-in-Memory-clause-ends g c = ended_as _ Memory _ _ _ c.in-Memory.is (ap (λ (s : Status). s.0) c.close-in-Memory.ensures.same) refl c.close-in-Memory.ensures.ends
