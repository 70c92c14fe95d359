use Rattle.std.proofs.Common.{refl, inr}
use Rattle.dev_file.specs.Honest.{replay}
use Rattle.dev_file.proofs.device.FileDeviceDevice.sync.Goals as goal

pub returns-then-self-clause-refused : goal.returns-then-self-clause-refused
returns-then-self-clause-refused g c told =
    let was = replay g.S.Start.first (g.C.Calls.history c.args.self.now.calls) in
    (was.disk.reads, record { is = refl; history = inr (refl, refl) })

pub returns-in-Err-clause-refused : goal.returns-in-Err-clause-refused
returns-in-Err-clause-refused g c =
    let was = replay g.S.Start.first (g.C.Calls.history c.args.self.now.calls) in
    rw c.in-Err.ensures λ told. (was.disk.reads, record { is = refl; history = inr (refl, refl) })
