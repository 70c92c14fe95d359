use Rattle.std.proofs.Common.{ap, rules}
use Rattle.dev_api.proofs.Run.{keeps_weaker}
use Rattle.ring_journal.specs.State.{State}
use Rattle.store_journal.proofs.Enters.{append_crash, append_done}
use Rattle.store_journal.proofs.entering.append.Goals as goal

pub returns-in_err-append-clause-crash : goal.returns-in_err-append-clause-crash
returns-in_err-append-clause-crash g c = λ t fsid h p synced hi next side.
    keeps_weaker _ _ (λ e l. append_crash fsid h p synced hi c.args.ring.now (g.D.Device.state c.args.dev.now).disk side c.args.seq c.args.payload.now next e l) _ _ _ (c.append.ensures.crash (search rules))

pub returns-clause-crash : goal.returns-clause-crash
returns-clause-crash g c = λ t fsid h p synced hi next side.
    keeps_weaker _ _ (λ e l. append_crash fsid h p synced hi c.args.ring.now (g.D.Device.state c.args.dev.now).disk side c.args.seq c.args.payload.now next e l) _ _ _ (c.append.ensures.crash (search rules))

pub returns-clause-done : goal.returns-clause-done
returns-clause-done g c = λ t fsid h p synced hi next side.
    append_done fsid h p synced hi c.args.ring.now (g.D.Device.state c.args.dev.now).disk side c.args.seq c.args.payload.now next (g.D.Device.state c.append.new.dev).disk c.append.new.self
    (ap (λ (s : State). s.head) c.in_ok-append.ensures.moved) (c.in_ok-append.ensures.done (search rules))
