use Rattle.std.proofs.Common.{inr, rules}
use Rattle.dev_api.proofs.Run.{keeps_weaker}
use Rattle.store_history.proofs.Entries.{now_journal}
use Rattle.store_journal.proofs.Enters.{sync_done}
use Rattle.store_journal.proofs.entering.sync.Goals as goal

pub returns-in_err-sync-clause-crash : goal.returns-in_err-sync-clause-crash
returns-in_err-sync-clause-crash g c = λ t fsid h p synced hi side.
    keeps_weaker _ _ (now_journal fsid h p synced hi c.args.ring.now (g.D.Device.state c.args.dev.now).disk side) _ _ _ (c.sync.ensures.crash (search rules) (inr side.ring.holds))

pub returns-clause-crash : goal.returns-clause-crash
returns-clause-crash g c = λ t fsid h p synced hi side.
    keeps_weaker _ _ (now_journal fsid h p synced hi c.args.ring.now (g.D.Device.state c.args.dev.now).disk side) _ _ _ (c.sync.ensures.crash (search rules) (inr side.ring.holds))

pub returns-clause-done : goal.returns-clause-done
returns-clause-done g c = λ t fsid h p synced hi side.
    sync_done fsid h p synced hi c.args.ring.now (g.D.Device.state c.args.dev.now).disk side (g.D.Device.state c.sync.new.dev).disk c.sync.new.self c.sync.ensures.same (c.in_ok-sync.ensures.done (search rules) side.ring.holds)
