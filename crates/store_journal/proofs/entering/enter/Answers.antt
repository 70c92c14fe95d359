use Rattle.std.proofs.Common.{◌+◌, rules}
use Rattle.dev_api.proofs.Run.{keeps_then}
use Rattle.store_journal.proofs.entering.enter.Goals as goal

pub returns-clause-crash : goal.returns-clause-crash
returns-clause-crash g c = λ t fsid h p synced hi next side.
    keeps_then _ _ _ _ _ _ (c.append.ensures.crash (search rules) fsid h p synced hi next side)
    (c.sync.ensures.crash (search rules) fsid h p synced (hi + 1) (c.in_ok-append.ensures.done (search rules) fsid h p synced hi next side))

pub returns-clause-done : goal.returns-clause-done
returns-clause-done g c = λ t fsid h p synced hi next side.
    c.sync.ensures.done (search rules) fsid h p synced (hi + 1) (c.in_ok-append.ensures.done (search rules) fsid h p synced hi next side)
