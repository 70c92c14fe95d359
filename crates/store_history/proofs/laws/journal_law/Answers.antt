use Rattle.store_history.proofs.Entries.{now_journal}
use Rattle.store_history.proofs.laws.journal_law.Goals as goal

pub returns : goal.returns
returns c = λ fsid h p synced hi s d side. now_journal fsid h p synced hi s d side d (c.held_law.ensures s d side.ring.holds)
