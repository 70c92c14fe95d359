use Rattle.fs_model.proofs.Maps.{oids_suit, view-insert}
use Rattle.fs_model.proofs.shelf.PlainShelf.insert.Goals as goal

pub returns-clause-ok : goal.returns-clause-ok
returns-clause-ok c = rw (← c.self.view_is) (view-insert oids_suit _ _ _ _ c.in_ok-insert.ensures.updates.0)
