use Rattle.fs_model.proofs.Maps.{colls_suit}
use Rattle.fs_model.proofs.Sets.{view-set_insert}
use Rattle.fs_model.proofs.check.CollList.insert.Goals as goal

pub returns-clause-ok : goal.returns-clause-ok
returns-clause-ok c = rw (← c.self.view_is) (view-set_insert colls_suit _ _ _ c.in_ok-insert.ensures.updates.0)
