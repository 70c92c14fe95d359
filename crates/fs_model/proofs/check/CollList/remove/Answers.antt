use Rattle.fs_model.proofs.Maps.{colls_suit}
use Rattle.fs_model.proofs.Sets.{view-set_remove}
use Rattle.fs_model.proofs.check.CollList.remove.Goals as goal

pub returns : goal.returns
returns c = rw (← c.self.view_is) (view-set_remove colls_suit _ _ _ c.remove.ensures.updates.0)
