use Rattle.fs_model.proofs.Maps.{colls_suit, view-remove}
use Rattle.fs_model.proofs.plain.PlainObjects.drop_coll.Goals as goal

pub returns : goal.returns
returns c = rw (← c.self.view_is) (view-remove colls_suit _ _ _ c.remove.ensures.updates.0)
