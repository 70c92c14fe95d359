use Rattle.fs_model.proofs.Maps.{bytes_suit, view-remove}
use Rattle.fs_model.proofs.pair_map.PairMap.remove.Goals as goal

pub returns : goal.returns
returns c = rw (← c.self.view_is) (view-remove bytes_suit _ _ _ c.remove.ensures.updates.0)
