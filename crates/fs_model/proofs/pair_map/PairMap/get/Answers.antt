use Rattle.std.proofs.Common.{sym, ◌∙◌}
use Rattle.fs_model.proofs.Maps.{bytes_suit, get-view}
use Rattle.fs_model.proofs.pair_map.PairMap.get.Goals as goal

pub returns : goal.returns
returns c = rw (← c.self.view_is) (c.get.ensures.value ∙ sym (get-view bytes_suit _ _))
