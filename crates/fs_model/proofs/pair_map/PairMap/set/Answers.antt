use Rattle.std.proofs.Common.{sym, ◌∙◌}
use Rattle.fs_model.proofs.Maps.{bytes_suit, view-insert, get-view}
use Rattle.fs_model.proofs.pair_map.PairMap.set.Goals as goal

pub returns-clause-ok : goal.returns-clause-ok
returns-clause-ok c = rw (← c.self.view_is) (c.in_ok-insert.ensures.old ∙ sym (get-view bytes_suit _ _))

pub returns-clause-set : goal.returns-clause-set
returns-clause-set c = rw (← c.self.view_is) (view-insert bytes_suit _ _ _ _ c.in_ok-insert.ensures.updates.0)
