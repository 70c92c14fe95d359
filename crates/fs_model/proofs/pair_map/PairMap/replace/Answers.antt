use Rattle.fs_model.proofs.Maps.{bytes_suit, view-insert, not-absent}
use Rattle.fs_model.proofs.pair_map.PairMap.replace.Goals as goal

pub returns-in-Err : goal.returns-in-Err
returns-in-Err c = absurd (not-absent bytes_suit c.self.inside.pairs.entries c.args.key (rw c.self.view_is c.requires) c.in-Err.ensures.absent)

pub returns : goal.returns
returns c = rw (← c.self.view_is) (view-insert bytes_suit _ _ _ _ c.in_default.ensures.updates.0)
