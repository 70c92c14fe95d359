use Rattle.std.proofs.Common.{sym, ◌∙◌}
use Rattle.fs_model.proofs.Maps.{colls_suit}
use Rattle.fs_model.proofs.Sets.{contains-view}
use Rattle.fs_model.proofs.check.CollList.has.Goals as goal

pub returns : goal.returns
returns c = rw (← c.self.view_is) (c.contains.ensures ∙ sym (contains-view colls_suit _ _))
