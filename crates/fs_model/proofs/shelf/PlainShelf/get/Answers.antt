use Rattle.std.proofs.Common.{sym, ◌∙◌}
use Rattle.fs_model.proofs.Maps.{oids_suit, get-view}
use Rattle.fs_model.proofs.shelf.PlainShelf.get.Goals as goal

pub returns : goal.returns
returns c = rw (← c.self.view_is) (c.get.ensures.value ∙ sym (get-view oids_suit _ _))
