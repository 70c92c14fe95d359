use Rattle.std.proofs.Common.{is_some, sym, ap, ◌∙◌}
use Rattle.fs_model.proofs.Maps.{colls_suit, get-view}
use Rattle.fs_model.proofs.plain.PlainObjects.has.Goals as goal

pub returns : goal.returns
returns c = rw (← c.self.view_is) (c.contains_key.ensures ∙ sym (ap is_some (get-view colls_suit _ _)))
