use Rattle.std.proofs.Common.{◌∙◌}
use Rattle.fs_model.proofs.PlacedColls.{by_text}
use Rattle.fs_model.proofs.coll_order.PlacedCollOrd.cmp.Goals as goal

pub returns : goal.returns
returns c =
    rw (← c.self.view_is, ← c.other.view_is)
    (by_text _ _ _ _ _ _ _ (c.slice.ensures ∙ c.self.invariant) (c.slice-2.ensures ∙ c.other.invariant) c.cmp-texts.ensures c.cmp.ensures c.then.ensures)
