use Rattle.std.proofs.Common.{◌∙◌, ◌++◌, List, sym, ap}
use Rattle.std.proofs.lemmas.List.{append-nil}
use Rattle.fs_names.specs.declared.coll.Coll.{Coll}
use Rattle.fs_model.proofs.PlacedColls.{emptied}
use Rattle.fs_model.proofs.coll_order.in_order.Goals as goal

pub returns : goal.returns
returns c =
    c.from_vec.ensures
    ∙ sym (c.loop-placed.invariant ∙ ap (λ (l : List Coll). c.loop-placed.names.items ++ l) (emptied c.loop-placed.left.keys c.pop_first.result c.pop_first.ensures.variant c.in_default.not-Some)
    ∙ append-nil c.loop-placed.names.items)
