use Rattle.std.proofs.Common.{◌≡◌, ◌||◌, subst}
use Rattle.std.specs.List.{list_any}
use Rattle.std.specs.Ordering.{eq_by_cmp}
use Rattle.fs_names.specs.declared.coll.Coll.{Coll}
use Rattle.fs_names.specs.Order.{coll_cmp}
use Rattle.fs_model.proofs.PlacedColls.{added}
use Rattle.fs_model.proofs.coll_order.add.Goals as goal

pub returns-clause-added : goal.returns-clause-added
returns-clause-added c =
    subst (λ (x : Coll). (q : Coll) → list_any (eq_by_cmp coll_cmp q) c.insert.new.self.keys ≡ (list_any (eq_by_cmp coll_cmp q) c.args.set.now.keys || eq_by_cmp coll_cmp q x))
    c.in_ok-placed.ensures (added c.in_ok-placed.placed _ _ c.in_ok-insert.ensures.updates.0)
