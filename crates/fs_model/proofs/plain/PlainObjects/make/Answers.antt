use Rattle.std.proofs.Common.{◌≡◌, true, false, refl, ap, ◌∙◌}
use Rattle.std.specs.FinMap as map
use Rattle.fs_model.proofs.Maps.{colls_suit, get-view, view-insert}
use Rattle.fs_model.proofs.plain.PlainObjects.make.Goals as goal

pub returns-then-contains_key-clause-ok : goal.returns-then-contains_key-clause-ok
returns-then-contains_key-clause-ok c =
    let there : true ≡ map.contains_key c.args.self.now c.args.c.now = rw (← c.self.view_is, get-view colls_suit) c.if-contains_key.ensures in
    rw (← there) refl

pub returns-clause-ok : goal.returns-clause-ok
returns-clause-ok c =
    let there : false ≡ map.contains_key c.args.self.now c.args.c.now = rw (← c.self.view_is, get-view colls_suit) c.if-contains_key.ensures in
    rw (← there, ← c.self.view_is)
    (view-insert colls_suit _ _ _ _ c.in_ok-insert.ensures.updates.0
    ∙ ap (map.insert (map.from_entries c.self.inside.shelves.entries) c.args.c.now) c.new-shelf.ensures)
