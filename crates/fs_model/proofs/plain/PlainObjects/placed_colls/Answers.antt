use Rattle.std.proofs.Common.{rules, ◌≡◌, ◌∷◌, [], ◌++◌, map, sym, ap, ◌∙◌}
use Rattle.std.specs.Map.Iter.{deref}
use Rattle.std.proofs.lemmas.Map.Iter.{iter_end}
use Rattle.std.proofs.lemmas.List.{map-append}
use Rattle.fs_model.proofs.PlacedColls.{placed_none, placed_more, placed_all}
use Rattle.fs_model.proofs.plain.PlainObjects.placed_colls.Goals as goal

pub loop-c-preserved : goal.loop-c-preserved
loop-c-preserved c =
    placed_more (map deref c.loop-c.yielded) _ c.loop-c.set.keys _ c.in-Some.c.now c.loop-c.invariant (map-append deref c.loop-c.yielded (c.in-Some.c ∷ []))
    (c.in_ok-add.ensures.ordered c.loop-c.invariant.ordered) c.in_ok-add.ensures.added

pub returns : goal.returns
returns c =
    let e : map deref c.loop-c.yielded ≡ map (λ e. e.0) c.self.inside.shelves.entries = search (rules, iter_end) in
    rw (← c.self.view_is) (placed_all c.self.inside.shelves.entries _ _ c.loop-c.invariant e)
