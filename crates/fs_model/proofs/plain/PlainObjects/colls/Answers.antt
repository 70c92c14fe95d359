use Rattle.std.proofs.Common.{rules, ◌≡◌, ◌++◌, ◌∷◌, [], map, sym, ap, ◌∙◌}
use Rattle.std.specs.Map.Iter.{deref}
use Rattle.std.specs.FinSet.{from_list, insert, from_list_push}
use Rattle.std.proofs.lemmas.Map.Iter.{iter_end}
use Rattle.std.proofs.lemmas.List.{map-append}
use Rattle.fs_names.specs.Order.{coll_cmp_total, coll_cmp-IsAntisymmetric}
use Rattle.fs_model.proofs.Colls.{colls-entries}
use Rattle.fs_model.proofs.plain.PlainObjects.colls.Goals as goal

pub loop-c-preserved : goal.loop-c-preserved
loop-c-preserved c =
    c.in_ok-insert.ensures.ok
    ∙ ap (λ S. insert S c.in-Some.c.now) c.loop-c.invariant
    ∙ sym (from_list_push coll_cmp_total coll_cmp-IsAntisymmetric (map deref c.loop-c.yielded) c.in-Some.c.now)
    ∙ ap from_list (sym (map-append deref c.loop-c.yielded (c.in-Some.c ∷ [])))

pub returns : goal.returns
returns c =
    let e : map deref c.loop-c.yielded ≡ map (λ e. e.0) c.self.inside.shelves.entries = search (rules, iter_end) in
    rw (← c.self.view_is) (c.loop-c.invariant ∙ ap from_list e ∙ colls-entries c.self.inside.shelves.entries)
