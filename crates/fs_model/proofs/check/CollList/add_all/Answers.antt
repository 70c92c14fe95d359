use Rattle.std.proofs.Common.{rules, ◌≡◌, ◌∷◌, ◌++◌, [], map, sym, ap, ◌∙◌}
use Rattle.std.specs.Map.Iter.{deref}
use Rattle.std.specs.FinSet.{insert, union, difference, from_list}
use Rattle.std.proofs.lemmas.List.{map-append}
use Rattle.std.proofs.lemmas.Map.Iter.{rest_so_far}
use Rattle.fs_model.proofs.Changes.{added_none, added_more, taken_back}
use Rattle.fs_model.proofs.check.CollList.add_all.Goals as goal

pub loop-c-init : goal.loop-c-init
loop-c-init c = added_none c.args.self.now

pub loop-c-preserved : goal.loop-c-preserved
loop-c-preserved c =
    let S = c.args.self.now in
    c.in_default.ensures.ok ∙ ap (λ X. insert X c.in-Some.c.now) c.loop-c.invariant
    ∙ added_more S (map deref c.loop-c.yielded) c.in-Some.c.now
    ∙ ap (λ l. union S (from_list l)) (sym (map-append deref c.loop-c.yielded (c.in-Some.c ∷ [])))

pub returns-in-Err-clause-err : goal.returns-in-Err-clause-err
returns-in-Err-clause-err c =
    let so_far : c.list.inside.colls.keys ≡ map deref c.loop-c.yielded ++ c.loop-c.c-iterator = search (rules, rest_so_far) in
    c.remove_all.ensures
    ∙ ap (λ X. difference X c.args.list.now) (c.in-Err.ensures.err ∙ c.loop-c.invariant)
    ∙ taken_back c.args.self.now c.args.list.now (map deref c.loop-c.yielded) c.loop-c.c-iterator c.requires (sym c.list.view_is ∙ ap from_list so_far)
