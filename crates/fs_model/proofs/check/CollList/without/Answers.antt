use Rattle.std.proofs.Common.{◌∷◌, [], map, sym, ap, ◌∙◌}
use Rattle.std.specs.Map.Iter.{deref}
use Rattle.std.specs.FinSet.{insert, difference, from_list}
use Rattle.std.proofs.lemmas.List.{map-append}
use Rattle.fs_model.proofs.Changes.{lacked_none, lacked_more, lacked_same}
use Rattle.fs_model.proofs.check.CollList.without.Goals as goal

pub loop-c-init : goal.loop-c-init
loop-c-init c = c.new-rest.ensures ∙ lacked_none c.args.self.now

pub loop-c-preserved-in-Continue-1 : goal.loop-c-preserved-in-Continue-1
loop-c-preserved-in-Continue-1 c =
    let S = c.args.self.now in
    c.in_ok-insert.ensures.ok ∙ ap (λ X. insert X c.in-Some.c.now) c.loop-c.invariant
    ∙ lacked_more S (map deref c.loop-c.yielded) c.in-Some.c.now (sym c.if-not-has.ensures)
    ∙ ap (λ l. difference (from_list l) S) (sym (map-append deref c.loop-c.yielded (c.in-Some.c ∷ [])))

pub loop-c-preserved : goal.loop-c-preserved
loop-c-preserved c =
    let S = c.args.self.now in
    c.loop-c.invariant
    ∙ lacked_same S (map deref c.loop-c.yielded) c.in-Some.c.now (sym c.if-not-has.ensures)
    ∙ ap (λ l. difference (from_list l) S) (sym (map-append deref c.loop-c.yielded (c.in-Some.c ∷ [])))
