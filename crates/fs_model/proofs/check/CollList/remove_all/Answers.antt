use Rattle.std.proofs.Common.{◌∷◌, [], map, sym, ap, ◌∙◌}
use Rattle.std.specs.Map.Iter.{deref}
use Rattle.std.specs.FinSet.{remove, difference, from_list}
use Rattle.std.proofs.lemmas.List.{map-append}
use Rattle.fs_model.proofs.Changes.{removed_none, removed_more}
use Rattle.fs_model.proofs.check.CollList.remove_all.Goals as goal

pub loop-c-init : goal.loop-c-init
loop-c-init c = removed_none c.args.self.now

pub loop-c-preserved : goal.loop-c-preserved
loop-c-preserved c =
    let S = c.args.self.now in
    c.remove.ensures ∙ ap (λ X. remove X c.in-Some.c.now) c.loop-c.invariant
    ∙ removed_more S (map deref c.loop-c.yielded) c.in-Some.c.now
    ∙ ap (λ l. difference S (from_list l)) (sym (map-append deref c.loop-c.yielded (c.in-Some.c ∷ [])))
