use Rattle.std.proofs.Common.{sym, ap, ◌∙◌}
use Rattle.fs_model.specs.Objects.{on_shelf}
use Rattle.fs_model.proofs.Maps.{colls_suit, get-view}
use Rattle.fs_model.proofs.plain.PlainObjects.kept.Goals as goal

pub returns-in-None : goal.returns-in-None
returns-in-None c = rw (← c.self.view_is) (ap (λ m. on_shelf m c.args.o.now) (c.in-None.ensures.value ∙ sym (get-view colls_suit _ _)))

pub returns-in-Some : goal.returns-in-Some
returns-in-Some c =
    rw (← c.self.view_is) (c.get-in-Some.ensures ∙ ap (λ m. on_shelf m c.args.o.now) (c.in-Some.ensures.value ∙ sym (get-view colls_suit _ _)))
