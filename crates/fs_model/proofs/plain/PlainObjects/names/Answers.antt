use Rattle.std.proofs.Common.{is_some, sym, ap, subst, ◌∙◌}
use Rattle.std.specs.Option.{unwrap_or}
use Rattle.std.specs.FinMap as map
use Rattle.fs_model.specs.Listing.{IsEachOnce}
use Rattle.fs_model.proofs.Maps.{colls_suit, get-view}
use Rattle.fs_model.proofs.plain.PlainObjects.names.Goals as goal

pub returns-in-None-clause-there : goal.returns-in-None-clause-there
returns-in-None-clause-there c = rw (← c.self.view_is) (ap is_some (c.in-None.ensures.value ∙ sym (get-view colls_suit _ _)))

pub returns-in_ok-names-in-Some-clause-there : goal.returns-in_ok-names-in-Some-clause-there
returns-in_ok-names-in-Some-clause-there c = rw (← c.self.view_is) (ap is_some (c.in-Some.ensures.value ∙ sym (get-view colls_suit _ _)))

pub returns-in_ok-names-in-Some-clause-each_once : goal.returns-in_ok-names-in-Some-clause-each_once
returns-in_ok-names-in-Some-clause-each_once c =
    rw (← c.self.view_is)
    (subst (IsEachOnce c.in_ok-names-in-Some.field-0) (ap (λ m. unwrap_or m map.empty) (c.in-Some.ensures.value ∙ sym (get-view colls_suit _ _))) c.in_ok-names-in-Some.ensures)
