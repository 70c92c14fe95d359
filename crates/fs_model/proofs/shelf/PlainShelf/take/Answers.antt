use Rattle.std.proofs.Common.{sym, ap, ◌∙◌}
use Rattle.std.specs.Option.{unwrap_or}
use Rattle.fs_model.specs.Objects.{empty_object}
use Rattle.fs_model.proofs.Maps.{oids_suit, get-view, view-remove}
use Rattle.fs_model.proofs.shelf.PlainShelf.take.Goals as goal
use Rattle.fs_model.proofs.shelf.PlainShelf.take.Goals.{in-Some, in-None}

pub returns-clause-taken : goal.returns-clause-taken
returns-clause-taken c = elim c.match-remove.branch [
  | in-Some w ↦ rw (w.result-is, ← c.self.view_is) (ap (λ m. unwrap_or m empty_object) (w.in-Some.ensures.value ∙ sym (get-view oids_suit _ _)))
  | in-None w ↦ rw (w.result-is, ← c.self.view_is) (w.new.ensures ∙ ap (λ m. unwrap_or m empty_object) (w.in-None.ensures.value ∙ sym (get-view oids_suit _ _)))
]

pub returns-clause-left : goal.returns-clause-left
returns-clause-left c = rw (← c.self.view_is) (view-remove oids_suit _ _ _ c.remove.ensures.updates.0)
