use Rattle.std.proofs.Common.{ℕ, List, [], if◌then◌else◌, ap, ◌∙◌}
use Rattle.tree_real.specs.Places.{note_text}
use Rattle.tree_real.proofs.note.Note.new.Goals as goal

pub returns-clause-text : goal.returns-clause-text
returns-clause-text c = λ node goal side aim n g s a.
    let to_node = c.inside-2.result.now in
    let side_now = c.side_inside-side.result.now in
    let to_side = c.inside-3.result.now in
    c.in_ok-note_text.ensures
    ∙ ap (λ (t : List ℕ). note_text t to_node side_now to_side) (c.inside.ensures.below node (c.deref.ensures ∙ n))
    ∙ ap (λ (t : List ℕ). note_text node t side_now to_side) (c.inside-2.ensures.below goal (c.deref-2.ensures ∙ g))
    ∙ ap (λ (t : List ℕ). note_text node goal t to_side) (c.side_inside-side.ensures side s)
    ∙ ap (λ (t : List ℕ). note_text node goal (if c.args.has_side then side else []) t) (c.inside-3.ensures.below aim (c.deref-3.ensures ∙ a))
