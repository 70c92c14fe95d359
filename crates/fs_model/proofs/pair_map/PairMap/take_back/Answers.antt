use Rattle.std.proofs.Common.{◌≡◌, ◌++◌, ◌∷◌, [], sym, ap, subst, ◌∙◌}
use Rattle.fs_model.specs.Plain.{put_back_last, undone, IsUndoOf}
use Rattle.fs_model.proofs.Undoing.{undone_last, is_undo_last}
use Rattle.fs_model.proofs.pair_map.PairMap.take_back.Goals as goal

pub put_back-requires : goal.put_back-requires
put_back-requires c =
    (is_undo_last c.loop-entry.self c.pop.new.self.items c.in-Some.entry (subst (IsUndoOf c.loop-entry.self) c.in-Some.ensures.items c.loop-entry.invariant.noted)).1

pub loop-entry-preserved : goal.loop-entry-preserved
loop-entry-preserved c =
    let m = c.loop-entry.self in
    let us = c.pop.new.self.items in
    let u = c.in-Some.entry in
    let left : c.put_back.new.self ≡ put_back_last u m = c.put_back.ensures in
    record {
      noted = subst (λ n. IsUndoOf n us) (sym left) (is_undo_last m us u (subst (IsUndoOf m) c.in-Some.ensures.items c.loop-entry.invariant.noted)).0;
      back = ap (λ n. undone n us) left ∙ sym (undone_last m us u) ∙ ap (undone m) (sym c.in-Some.ensures.items) ∙ c.loop-entry.invariant.back;
    }
