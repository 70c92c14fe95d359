-- What a stepping tree owes.
use Rattle.std.proofs.Common.{◌≡◌, ℕ, ◌-◌, List, take, drop, sym, ◌∙◌, ap, arith}
use Rattle.std.proofs.lemmas.List.{take-append-drop}
use Rattle.fs_model.specs.declared.op.Op.{Op}
use Rattle.fs_model.specs.Objects.{Objects}
use Rattle.fs_model.specs.Rows.{fold_txns}
use Rattle.store_history.specs.Images.{ImageLaws}
use Rattle.store_history.specs.Stepping.{IsStepping}
use Rattle.store_history.proofs.Parts.{fold_append, at_rebased}

rest : (k : ℕ) (o : Objects) (txns : List (List Op)) → fold_txns o txns ≡ fold_txns (fold_txns o (take k txns)) (drop k txns)
rest k o txns = ap (fold_txns o) (sym (take-append-drop k txns)) ∙ fold_append (take k txns) (drop k txns) o

pub stepping_laws : ImageLaws IsStepping
stepping_laws = record {
  more = λ h n lo hi t room is. record { number_is = is.number_is; low = is.low; high = omega (arith, is.high); objects_are = is.objects_are };
  rebase = λ h n lo hi end t base from within behind fits is.
      let low = is.low in
      let high = is.high in
      record {
        number_is = is.number_is;
        low = omega arith;
        high = omega arith;
        objects_are = is.objects_are ∙ sym (at_rebased h n t.applied end base (omega arith) (omega arith));
      };
  once = λ n before before2 txns t a b.
      rest (t.applied - n) before txns ∙ ap (λ (o : Objects). fold_txns o (drop (t.applied - n) txns)) (sym a.objects_are ∙ b.objects_are) ∙ sym (rest (t.applied - n) before2 txns);
  one_number = λ h g n m lo lo2 hi hi2 t a b. sym a.number_is ∙ b.number_is;
}
