-- A slot with the groups and the number of operations of its transaction matches it.
use Rattle.std.proofs.Common.{◌≡◌, ℕ, zero, suc, ◌+◌, ◌-◌, List, [], ◌∷◌, length, get_or, refl, sym, ◌∙◌, ap}
use Rattle.std.proofs.lemmas.List.{length-map}
use Rattle.fs_names.specs.declared.coll.GroupId.{GroupId}
use Rattle.fs_model.specs.declared.op.Op.{Op}
use Rattle.turn_core.specs.Groups.{among}
use Rattle.slot_laws.specs.History.{Txn, txn}
use Rattle.fs_cells.specs.declared.cell.Cell.{Cell}
use Rattle.fs_cells.specs.Values.{Value}
use Rattle.fs_cells.specs.Actions.{act_of}
use Rattle.fs_cells.specs.Standing.{group_at, txn_of, history_of}
use Rattle.turn_history.specs.Operations.{SlotMatches}

pub txn_is : (txns : List (List Op)) (i : ℕ) → txn (history_of txns) i ≡ txn_of (get_or txns i [])
txn_is [] i = refl
txn_is (ops ∷ txns) zero = refl
txn_is (ops ∷ txns) (suc i) = txn_is txns i

pub slot_matches : SlotMatches
slot_matches base txns slot ops_are groups_are = record {
  ops_are = ops_are ∙ sym (length-map (get_or txns (slot.seq - (base + 1)) []) act_of) ∙ ap (λ (t : Txn Cell Value). length t.ops) (sym (txn_is txns (slot.seq - (base + 1))));
  names_are = λ x. ap (λ (t : Txn Cell Value). t.names x) (txn_is txns (slot.seq - (base + 1))) ∙ ap (λ (groups : List GroupId). among groups (group_at x)) (sym groups_are);
}
