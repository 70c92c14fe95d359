-- An image and a journal stand for objects.
use Rattle.std.proofs.Common.{◌≡◌, ℕ, zero, suc, ◌-◌, ◌≤◌, List, [], ◌∷◌, map, take, sym, refl, ◌∙◌, ap, subst}
use Rattle.std.proofs.lemmas.List.{length-map}
use Rattle.fs_model.specs.declared.op.Op.{Op}
use Rattle.fs_model.specs.Objects.{Objects}
use Rattle.fs_model.specs.Rows.{fold_ops, fold_txns}
use Rattle.replay_laws.specs.Replay.{fold}
use Rattle.replay_laws.proofs.Carried.{fold_append}
use Rattle.slot_laws.specs.History.{flat, count, state}
use Rattle.slot_laws.specs.Slots.{StandsFor, above}
use Rattle.slot_laws.proofs.Slots.{slots_law}
use Rattle.fs_cells.specs.declared.cell.Cell.{Cell}
use Rattle.fs_cells.specs.Values.{Value, raise, cells_of}
use Rattle.fs_cells.specs.Actions.{act_of}
use Rattle.fs_cells.specs.Standing.{txn_of, history_of, AllAllowed, JoinLaw, OnceLaw}
use Rattle.fs_cells.proofs.Determined.{determined}
use Rattle.fs_cells.proofs.Replaying.{raise_laws}
use Rattle.fs_cells.proofs.Rows.{folds_are}

-- the cells after some transactions are those of the objects then
pub state_is : (O : Objects) (txns : List (List Op)) → AllAllowed O txns → (end : ℕ) → state raise (cells_of O) (history_of txns) end ≡ cells_of (fold_txns O (take end txns))
state_is O [] allowed zero = refl
state_is O [] allowed (suc end) = refl
state_is O (ops ∷ txns) allowed zero = refl
state_is O (ops ∷ txns) (here, rest) (suc end) =
    fold_append raise (map act_of ops) (flat (take end (history_of txns))) (cells_of O)
    ∙ ap (λ (s : Cell → Value). fold raise (flat (take end (history_of txns))) s) (sym (folds_are O ops here))
    ∙ state_is (fold_ops O ops) txns rest end

pub join_law : JoinLaw
join_law O txns allowed p n started end one two three four cells guards passed bound image =
    let pair = slots_law.join raise (cells_of O) (history_of txns) p n started end one two three (subst (λ k. end ≤ k) (sym (length-map txns txn_of)) four) cells guards passed bound image in
    subst (λ (s : Cell → Value). StandsFor raise (flat (above (history_of txns) p n end)) cells (λ x. guards x - count (history_of txns) n) s) (state_is O txns allowed end) pair.0

pub once_law : OnceLaw
once_law ops cells guards O P there one other = determined O P there (slots_law.once raise raise_laws ops cells guards (cells_of O) (cells_of P) one other)
