-- The operations of transactions, one after the other.
use Rattle.std.proofs.Common.{◌≡◌, ℕ, zero, suc, ◌+◌, ◌-◌, ◌<◌, ◌≤◌, List, [], ◌∷◌, ◌++◌, length, take, drop, get_or, refl, sym, ◌∙◌, ap, arith, append_assoc, length-append, take-add, take-append-drop, Some}
use Rattle.std.specs.Prelude.{slice_get}
use Rattle.fs_model.specs.declared.op.Op.{Op}
use Rattle.fs_model.specs.Objects.{Objects}
use Rattle.fs_model.specs.Rows.{fold_ops, fold_txns}
use Rattle.fs_cells.specs.Laws.{AreAllowed}
use Rattle.fs_cells.specs.Standing.{AllAllowed}
use Rattle.op_places.proofs.Colls.{none_or}
use Rattle.op_places.proofs.Line.{fold_append, allowed_both}
use Rattle.tree_places.specs.Line.{ops_of}

pub ops_append : (first rest : List (List Op)) → ops_of (first ++ rest) ≡ ops_of first ++ ops_of rest
ops_append [] rest = refl
ops_append (ops ∷ first) rest = ap (λ (l : List Op). ops ++ l) (ops_append first rest) ∙ sym (append_assoc ops (ops_of first) (ops_of rest))

-- the operations of the first n transactions, and of those after them up to m
pub ops_split : (txns : List (List Op)) (n m : ℕ) → n ≤ m → ops_of (take m txns) ≡ ops_of (take n txns) ++ ops_of (take (m - n) (drop n txns))
ops_split txns n m le =
    let sum : n + (m - n) ≡ m = omega (arith, le) in
    sym (ap (λ (k : ℕ). ops_of (take k txns)) sum) ∙ ap ops_of (take-add n (m - n) txns) ∙ ops_append (take n txns) (take (m - n) (drop n txns))

pub ops_rest : (txns : List (List Op)) (n : ℕ) → ops_of txns ≡ ops_of (take n txns) ++ ops_of (drop n txns)
ops_rest txns n = ap ops_of (sym (take-append-drop n txns)) ∙ ops_append (take n txns) (drop n txns)

pub fold_flat : (O : Objects) (txns : List (List Op)) → fold_ops O (ops_of txns) ≡ fold_txns O txns
fold_flat O [] = refl
fold_flat O (ops ∷ txns) = fold_append O ops (ops_of txns) ∙ fold_flat (fold_ops O ops) txns

pub allowed_flat : (O : Objects) (txns : List (List Op)) → AllAllowed O txns → AreAllowed O (ops_of txns)
allowed_flat O [] all = tt
allowed_flat O (ops ∷ txns) (here, all) = allowed_both O ops (ops_of txns) here (allowed_flat (fold_ops O ops) txns all)

-- where an operation of one of them stands
slice_left : (first rest : List Op) (i : ℕ) (op : Op) → slice_get first i ≡ Some op → slice_get (first ++ rest) i ≡ Some op
slice_left [] rest i op is = absurd (none_or op is)
slice_left (a ∷ first) rest zero op is = is
slice_left (a ∷ first) rest (suc i) op is = slice_left first rest i op is

slice_right : (first rest : List Op) (i : ℕ) → slice_get (first ++ rest) (length first + i) ≡ slice_get rest i
slice_right [] rest i =
    let same : 0 + i ≡ i = omega arith in
    ap (slice_get rest) same
slice_right (a ∷ first) rest i =
    let same : suc (length first) + i ≡ suc (length first + i) = omega arith in
    ap (slice_get (a ∷ first ++ rest)) same ∙ slice_right first rest i

pub op_place : (txns : List (List Op)) (n m i : ℕ) (op : Op) → n < m → slice_get (get_or txns n []) i ≡ Some op → slice_get (ops_of (take m txns)) (length (ops_of (take n txns)) + i) ≡ Some op
op_place [] n m i op lt is = absurd (none_or op is)
op_place (ops ∷ txns) n zero i op lt is = absurd (omega (arith, lt))
op_place (ops ∷ txns) zero (suc m) i op lt is =
    let same : 0 + i ≡ i = omega arith in
    ap (slice_get (ops ++ ops_of (take m txns))) same ∙ slice_left ops (ops_of (take m txns)) i op is
op_place (ops ∷ txns) (suc n) (suc m) i op lt is =
    let same : length (ops ++ ops_of (take n txns)) + i ≡ length ops + (length (ops_of (take n txns)) + i) = omega (arith, length-append ops (ops_of (take n txns))) in
    ap (slice_get (ops ++ ops_of (take m txns))) same
    ∙ slice_right ops (ops_of (take m txns)) (length (ops_of (take n txns)) + i)
    ∙ op_place txns n m i op (omega (arith, lt)) is

pub count_next : (txns : List (List Op)) (n : ℕ) → length (ops_of (take (suc n) txns)) ≡ length (ops_of (take n txns)) + length (get_or txns n [])
count_next [] zero = omega arith
count_next [] (suc n) = omega arith
count_next (ops ∷ txns) zero = length-append ops [] ∙ omega arith
count_next (ops ∷ txns) (suc n) =
    let rest : length (ops_of (take (suc n) txns)) ≡ length (ops_of (take n txns)) + length (get_or txns n []) = count_next txns n in
    omega (arith, rest, length-append ops (ops_of (take (suc n) txns)), length-append ops (ops_of (take n txns)))
