-- Parts of a plain line.
use Rattle.std.proofs.Common.{◌≡◌, ℕ, zero, suc, ◌+◌, ◌<◌, ◌≤◌, List, [], ◌∷◌, ◌++◌, length, map, take, drop, get_or, refl, sym, ◌∙◌, ap, subst, arith, take-add, take-append-drop, Some}
use Rattle.std.proofs.lemmas.List.{take-map, take-append-le, length-map}
use Rattle.std.specs.Prelude.{slice_get}
use Rattle.fs_model.specs.declared.op.Op.{Op}
use Rattle.fs_model.specs.Objects.{Objects}
use Rattle.fs_model.specs.Rows.{row, fold_ops}
use Rattle.replay_laws.specs.Replay.{Act, leaves, Source, act, after, fold}
use Rattle.fs_cells.specs.declared.cell.Cell.{Cell}
use Rattle.fs_cells.specs.Values.{Value, raise, cells_of}
use Rattle.fs_cells.specs.Actions.{act_of}
use Rattle.fs_cells.specs.Laws.{IsAllowed, AreAllowed}
use Rattle.fs_cells.proofs.Rows.{folds_are}
use Rattle.op_places.specs.Line.{line_of, after_ops, NoneCopies, IsPlain}
use Rattle.op_places.proofs.Colls.{some_same, none_or}
use Rattle.op_places.proofs.Gone.{is_place}

pub fold_append : (O : Objects) (first rest : List Op) → fold_ops O (first ++ rest) ≡ fold_ops (fold_ops O first) rest
fold_append O [] rest = refl
fold_append O (op ∷ first) rest = fold_append (row O op) first rest

pub allowed_parts : (O : Objects) (first rest : List Op) → AreAllowed O (first ++ rest) → AreAllowed O first × AreAllowed (fold_ops O first) rest
allowed_parts O [] rest all = (tt, all)
allowed_parts O (op ∷ first) rest (here, all) = let two = allowed_parts (row O op) first rest all in ((here, two.0), two.1)

pub allowed_both : (O : Objects) (first rest : List Op) → AreAllowed O first → AreAllowed (fold_ops O first) rest → AreAllowed O (first ++ rest)
allowed_both O [] rest one two = two
allowed_both O (op ∷ first) rest (here, one) two = (here, allowed_both (row O op) first rest one two)

pub built_parts : (first rest : List Op) → NoneCopies (first ++ rest) → NoneCopies first × NoneCopies rest
built_parts [] rest all = (tt, all)
built_parts (op ∷ first) rest (here, all) = let two = built_parts first rest all in ((here, two.0), two.1)

pub built_both : (first rest : List Op) → NoneCopies first → NoneCopies rest → NoneCopies (first ++ rest)
built_both [] rest one two = two
built_both (op ∷ first) rest (here, one) two = (here, built_both first rest one two)

pub plain_first : (O : Objects) (first rest : List Op) → IsPlain O (first ++ rest) → IsPlain O first
plain_first O first rest plain = record { allowed = (allowed_parts O first rest plain.allowed).0; built = (built_parts first rest plain.built).0 }

pub plain_rest : (O : Objects) (first rest : List Op) → IsPlain O (first ++ rest) → IsPlain (fold_ops O first) rest
plain_rest O first rest plain = record { allowed = (allowed_parts O first rest plain.allowed).1; built = (built_parts first rest plain.built).1 }

-- the operations before k
pub allowed_take : (O : Objects) (ops : List Op) (k : ℕ) → AreAllowed O ops → AreAllowed O (take k ops)
allowed_take O ops k all = (allowed_parts O (take k ops) (drop k ops) (subst (λ (l : List Op). AreAllowed O l) (sym (take-append-drop k ops)) all)).0

-- after the first d operations m more are done
pub after_more : (O : Objects) (ops : List Op) (d m : ℕ) → after_ops (after_ops O ops d) (drop d ops) m ≡ after_ops O ops (d + m)
after_more O ops d m = sym (fold_append O (take d ops) (take m (drop d ops))) ∙ ap (fold_ops O) (sym (take-add d m ops))

pub after_longer : (O : Objects) (ops rest : List Op) (k : ℕ) → k ≤ length ops → after_ops O (ops ++ rest) k ≡ after_ops O ops k
after_longer O ops rest k le = ap (fold_ops O) (take-append-le k ops rest le)

-- the cells after the first k are those of the objects then
pub after_is : (O : Objects) (ops : List Op) (k : ℕ) → AreAllowed O ops → after (line_of O ops) k ≡ cells_of (after_ops O ops k)
after_is O ops k all =
    ap (λ (acts : List (Cell → Act Cell Value)). fold raise acts (cells_of O)) (take-map act_of k ops)
    ∙ sym (folds_are O (take k ops) (allowed_take O ops k all))

-- an operation is allowed after those before it
pub allowed_at : (O : Objects) (ops : List Op) (k : ℕ) (op : Op) → slice_get ops k ≡ Some op → AreAllowed O ops → IsAllowed (after_ops O ops k) op
allowed_at O [] k op is all = absurd (none_or op is)
allowed_at O (first ∷ ops) zero op is (here, all) = subst (λ (o : Op). IsAllowed O o) (some_same first op is) here
allowed_at O (first ∷ ops) (suc k) op is (here, all) = allowed_at (row O first) ops k op is all

-- none of the line copies
pub no_source : (O : Objects) (ops : List Op) → NoneCopies ops → (j : ℕ) (z y : Cell) → Source (act (line_of O ops) j z) y → ⊥
no_source O ops built j z y from = at ops built j from
  where
    at : (ops : List Op) → NoneCopies ops → (j : ℕ) → Source (get_or (map act_of ops) j (λ x. leaves) z) y → ⊥
    at [] built j from = from
    at (op ∷ ops) (here, built) zero from = here z y from
    at (op ∷ ops) (here, built) (suc j) from = at ops built j from

-- what the operation at k does to a cell
pub act_is : (O : Objects) (ops : List Op) (k : ℕ) (op : Op) → slice_get ops k ≡ Some op → (x : Cell) → act (line_of O ops) k x ≡ act_of op x
act_is O ops k op is x = at ops k is
  where
    at : (ops : List Op) (k : ℕ) → slice_get ops k ≡ Some op → get_or (map act_of ops) k (λ y. leaves) x ≡ act_of op x
    at [] k is = absurd (none_or op is)
    at (first ∷ ops) zero is = ap (λ (o : Op). act_of o x) (some_same first op is)
    at (first ∷ ops) (suc k) is = at ops k is

pub is_act : (O : Objects) (ops : List Op) (k : ℕ) (op : Op) → slice_get ops k ≡ Some op → k < length (line_of O ops).ops
is_act O ops k op is =
    let same : length (map act_of ops) ≡ length ops = length-map ops act_of in
    omega (arith, same, is_place ops k op is)
