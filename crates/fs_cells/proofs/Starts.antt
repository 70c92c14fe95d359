-- Starts that a store's crashes leave.
use Rattle.std.proofs.Common.{◌≡◌, ◌⊎◌, inl, inr, ℕ, suc, ◌<◌, ◌≤◌, Bool, true, false, cond, ◌&&◌, Option, Some, None, List, [], ◌∷◌, ◌++◌, map as map_list, length, take, get_or, refl, sym, ◌∙◌, ap, subst, arith}
use Rattle.std.specs.Cmp.{eq_by_cmp_equiv}
use Rattle.std.specs.FinMap as map
use Rattle.fs_names.specs.declared.coll.Coll.{Coll}
use Rattle.fs_names.specs.declared.oid.Oid.{Oid}
use Rattle.fs_names.specs.Order.{coll_cmp_total, oid_cmp_total}
use Rattle.fs_model.specs.declared.op.Op.{Op}
use Rattle.fs_model.specs.declared.op.Op.TheVariants.{Touch, Clone, MoveRename}
use Rattle.fs_model.specs.Check.{same_object}
use Rattle.fs_model.specs.Objects.{Object, Objects, look, on_shelf, read_object}
use Rattle.fs_model.specs.Rows.{row, fold_ops}
use Rattle.fs_model.proofs.Cells.{same_coll, same_oid, look-with_object}
use Rattle.replay_laws.specs.Replay.{leaves, Source, Case, effect, moved, act, Had, Harmless, RenewedBefore, fold}
use Rattle.replay_laws.proofs.Walk.{fold_all}
use Rattle.fs_cells.specs.declared.cell.Cell.{Cell}
use Rattle.fs_cells.specs.declared.cell.Part.{Part}
use Rattle.fs_cells.specs.declared.cell.Part.TheVariants.{Exists, Length, Byte, Attr, OmapHeader, OmapKey}
use Rattle.fs_cells.specs.Values.{Value, raise, value_at, cells_of}
use Rattle.fs_cells.specs.Parts.{CellAct, part_at, removed, touched, copied}
use Rattle.fs_cells.specs.Actions.{is_of, act_of}
use Rattle.fs_cells.specs.Laws.{AreAllowed, cells_after, replay_of}
use Rattle.fs_cells.specs.Starts.{DoneSoFar, HalfCloned, Renamed, CollsNeeded}
use Rattle.fs_cells.proofs.Looks.{none_there}
use Rattle.fs_cells.proofs.Rows.{row_cell, fold_law}

take_first : (ops more : List Op) → take (length ops) (map_list act_of (ops ++ more)) ≡ map_list act_of ops
take_first [] [] = refl
take_first [] (op ∷ more) = refl
take_first (op ∷ ops) more = ap (λ l. act_of op ∷ l) (take_first ops more)

longer : (ops more : List Op) → length ops ≤ length (map_list act_of (ops ++ more))
longer [] more = omega arith
longer (op ∷ ops) more =
    let rest : length ops ≤ length (map_list act_of (ops ++ more)) = longer ops more in
    omega arith

-- the cells after the first operations, as replay has them
at_first : (O : Objects) (ops more : List Op) → AreAllowed O ops → (x : Cell) → cells_of (fold_ops O ops) x ≡ fold raise (take (length ops) (map_list act_of (ops ++ more))) (cells_of O) x
at_first O ops more allowed x = fold_law O ops allowed x ∙ sym (ap (λ l. fold raise l (cells_of O) x) (take_first ops more))

pub done_so_far : DoneSoFar
done_so_far O ops more allowed = record { cells = λ x. inl (had x (length (map_list act_of (ops ++ more))) (longer ops more)); copied = λ j x lt over. inr (λ y source. inl (had y j over)) }
  where
    had : (x : Cell) (j : ℕ) → length ops ≤ j → Had (replay_of O (ops ++ more) (cells_of (fold_ops O ops)) (λ y. length ops)) x j
    had x j over = record { when = length ops; from_guard = omega arith; by = over; value = at_first O ops more allowed x }

-- one operation behind others
before_last : (O : Objects) (ops : List Op) (op : Op) → AreAllowed O (ops ++ op ∷ []) → AreAllowed O ops
before_last O [] op allowed = tt
before_last O (p ∷ ops) op (here, rest) = (here, before_last (row O p) ops op rest)

last_row : (O : Objects) (ops : List Op) (op : Op) → AreAllowed O (ops ++ op ∷ []) → (x : Cell) → cells_of (fold_ops O (ops ++ op ∷ [])) x ≡ cells_after (cells_of (fold_ops O ops)) op x
last_row O [] op (here, rest) x = row_cell O op here x
last_row O (p ∷ ops) op (here, rest) x = last_row (row O p) ops op rest x

last_act : (ops : List Op) (op : Op) (x : Cell) → get_or (map_list act_of (ops ++ op ∷ [])) (length ops) (λ (y : Cell). leaves) x ≡ act_of op x
last_act [] op x = refl
last_act (p ∷ ops) op x = last_act ops op x

length_last : (ops : List Op) (op : Op) → length (map_list act_of (ops ++ op ∷ [])) ≡ suc (length ops)
length_last [] op = refl
length_last (p ∷ ops) op = ap suc (length_last ops op)

at_end : (O : Objects) (ops : List Op) (op : Op) → AreAllowed O (ops ++ op ∷ []) → (x : Cell) → cells_of (fold_ops O (ops ++ op ∷ [])) x ≡ fold raise (take (suc (length ops)) (map_list act_of (ops ++ op ∷ []))) (cells_of O) x
at_end O ops op allowed x =
    fold_law O (ops ++ op ∷ []) allowed x
    ∙ sym (fold_all raise (map_list act_of (ops ++ op ∷ [])) (cells_of O) x)
    ∙ ap (λ n. fold raise (take n (map_list act_of (ops ++ op ∷ []))) (cells_of O) x) (length_last ops op)

-- what a copy reads is of its source
one_cell : {P : Type 0} (y z : Cell) → (y ≡ z → P) → (y ≡ z) ⊎ ⊥ → P
one_cell y z then (inl is) = then is
one_cell y z then (inr none) = absurd none

source_of : (c : Coll) (o : Oid) (p : Part) (y : Cell) → Source (copied c o p) y → y ≡ part_at c o p
source_of c o Exists y s = absurd s
source_of c o Length y s = one_cell y _ (λ is. is) s
source_of c o (Byte i) y s = one_cell y _ (λ is. is) s
source_of c o (Attr k) y s = one_cell y _ (λ is. is) s
source_of c o OmapHeader y s = one_cell y _ (λ is. is) s
source_of c o (OmapKey k) y s = one_cell y _ (λ is. is) s

if_copied : {P : Type 0} (t : Bool) (a : CellAct) (y : Cell) → (Source a y → P) → Source (cond t a leaves) y → P
if_copied true a y then s = then s
if_copied false a y then s = absurd s

-- which a clone of another object leaves
source_left : (s : Cell → Value) (c : Coll) (o : Oid) (c2 : Coll) (o2 : Oid) → same_object (Clone c o c2 o2) ≡ false → (x y : Cell) → Source (act_of (Clone c o c2 o2) x) y → cells_after s (Clone c o c2 o2) y ≡ s y
source_left s c o c2 o2 other x y source =
    let is : y ≡ part_at c o x.part = if_copied (is_of c2 o2 x) (copied c o x.part) y (source_of c o x.part y) source in
    subst (λ (z : Cell). cells_after s (Clone c o c2 o2) z ≡ s z) (sym is) (ap (λ (t : Bool). moved raise (effect (cond t (copied c o x.part) leaves) s) (s (part_at c o x.part))) other)

pub half_cloned : HalfCloned
half_cloned O ops c o c2 o2 allowed other is_copied = record { cells = λ x. inl (each x (is_copied x) refl); copied = copied_at }
  where
    op : Op
    op = Clone c o c2 o2

    start : Case Cell Value
    start = replay_of O (ops ++ op ∷ []) (λ x. cond (is_copied x) (cells_of (fold_ops O (ops ++ op ∷ [])) x) (cells_of (fold_ops O ops) x)) (λ x. length ops)

    first : AreAllowed O ops
    first = before_last O ops op allowed

    each : (x : Cell) (t : Bool) → is_copied x ≡ t → Had start x (length start.ops)
    each x true is = record { when = suc (length ops); from_guard = omega arith; by = omega (arith, length_last ops op); value = ap (λ t. cond t (cells_of (fold_ops O (ops ++ op ∷ [])) x) (cells_of (fold_ops O ops) x)) is ∙ at_end O ops op allowed x }
    each x false is = record { when = length ops; from_guard = omega arith; by = omega (arith, length_last ops op); value = ap (λ t. cond t (cells_of (fold_ops O (ops ++ op ∷ [])) x) (cells_of (fold_ops O ops) x)) is ∙ at_first O ops (op ∷ []) first x }

    either : (t : Bool) (a b : Value) → a ≡ b → cond t a b ≡ b
    either true a b is = is
    either false a b is = refl

    copied_at : (j : ℕ) (x : Cell) → j < length start.ops → length ops ≤ j → Harmless start j x ⊎ ((y : Cell) → Source (act start j x) y → Had start y j ⊎ RenewedBefore start y j)
    copied_at j x lt over =
        let last : j ≡ length ops = omega (arith, length_last ops op) in
        inr (λ y source. inl (record {
          when = length ops;
          from_guard = omega arith;
          by = over;
          value = either (is_copied y) _ _ (last_row O ops op allowed y ∙ source_left (cells_of (fold_ops O ops)) c o c2 o2 other x y (subst (λ a. Source a y) (last_act ops op x) (subst (λ i. Source (act start i x) y) last source))) ∙ at_first O ops (op ∷ []) first y;
        }))

taken_reads : (t : Bool) (p : Part) (y : Cell) → Source (cond t (removed p) leaves) y → ⊥
taken_reads true p y s = s
taken_reads false p y s = s

pub renamed : Renamed
renamed O ops c o c2 o2 allowed = record { cells = λ x. inl (had x (is_of c2 o2 x) refl); copied = copied_at }
  where
    op : Op
    op = MoveRename c o c2 o2

    start : Case Cell Value
    start = replay_of O (ops ++ op ∷ []) (cells_of (fold_ops O (ops ++ op ∷ []))) (λ x. cond (is_of c2 o2 x) (suc (length ops)) (length ops))

    few : (t : Bool) (n : ℕ) → cond t (suc n) n ≤ suc n
    few true n = omega arith
    few false n = omega arith

    had : (x : Cell) (t : Bool) → is_of c2 o2 x ≡ t → Had start x (length start.ops)
    had x t is = record { when = suc (length ops); from_guard = few (is_of c2 o2 x) (length ops); by = omega (arith, length_last ops op); value = at_end O ops op allowed x }

    least : (t : Bool) (n j : ℕ) → cond t (suc n) n ≤ j → n ≤ j
    least true n j over = omega (arith, over)
    least false n j over = over

    reads : (x y : Cell) (t : Bool) → cond t (suc (length ops)) (length ops) ≤ length ops → Source (cond t (copied c o x.part) (cond (is_of c o x) (removed x.part) leaves)) y → ⊥
    reads x y true over s = absurd (omega (arith, over))
    reads x y false over s = taken_reads (is_of c o x) x.part y s

    copied_at : (j : ℕ) (x : Cell) → j < length start.ops → start.skips x ≤ j → Harmless start j x ⊎ ((y : Cell) → Source (act start j x) y → Had start y j ⊎ RenewedBefore start y j)
    copied_at j x lt over =
        let last : j ≡ length ops = omega (arith, lt, length_last ops op, least (is_of c2 o2 x) (length ops) j over) in
        inr (λ y source. absurd (reads x y (is_of c2 o2 x) (subst (λ i. cond (is_of c2 o2 x) (suc (length ops)) (length ops) ≤ i) last over) (subst (λ a. Source a y) (last_act ops op x) (subst (λ i. Source (act start i x) y) last source))))

both_true : (a b : Bool) → a ≡ true → b ≡ true → (a && b) ≡ true
both_true true b one two = two
both_true false b one two = cc

pub colls_needed : CollsNeeded
colls_needed O c o missing = (ap (λ (v : Option Object). value_at v Exists) none, ap (λ (t : Bool). moved raise (effect (cond t (touched Exists) leaves) (cells_of O)) (cells_of O (part_at c o Exists))) itself)
  where
    none : look (row O (Touch c o)) c o ≡ None
    none =
        look-with_object O c o (read_object O c o) c o
        ∙ ap (λ (t : Bool). cond (t && (same_coll c c && same_oid o o)) (Some (read_object O c o)) (look O c o)) missing
        ∙ ap (λ m. on_shelf m o) (none_there (map.get O c) missing)

    itself : is_of c o (part_at c o Exists) ≡ true
    itself = both_true _ _ ((eq_by_cmp_equiv coll_cmp_total).refl c) ((eq_by_cmp_equiv oid_cmp_total).refl o)
