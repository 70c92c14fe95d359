-- Transactions that can be done.
use Rattle.std.proofs.Common.{◌≡◌, ◌⊎◌, inl, inr, ⊎_elim, ℕ, zero, suc, ◌-◌, Bool, true, false, cond, List, [], ◌∷◌, ◌++◌, length, take, drop, refl, subst, Some, None}
use Rattle.std.specs.Prelude.{slice_get, slice_index_or}
use Rattle.fs_names.specs.declared.coll.Coll.{Coll}
use Rattle.fs_names.specs.declared.oid.Oid.{Oid}
use Rattle.fs_model.specs.declared.op.Op.{Op}
use Rattle.fs_model.specs.declared.op.Op.TheVariants.{Touch, Write, Zero, Truncate, Remove, SetAttrs, RmAttr, RmAttrs, Clone, CloneRange, MoveRename, MkColl, RmColl, OmapClear, OmapSet, OmapRemove, OmapRange}
use Rattle.fs_model.specs.Objects.{Objects}
use Rattle.built_ops.specs.Built.{is_built, AllFit, CanDo}
use Rattle.replay_laws.specs.Replay.{leaves, Source}
use Rattle.fs_cells.specs.declared.cell.Cell.{Cell}
use Rattle.fs_cells.specs.declared.cell.Part.{Part}
use Rattle.fs_cells.specs.Parts.{CellAct, touched, overwritten, resized, removed, attrs_set, attr_removed, attrs_removed}
use Rattle.fs_cells.specs.Actions.{in_coll, is_of, on_object}
use Rattle.fs_cells.proofs.Reading.{Plain, touched_plain, overwritten_plain, resized_plain, attrs_set_plain, attr_removed_plain, attrs_removed_plain}
use Rattle.store_history.specs.History.{History, part, replay_of}
use Rattle.op_places.specs.Line.{CopiesNone, NoneCopies}
use Rattle.tree_places.specs.Line.{with_txn}
use Rattle.tree_places.specs.Images.{AllCan}

none_is : {A : Type 0} (x : A) → None ≡ Some x → ⊥
none_is x e = cc

one_is : {A : Type 0} (x y : A) → Some x ≡ Some y → x ≡ y
one_is x y e = cc

-- what stands in a part of a list stands in it
in_first : {A : Type 0} (xs : List A) (n i : ℕ) (x : A) → slice_get (take n xs) i ≡ Some x → slice_get xs i ≡ Some x
in_first [] zero i x is = is
in_first [] (suc n) i x is = is
in_first (y ∷ xs) zero i x is = absurd (none_is x is)
in_first (y ∷ xs) (suc n) zero x is = is
in_first (y ∷ xs) (suc n) (suc i) x is = in_first xs n i x is

in_rest : {A : Type 0} (xs : List A) (n i : ℕ) (x : A) → slice_get (drop n xs) i ≡ Some x → (j : ℕ) × (slice_get xs j ≡ Some x)
in_rest [] zero i x is = (i, is)
in_rest [] (suc n) i x is = (i, is)
in_rest (y ∷ xs) zero i x is = (i, is)
in_rest (y ∷ xs) (suc n) i x is = let found = in_rest xs n i x is in (suc found.0, found.1)

-- and of one more it is that one, or stood before
last_or : {A : Type 0} (xs : List A) (y : A) (i : ℕ) (x : A) → slice_get (xs ++ y ∷ []) i ≡ Some x → (slice_get xs i ≡ Some x) ⊎ (y ≡ x)
last_or [] y zero x is = inr (one_is y x is)
last_or [] y (suc i) x is = absurd (none_is x is)
last_or (z ∷ xs) y zero x is = inl is
last_or (z ∷ xs) y (suc i) x is = last_or xs y i x is

pub can_part : (h : History) (n end : ℕ) (before : Objects) → AllCan h → AllCan (replay_of n before (part h n end))
can_part h n end before can i ops is =
    let found = in_rest h.txns (n - h.base) i ops (in_first (drop (n - h.base) h.txns) (end - n) i ops is) in
    can found.0 ops found.1

pub can_longer : (h : History) (ops : List Op) → AllCan h → CanDo ops → AllCan (with_txn h ops)
can_longer h ops can one i more is = ⊎_elim (can i more) (λ same. subst CanDo same one) (last_or h.txns ops i more is)

pub can_none : (n : ℕ) (before : Objects) → AllCan (replay_of n before [])
can_none n before i ops is = absurd (none_is ops is)

-- what is built copies nothing
chosen : (t : Bool) (a : CellAct) (y : Cell) → (Source a y → ⊥) → Source (cond t a leaves) y → ⊥
chosen true a y none s = none s
chosen false a y none s = s

on_one : (c : Coll) (o : Oid) (act : Part → CellAct) → Plain act → (x y : Cell) → Source (on_object c o act x) y → ⊥
on_one c o act plain x y s = chosen (is_of c o x) (act x.part) y (plain x.part y) s

never : false ≡ true → ⊥
never e = cc

pub built_copies_none : (op : Op) → is_built op ≡ true → CopiesNone op
built_copies_none (Touch c o) is = on_one c o touched touched_plain
built_copies_none (Write c o at bytes) is = on_one c o (overwritten at (length bytes) (λ i. slice_index_or bytes i 0)) (overwritten_plain at (length bytes) (λ i. slice_index_or bytes i 0))
built_copies_none (Zero c o at len) is = on_one c o (overwritten at len (λ i. 0)) (overwritten_plain at len (λ i. 0))
built_copies_none (Truncate c o len) is = on_one c o (resized len) (resized_plain len)
built_copies_none (Remove c o) is = on_one c o removed (λ p z none. none)
built_copies_none (SetAttrs c o pairs) is = on_one c o (attrs_set pairs) (attrs_set_plain pairs)
built_copies_none (RmAttr c o name) is = on_one c o (attr_removed name) (attr_removed_plain name)
built_copies_none (RmAttrs c o) is = on_one c o attrs_removed attrs_removed_plain
built_copies_none (MkColl c) is = λ x y s. s
built_copies_none (RmColl c) is = λ x y s. chosen (in_coll c x) (removed x.part) y (λ none. none) s
built_copies_none (Clone c o c2 o2) is = absurd (never is)
built_copies_none (CloneRange c o c2 o2 from len to) is = absurd (never is)
built_copies_none (MoveRename c o c2 o2) is = absurd (never is)
built_copies_none (OmapClear c o) is = absurd (never is)
built_copies_none (OmapSet c o header pairs) is = absurd (never is)
built_copies_none (OmapRemove c o keys) is = absurd (never is)
built_copies_none (OmapRange c o from to) is = absurd (never is)

pub none_copy : (ops : List Op) → AllFit ops → NoneCopies ops
none_copy [] all = tt
none_copy (op ∷ ops) all = (built_copies_none op (all 0 op refl).1, none_copy ops (λ i o is. all (suc i) o is))
