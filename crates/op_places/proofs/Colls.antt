-- Which collections are there along a line of operations.
use Rattle.std.proofs.Common.{◌≡◌, ◌≢◌, ◌⊎◌, inl, inr, ⊎_elim, ℕ, zero, suc, Bool, true, false, not, ◌&&◌, ◌||◌, List, [], ◌∷◌, length, take, refl, sym, ◌∙◌, ap, subst, Some, None}
use Rattle.std.proofs.Math.Seq.{take-length}
use Rattle.std.proofs.lemmas.Bool.{cases_Bool}
use Rattle.std.specs.Prelude.{slice_get}
use Rattle.std.specs.Ordering.{eq_by_cmp}
use Rattle.std.specs.FinMap as fin
use Rattle.std.specs.FinSet as set
use Rattle.fs_names.specs.declared.coll.Coll.{Coll}
use Rattle.fs_names.specs.Order.{coll_cmp, coll_cmp_total}
use Rattle.fs_model.specs.declared.op.Op.{Op}
use Rattle.fs_model.specs.declared.op.Op.TheVariants.{MkColl, RmColl}
use Rattle.fs_model.specs.Objects.{Objects}
use Rattle.fs_model.specs.Colls.{CollSet, colls_of}
use Rattle.fs_model.specs.Check.{op_colls}
use Rattle.fs_model.specs.Rows.{row, fold_ops}
use Rattle.fs_model.proofs.Colls.{contains-colls_of, row-colls}
use Rattle.fs_cells.proofs.Looks.{is_coll}
use Rattle.tree_stands.proofs.Names.{coll_itself, true_not_false}
use Rattle.op_places.specs.Line.{after_ops, makes, takes, there_by}

pub two_colls : (a b : Coll) → ((eq_by_cmp coll_cmp a b ≡ true) × (a ≡ b)) ⊎ ((eq_by_cmp coll_cmp a b ≡ false) × (a ≢ b))
two_colls a b = ⊎_elim
    (λ t. inl (t, is_coll a b t))
    (λ f. inr (f, λ same. true_not_false (eq_by_cmp coll_cmp a b) (subst (λ (c : Coll). eq_by_cmp coll_cmp a c ≡ true) same (coll_itself a)) f))
    (cases_Bool (eq_by_cmp coll_cmp a b))

by_sets : (O : Objects) (op : Op) (c : Coll) → fin.contains_key (row O op) c ≡ set.contains (op_colls (colls_of O) op) c
by_sets O op c = sym (contains-colls_of (row O op) c) ∙ ap (λ (S : CollSet). set.contains S c) (row-colls O op)

pub row_there : (O : Objects) (op : Op) (c : Coll) → fin.contains_key (row O op) c ≡ there_by c op (fin.contains_key O c)
row_there O (MkColl d) c =
    by_sets O (MkColl d) c ∙ set.contains-insert coll_cmp_total (colls_of O) d c ∙ ap (λ (b : Bool). eq_by_cmp coll_cmp c d || b) (contains-colls_of O c)
row_there O (RmColl d) c =
    by_sets O (RmColl d) c ∙ set.contains-remove coll_cmp_total (colls_of O) d c ∙ ap (λ (b : Bool). not (eq_by_cmp coll_cmp c d) && b) (contains-colls_of O c)
row_there O op c = by_sets O op c ∙ contains-colls_of O c

-- after several
abbrev pub there_after : Coll → Bool → List Op → Bool
there_after c b [] = b
there_after c b (op ∷ ops) = there_after c (there_by c op b) ops

pub fold_there : (O : Objects) (ops : List Op) (c : Coll) → fin.contains_key (fold_ops O ops) c ≡ there_after c (fin.contains_key O c) ops
fold_there O [] c = refl
fold_there O (op ∷ ops) c = fold_there (row O op) ops c ∙ ap (λ (b : Bool). there_after c b ops) (row_there O op c)

-- an operation decides whether a collection is there, or leaves it so
decides : (m t : Bool) → ((a b : Bool) → (m || (not t && a)) ≡ (m || (not t && b))) ⊎ ((b : Bool) → (m || (not t && b)) ≡ b)
decides true t = inl (λ a b. refl)
decides false true = inl (λ a b. refl)
decides false false = inr (λ b. refl)

abbrev Settled : Coll → List Op → Type 0
Settled c ops = ((a b : Bool) → there_after c a ops ≡ there_after c b ops) ⊎ ((b : Bool) (j : ℕ) → there_after c b (take j ops) ≡ b)

still_none : (c : Coll) (b : Bool) (j : ℕ) → there_after c b (take j []) ≡ b
still_none c b zero = refl
still_none c b (suc j) = refl

settled : (c : Coll) (ops : List Op) → Settled c ops
settled c [] = inr (still_none c)
settled c (op ∷ ops) = by (decides (makes c op) (takes c op)) (settled c ops)
  where
    by : ((a b : Bool) → there_by c op a ≡ there_by c op b) ⊎ ((b : Bool) → there_by c op b ≡ b) → Settled c ops → Settled c (op ∷ ops)
    by (inl forgets) rest = inl (λ a b. ap (λ (d : Bool). there_after c d ops) (forgets a b))
    by (inr keeps) (inl forgets) = inl (λ a b. forgets (there_by c op a) (there_by c op b))
    by (inr keeps) (inr still) = inr at
      where
        at : (b : Bool) (j : ℕ) → there_after c b (take j (op ∷ ops)) ≡ b
        at b zero = refl
        at b (suc j) = still (there_by c op b) j ∙ keeps b

-- a line from two beginnings: where the collection is alike at some moments, it is at the end
pub same_end : (O P : Objects) (ops : List Op) (c : Coll) (i j : ℕ) → fin.contains_key (after_ops O ops i) c ≡ fin.contains_key (after_ops P ops j) c
    → fin.contains_key (fold_ops O ops) c ≡ fin.contains_key (fold_ops P ops) c
same_end O P ops c i j same = by (settled c ops)
  where
    by : Settled c ops → fin.contains_key (fold_ops O ops) c ≡ fin.contains_key (fold_ops P ops) c
    by (inl forgets) = fold_there O ops c ∙ forgets (fin.contains_key O c) (fin.contains_key P c) ∙ sym (fold_there P ops c)
    by (inr still) = fold_there O ops c ∙ whole (fin.contains_key O c) ∙ sym (first O i) ∙ same ∙ first P j ∙ sym (whole (fin.contains_key P c)) ∙ sym (fold_there P ops c)
      where
        whole : (b : Bool) → there_after c b ops ≡ b
        whole b = ap (λ (l : List Op). there_after c b l) (sym (take-length ops)) ∙ still b (length ops)

        first : (Q : Objects) (n : ℕ) → fin.contains_key (after_ops Q ops n) c ≡ fin.contains_key Q c
        first Q n = fold_there Q (take n ops) c ∙ still (fin.contains_key Q c) n

pub some_same : (a b : Op) → Some a ≡ Some b → a ≡ b
some_same a b e = cc

pub none_or : (op : Op) → None ≡ Some op → ⊥
none_or op e = cc

-- one operation more
pub one_more : (O : Objects) (ops : List Op) (k : ℕ) (op : Op) → slice_get ops k ≡ Some op → after_ops O ops (suc k) ≡ row (after_ops O ops k) op
one_more O [] k op is = absurd (none_or op is)
one_more O (first ∷ ops) zero op is = ap (row O) (some_same first op is)
one_more O (first ∷ ops) (suc k) op is = one_more (row O first) ops k op is

pub next_there : (O : Objects) (ops : List Op) (k : ℕ) (op : Op) (c : Coll) → slice_get ops k ≡ Some op → fin.contains_key (after_ops O ops (suc k)) c ≡ there_by c op (fin.contains_key (after_ops O ops k) c)
next_there O ops k op c is = ap (λ (P : Objects). fin.contains_key P c) (one_more O ops k op is) ∙ row_there (after_ops O ops k) op c

-- it leaves the collection as it is
pub stays_by : (c : Coll) (op : Op) (b : Bool) → makes c op ≡ false → takes c op ≡ false → there_by c op b ≡ b
stays_by c op b no_make no_take = ap (λ (m : Bool). m || (not (takes c op) && b)) no_make ∙ ap (λ (t : Bool). not t && b) no_take

pub made_by : (c : Coll) (op : Op) (b : Bool) → makes c op ≡ true → there_by c op b ≡ true
made_by c op b is = ap (λ (m : Bool). m || (not (takes c op) && b)) is

-- none makes a collection and takes it away
pub not_both : (c : Coll) (op : Op) → takes c op ≡ true → makes c op ≡ false
not_both c (MkColl d) is = cc
not_both c op is = refl

pub taken_by : (c : Coll) (op : Op) (b : Bool) → takes c op ≡ true → there_by c op b ≡ false
taken_by c op b is = ap (λ (m : Bool). m || (not (takes c op) && b)) (not_both c op is) ∙ ap (λ (t : Bool). not t && b) is
