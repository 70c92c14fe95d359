-- The last operation that takes a collection away.
use Rattle.std.proofs.Common.{◌≡◌, ◌⊎◌, inl, inr, ⊎_elim, ℕ, zero, suc, ◌-◌, ◌<◌, ◌≤◌, Bool, true, false, not, ◌&&◌, ◌||◌, List, [], ◌∷◌, ◌++◌, length, take, drop, refl, sym, ◌∙◌, ap, subst, arith, Some}
use Rattle.std.proofs.lemmas.Bool.{cases_lt}
use Rattle.std.specs.Prelude.{slice_get}
use Rattle.std.specs.FinMap as fin
use Rattle.fs_names.specs.declared.coll.Coll.{Coll}
use Rattle.fs_model.specs.declared.op.Op.{Op}
use Rattle.fs_model.specs.Objects.{Objects}
use Rattle.tree_stands.proofs.Names.{true_not_false}
use Rattle.op_places.specs.Line.{after_ops, makes, takes, there_by, one_past, gone_in}
use Rattle.op_places.proofs.Colls.{some_same, none_or, there_after, fold_there, next_there, taken_by}

pub is_place : (ops : List Op) (k : ℕ) (op : Op) → slice_get ops k ≡ Some op → k < length ops
is_place [] k op is = absurd (none_or op is)
is_place (first ∷ ops) zero op is = omega arith
is_place (first ∷ ops) (suc k) op is =
    let rest : k < length ops = is_place ops k op is in
    omega arith

-- where it stands in the list
first_or_past : (m r : ℕ) (first : Bool) → one_past m first ≡ suc r → ((m ≡ 0) × (r ≡ 0) × (first ≡ true)) ⊎ ((n : ℕ) × (m ≡ suc n) × (r ≡ suc n))
first_or_past zero r true is = inl (refl, omega (arith, is), refl)
first_or_past zero r false is = absurd (omega (arith, is))
first_or_past (suc n) r first is = inr (n, refl, omega (arith, is))

pub gone_at : (c : Coll) (ops : List Op) (r : ℕ) → gone_in c ops ≡ suc r → (op : Op) × (slice_get ops r ≡ Some op) × (takes c op ≡ true)
gone_at c [] r is = absurd (omega (arith, is))
gone_at c (first ∷ ops) r is = ⊎_elim
    (λ (none, here, taken). (first, ap (λ (i : ℕ). slice_get (first ∷ ops) i) here, taken))
    (λ (n, later, place). let found = gone_at c ops n later in (found.0, ap (λ (i : ℕ). slice_get (first ∷ ops) i) place ∙ found.1, found.2))
    (first_or_past (gone_in c ops) r (takes c first) is)

past_most : (m : ℕ) (first : Bool) (k : ℕ) → one_past m first ≤ suc k → m ≤ k
past_most zero first k le = omega arith
past_most (suc n) first k le = omega (arith, le)

past_none : (m : ℕ) (first : Bool) → one_past m first ≤ 0 → (m ≡ 0) × (first ≡ false)
past_none zero true le = absurd (omega (arith, le))
past_none zero false le = (refl, refl)
past_none (suc n) first le = absurd (omega (arith, le))

pub none_later : (c : Coll) (ops : List Op) (k : ℕ) (op : Op) → gone_in c ops ≤ k → slice_get ops k ≡ Some op → takes c op ≡ false
none_later c [] k op le is = absurd (none_or op is)
none_later c (first ∷ ops) zero op le is = subst (λ (o : Op). takes c o ≡ false) (some_same first op is) (past_none (gone_in c ops) (takes c first) le).1
none_later c (first ∷ ops) (suc k) op le is = none_later c ops k op (past_most (gone_in c ops) (takes c first) k le) is

-- an operation that takes the collection away comes no later
pub gone_past : (c : Coll) (ops : List Op) (k : ℕ) (op : Op) → slice_get ops k ≡ Some op → takes c op ≡ true → k < gone_in c ops
gone_past c ops k op is taken = ⊎_elim (λ lt. lt) (λ le. absurd (true_not_false (takes c op) taken (none_later c ops k op le is))) (cases_lt k (gone_in c ops))

past_length : (m n : ℕ) (first : Bool) → m ≤ n → one_past m first ≤ suc n
past_length zero n true le = omega arith
past_length zero n false le = omega arith
past_length (suc m) n first le = omega (arith, le)

pub gone_le : (c : Coll) (ops : List Op) → gone_in c ops ≤ length ops
gone_le c [] = omega arith
gone_le c (op ∷ ops) = past_length (gone_in c ops) (length ops) (takes c op) (gone_le c ops)

one_less : (m d : ℕ) (first : Bool) → one_past m first - suc d ≡ m - d
one_less zero d true = omega arith
one_less zero d false = omega arith
one_less (suc m) d first = omega arith

pub gone_drop : (c : Coll) (d : ℕ) (ops : List Op) → gone_in c (drop d ops) ≡ gone_in c ops - d
gone_drop c zero ops = omega arith
gone_drop c (suc d) [] = omega arith
gone_drop c (suc d) (op ∷ ops) = gone_drop c d ops ∙ sym (one_less (gone_in c ops) d (takes c op))

past_more : (m n : ℕ) (first : Bool) → n < m → suc n < one_past m first
past_more zero n first lt = absurd (omega (arith, lt))
past_more (suc m) n first lt = omega (arith, lt)

-- where more operations come
pub gone_more : (c : Coll) (ops rest : List Op) → (gone_in c (ops ++ rest) ≡ gone_in c ops) ⊎ (length ops < gone_in c (ops ++ rest))
gone_more c [] rest = by (gone_in c rest) refl
  where
    by : (m : ℕ) → gone_in c rest ≡ m → (gone_in c rest ≡ 0) ⊎ (0 < gone_in c rest)
    by zero is = inl is
    by (suc m) is = inr (omega (arith, is))
gone_more c (op ∷ ops) rest = ⊎_elim
    (λ same. inl (ap (λ (m : ℕ). one_past m (takes c op)) same))
    (λ lt. inr (past_more (gone_in c (ops ++ rest)) (length ops) (takes c op) lt))
    (gone_more c ops rest)

-- a collection that is there stays there where no operation to come takes it away
stays_made : (m t : Bool) → t ≡ false → (m || (not t && true)) ≡ true
stays_made true t is = refl
stays_made false true is = cc
stays_made false false is = refl

keeps_there : (c : Coll) (ops : List Op) (k j : ℕ) (b : Bool) → k ≤ j → gone_in c ops ≤ k → there_after c b (take k ops) ≡ true → there_after c b (take j ops) ≡ true
keeps_there c [] zero zero b le last is = is
keeps_there c [] zero (suc j) b le last is = is
keeps_there c [] (suc k) zero b le last is = is
keeps_there c [] (suc k) (suc j) b le last is = is
keeps_there c (op ∷ ops) zero zero b le last is = is
keeps_there c (op ∷ ops) zero (suc j) b le last is =
    let none = past_none (gone_in c ops) (takes c op) last in
    keeps_there c ops zero j (there_by c op b) (omega arith) (omega (arith, none.0))
    (ap (there_by c op) is ∙ stays_made (makes c op) (takes c op) none.1)
keeps_there c (op ∷ ops) (suc k) zero b le last is = absurd (omega (arith, le))
keeps_there c (op ∷ ops) (suc k) (suc j) b le last is = keeps_there c ops k j (there_by c op b) (omega (arith, le)) (past_most (gone_in c ops) (takes c op) k last) is

-- one that was there, and later isn't, was taken away between
pub taken_since : (O : Objects) (c : Coll) (ops : List Op) (k j : ℕ) → k ≤ j → fin.contains_key (after_ops O ops k) c ≡ true → fin.contains_key (after_ops O ops j) c ≡ false
    → k < gone_in c ops
taken_since O c ops k j le was isnt = ⊎_elim
    (λ lt. lt)
    (λ last. absurd (true_not_false (there_after c (fin.contains_key O c) (take j ops))
    (keeps_there c ops k j (fin.contains_key O c) le last (sym (fold_there O (take k ops) c) ∙ was))
    (sym (fold_there O (take j ops) c) ∙ isnt)))
    (cases_lt k (gone_in c ops))

-- it isn't there just after its last removal
pub gone_then : (O : Objects) (c : Coll) (ops : List Op) (r : ℕ) → gone_in c ops ≡ suc r → fin.contains_key (after_ops O ops (suc r)) c ≡ false
gone_then O c ops r is =
    let found = gone_at c ops r is in
    next_there O ops r found.0 c found.1 ∙ taken_by c found.0 (fin.contains_key (after_ops O ops r) c) found.2
