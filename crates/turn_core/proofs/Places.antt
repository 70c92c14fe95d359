-- Lemmas on the slots and their groups.
use Rattle.std.proofs.Common.{◌≡◌, ◌≢◌, ◌⊎◌, inl, inr, ℕ, zero, suc, ◌+◌, ◌<◌, ◌≤◌, Bool, true, false, cond, not, ◌||◌, ◌&&◌, List, [], ◌∷◌, length, replicate, get_or, set, Option, None, Some, nat_lt, nat_eq, refl, sym, ◌∙◌, ap, subst, arith, tests}
use Rattle.std.specs.Prelude.{position}
use Rattle.std.specs.List.{position_or_len}
use Rattle.std.proofs.lemmas.List.{get_or-set_same, get_or-set_other}
use Rattle.std.proofs.lemmas.List.Sums.{fails_before_first, sum_by-cons}
use Rattle.fs_names.specs.declared.coll.GroupId.{GroupId}
use Rattle.fs_names.specs.declared.coll.GroupId.TheVariants.{Meta, Pg}
use Rattle.turn_core.specs.declared.slots.Slot.{Slot}
use Rattle.turn_core.specs.Groups.{same, among, meet}
use Rattle.turn_core.specs.Slots.{is_free, meets_slot, taken, advanced, Holding}
use Rattle.turn_core.specs.Table.{conflict}
use Rattle.turn_core.proofs.Rows.{some_not_none, some_same, not_both, true_or_not, both_false, or_false, equal_is, less_is}

which_way : (i j : ℕ) → (j ≡ i) ⊎ (j ≢ i)
which_way i j = by (three i j)
  where
    three : (i j : ℕ) → (j ≡ i) ⊎ ((j < i) ⊎ (i < j))
    three i j = grind arith

    by : (j ≡ i) ⊎ ((j < i) ⊎ (i < j)) → (j ≡ i) ⊎ (j ≢ i)
    by (inl is) = inl is
    by (inr (inl lt)) = inr (λ is. absurd (omega arith))
    by (inr (inr lt)) = inr (λ is. absurd (omega arith))

-- what a place holds after a write: what was written, or what it held
abbrev pub Now : List (Option Slot) → ℕ → Option Slot → ℕ → Slot → Type 0
Now slots i v j slot = ((j ≡ i) × (v ≡ Some slot)) ⊎ ((j ≢ i) × Holding slots j slot)

pub set_cases : (slots : List (Option Slot)) (i j : ℕ) (v : Option Slot) (t : Slot) → i < length slots → Holding (set slots i v) j t → Now slots i v j t
set_cases slots i j v t lt held = by (which_way i j)
  where
    by : (j ≡ i) ⊎ (j ≢ i) → Now slots i v j t
    by (inl is) = inl (is, sym (get_or-set_same slots i v None lt) ∙ ap (λ k. get_or (set slots i v) k None) (sym is) ∙ held)
    by (inr other) = inr (other, sym (get_or-set_other slots i j v None other) ∙ held)

pub held_below : (slots : List (Option Slot)) (j : ℕ) (t : Slot) → Holding slots j t → j < length slots
held_below [] j t is = absurd (some_not_none t (sym is))
held_below (v ∷ slots) zero t is = omega arith
held_below (v ∷ slots) (suc j) t is =
    let rest : j < length slots = held_below slots j t is in
    omega arith

one_not_none : (a b : ℕ) → a ≡ 1 → a + b ≡ 0 → ⊥
one_not_none a b one none = absurd (omega arith)

pub none_taken : (slots : List (Option Slot)) → taken slots ≡ 0 → (j : ℕ) (t : Slot) → Holding slots j t → ⊥
none_taken [] none j t is = some_not_none t (sym is)
none_taken (v ∷ slots) none zero t is =
    absurd (one_not_none (cond (not (is_free v)) 1 0) (taken slots) (ap (λ o. cond (not (is_free o)) 1 0) is) (sym (sum_by-cons (λ o. cond (not (is_free o)) 1 0) v slots) ∙ none))
none_taken (v ∷ slots) none (suc j) t is = none_taken slots (omega (arith, sum_by-cons (λ o. cond (not (is_free o)) 1 0) v slots, none)) j t is

-- an empty row of slots holds nothing
pub all_free : (i : ℕ) (slot : Slot) → Holding (replicate 8 None) i slot → ⊥
all_free i slot is = some_not_none slot (sym is ∙ free 8 i)
  where
    free : (n i : ℕ) → get_or (replicate n (let none : Option Slot = None in none)) i None ≡ None
    free zero i = refl
    free (suc n) zero = refl
    free (suc n) (suc i) = free n i

same_back : (g h : GroupId) → same g h ≡ false → same h g ≡ false
same_back g h is = grind (arith, is)

meet_none : (groups : List GroupId) → meet groups [] ≡ false
meet_none [] = refl
meet_none (g ∷ groups) = meet_none groups

meet_more : (g : GroupId) (groups front : List GroupId) → among front g ≡ false → meet front groups ≡ false → meet front (g ∷ groups) ≡ false
meet_more g groups [] one two = refl
meet_more g groups (f ∷ front) one two =
    let here = both_false (same g f) (among front g) one in
    let rest = both_false (among groups f) (meet front groups) two in
    or_false (same f g || among groups f) (meet front (g ∷ groups)) (or_false (same f g) (among groups f) (same_back g f here.0) rest.0) (meet_more g groups front here.1 rest.1)

-- no conflict either way round
pub meet_back : (front groups : List GroupId) → meet front groups ≡ false → meet groups front ≡ false
meet_back [] groups is = meet_none groups
meet_back (f ∷ front) groups is =
    let two = both_false (among groups f) (meet front groups) is in
    meet_more f front groups two.0 (meet_back front groups two.1)

pub same_is : (g h : GroupId) → same g h ≡ true → g ≡ h
same_is Meta Meta is = refl
same_is Meta (Pg pool seed) is = absurd (not_both false is refl)
same_is (Pg pool seed) Meta is = absurd (not_both false is refl)
same_is (Pg pool seed) (Pg pool2 seed2) is = by (nat_eq pool pool2) (nat_eq seed seed2) refl refl is
  where
    by : (a b : Bool) → nat_eq pool pool2 ≡ a → nat_eq seed seed2 ≡ b → (a && b) ≡ true → Pg pool seed ≡ Pg pool2 seed2
    by true true one two both =
        let p : pool ≡ pool2 = equal_is pool pool2 one in
        let q : seed ≡ seed2 = equal_is seed seed2 two in
        ap (λ x. Pg x seed) p ∙ ap (Pg pool2) q
    by true false one two both = absurd (not_both false both refl)
    by false b one two both = absurd (not_both false both refl)

-- where groups don't meet, no group stands in both
pub apart_groups : (front held : List GroupId) → meet front held ≡ false → (g : GroupId) → (among front g ≡ false) ⊎ (among held g ≡ false)
apart_groups [] held none g = inl refl
apart_groups (f ∷ front) held none g =
    let two = both_false (among held f) (meet front held) none in
    by (true_or_not (same g f)) two.0 (apart_groups front held two.1 g)
  where
    by : (same g f ≡ true) ⊎ (same g f ≡ false) → among held f ≡ false → (among front g ≡ false) ⊎ (among held g ≡ false) → (among (f ∷ front) g ≡ false) ⊎ (among held g ≡ false)
    by (inl is) free rest = inr (ap (among held) (same_is g f is) ∙ free)
    by (inr isnt) free (inl out) = inl (or_false (same g f) (among front g) isnt out)
    by (inr isnt) free (inr out) = inr out

no_first : (n m : ℕ) → cond (nat_lt n m) (Some n) None ≡ None → m ≤ n
no_first n m is = by (nat_lt n m) refl
  where
    by : (b : Bool) → nat_lt n m ≡ b → m ≤ n
    by true lt = absurd (some_not_none n (ap (λ b. cond b (Some n) None) (sym lt) ∙ is))
    by false ge = grind (arith, tests)

-- where no place passes a test, none that is held does
pub none_passes : (p : Option Slot → Bool) (slots : List (Option Slot)) → position p slots ≡ None → (j : ℕ) → j < length slots → p (get_or slots j None) ≡ false
none_passes p slots is j lt =
    let past : length slots ≤ position_or_len p slots = no_first _ _ is in
    fails_before_first p slots j None (omega arith)

pub no_conflict : (front : List GroupId) (slots : List (Option Slot)) (o : Option ℕ) → position (meets_slot front) slots ≡ o → conflict o ≡ None → (j : ℕ) (t : Slot) → Holding slots j t → meet front t.groups ≡ false
no_conflict front slots (Some i) is none j t holding = absurd (some_not_none _ none)
no_conflict front slots None is none j t holding = sym (ap (meets_slot front) holding) ∙ none_passes (meets_slot front) slots is j (held_below slots j t holding)

-- a transaction that goes on has its number and groups, and an operation left
pub advance_same : (slot t : Slot) → advanced (Some slot) ≡ Some t → (slot.seq ≡ t.seq) × (slot.groups ≡ t.groups) × (t.next < t.ops)
advance_same slot t is = by (nat_lt (slot.next + 1) slot.ops) refl
  where
    by : (b : Bool) → nat_lt (slot.next + 1) slot.ops ≡ b → (slot.seq ≡ t.seq) × (slot.groups ≡ t.groups) × (t.next < t.ops)
    by false full = absurd (some_not_none t (sym is ∙ ap (λ b. cond b (Some (record slot { next = slot.next + 1 })) None) full))
    by true more = subst (λ v. (slot.seq ≡ v.seq) × (slot.groups ≡ v.groups) × (v.next < v.ops)) (some_same (record slot { next = slot.next + 1 }) t (ap (λ b. cond b (Some (record slot { next = slot.next + 1 })) None) (sym more) ∙ is)) (refl, refl, less_is (slot.next + 1) slot.ops more)

pub set_twice : {A : Type 0} (l : List A) (i : ℕ) (a b : A) → set (set l i a) i b ≡ set l i b
set_twice [] i a b = refl
set_twice (x ∷ l) zero a b = refl
set_twice (x ∷ l) (suc i) a b = ap (λ rest. x ∷ rest) (set_twice l i a b)

pub any_default : {A : Type 0} (l : List A) (i : ℕ) (d e : A) → i < length l → get_or l i d ≡ get_or l i e
any_default [] i d e lt = absurd (omega arith)
any_default (x ∷ l) zero d e lt = refl
any_default (x ∷ l) (suc i) d e lt = any_default l i d e (omega arith)

-- a slot that was taken out, advanced and put back
pub advance_row : (l m : List (Option Slot)) (i : ℕ) (result slot was : Option Slot) → l ≡ m → i < length m → result ≡ advanced slot → slot ≡ was → was ≡ get_or l i was → set l i result ≡ set m i (advanced (get_or m i None))
advance_row l m i result slot was same lt result_is slot_is was_is =
    ap (λ k. set k i result) same ∙ ap (set m i) (result_is ∙ ap advanced (slot_is ∙ was_is ∙ ap (λ k. get_or k i was) same ∙ any_default m i was None lt))
