-- Lemmas on tests, and on the conditions of a row.
use Rattle.std.proofs.Common.{◌≡◌, ◌⊎◌, inl, inr, ℕ, ◌<◌, ◌≤◌, Bool, true, false, not, ◌||◌, Option, None, Some, nat_lt, nat_le, nat_eq, refl, sym, ◌∙◌, ap, subst, arith, tests}
use Rattle.turn_core.specs.declared.turn.NotReady.{NotReady}
use Rattle.turn_core.specs.Table.{when}

abbrev IsNothing : {A : Type 0} → Option A → Type 0
IsNothing None = Unit {0}
IsNothing (Some x) = ⊥

pub some_not_none : {A : Type 0} (x : A) → Some x ≡ None → ⊥
some_not_none x is = subst IsNothing (sym is) tt

abbrev or_this : {A : Type 0} → A → Option A → A
or_this x None = x
or_this x (Some y) = y

pub some_same : {A : Type 0} (x y : A) → Some x ≡ Some y → x ≡ y
some_same x y is = ap (or_this x) is

abbrev IsFalse : Bool → Type 0
IsFalse true = ⊥
IsFalse false = Unit {0}

pub not_both : (b : Bool) → b ≡ true → b ≡ false → ⊥
not_both b one two = subst IsFalse (sym two ∙ one) tt

pub true_or_not : (b : Bool) → (b ≡ true) ⊎ (b ≡ false)
true_or_not true = inl refl
true_or_not false = inr refl

pub turned : (b : Bool) → not b ≡ false → b ≡ true
turned true is = refl
turned false is = absurd (not_both true refl is)

-- where a row has nothing missing, neither its first condition nor a later one is
pub passes : (b : Bool) (why : NotReady) (rest : Option NotReady) → when b why rest ≡ None → (b ≡ false) × (rest ≡ None)
passes true why rest is = absurd (some_not_none why is)
passes false why rest is = (refl, is)

pub both_false : (a b : Bool) → (a || b) ≡ false → (a ≡ false) × (b ≡ false)
both_false true b is = absurd (not_both true refl is)
both_false false b is = (refl, is)

pub or_false : (a b : Bool) → a ≡ false → b ≡ false → (a || b) ≡ false
or_false a b one two = ap (λ x. x || b) one ∙ two

pub equal_is : (a b : ℕ) → nat_eq a b ≡ true → a ≡ b
equal_is a b is = grind (arith, tests)

pub unequal_is : (a b : ℕ) → nat_eq a b ≡ false → a ≡ b → ⊥
unequal_is a b is same = grind (arith, tests)

pub at_most : (a b : ℕ) → nat_le a b ≡ true → a ≤ b
at_most a b is = grind (arith, tests)

pub is_below : (a b : ℕ) → nat_le a b ≡ false → b < a
is_below a b is = grind (arith, tests)

pub less_is : (a b : ℕ) → nat_lt a b ≡ true → a < b
less_is a b is = grind (arith, tests)

pub less_isnt : (a b : ℕ) → nat_lt a b ≡ false → b ≤ a
less_isnt a b is = grind (arith, tests)

pub not_above : (n : ℕ) → nat_lt 0 n ≡ false → n ≡ 0
not_above n is = grind (arith, tests)
