-- Byte order, as a comparison.
use Rattle.std.proofs.Common.{◌≡◌, inl, inr, ℕ, List, [], ◌∷◌, refl, sym, ◌∙◌, ap}
use Rattle.std.specs.declared.cmp.Ordering.{Ordering}
use Rattle.std.specs.declared.cmp.Ordering.TheVariants.{Less, Equal}
use Rattle.std.specs.List.{AllByRecursion}
use Rattle.std.specs.List.Sorted.{IsStrictlySortedBy}
use Rattle.std.specs.Ordering.{nat_cmp, ordering_then}
use Rattle.std.specs.Cmp.{nat_cmp_is}
use Rattle.std.specs.Cmp.Lexicographic.{slice_cmp}
use Rattle.tree_api.specs.Answer.{Before, RisingSteps}
use Rattle.lfn_index.proofs.Seen.{before_joins}

pub before_less : (xs ys : List ℕ) → Before xs ys → slice_cmp nat_cmp xs ys ≡ Less
before_less xs [] b = absurd b
before_less [] (y ∷ ys) b = refl
before_less (x ∷ xs) (y ∷ ys) (inl lt) = ap (λ (o : Ordering). ordering_then o (slice_cmp nat_cmp xs ys)) (sym (nat_cmp_is x y Less lt))
before_less (x ∷ xs) (y ∷ ys) (inr same) =
    ap (λ (o : Ordering). ordering_then o (slice_cmp nat_cmp xs ys)) (sym (nat_cmp_is x y Equal same.0)) ∙ before_less xs ys same.1

-- each is after x
abbrev pub AllAfter : List ℕ → List (List ℕ) → Type 0
AllAfter x [] = Unit {0}
AllAfter x (y ∷ ys) = Before x y × AllAfter x ys

after_later : (x y : List ℕ) (ys : List (List ℕ)) → Before x y → AllAfter y ys → AllAfter x ys
after_later x y [] lt after = tt
after_later x y (z ∷ zs) lt after = (before_joins x y z lt after.0, after_later x y zs lt after.1)

pub rising_rest : (x : List ℕ) (ys : List (List ℕ)) → RisingSteps (x ∷ ys) → RisingSteps ys
rising_rest x [] rising = tt
rising_rest x (y ∷ ys) rising = rising.1

pub rising_after : (x : List ℕ) (ys : List (List ℕ)) → RisingSteps (x ∷ ys) → AllAfter x ys
rising_after x [] rising = tt
rising_after x (y ∷ ys) rising = (rising.0, after_later x y ys rising.0 (rising_after y ys rising.1))

all_less : (x : List ℕ) (ys : List (List ℕ)) → AllAfter x ys → AllByRecursion (λ y. slice_cmp nat_cmp x y ≡ Less) ys
all_less x [] after = tt
all_less x (y ∷ ys) after = (before_less x y after.0, all_less x ys after.1)

pub sorted_steps : (xs : List (List ℕ)) → RisingSteps xs → IsStrictlySortedBy (slice_cmp nat_cmp) xs
unfolding IsStrictlySortedBy
sorted_steps [] rising = tt
sorted_steps (x ∷ xs) rising = (all_less x xs (rising_after x xs rising), sorted_steps xs (rising_rest x xs rising))
