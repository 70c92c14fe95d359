-- A list that is cut at the first element that passes a test.
use Rattle.std.proofs.Common.{◌≡◌, ℕ, ◌+◌, ◌-◌, ◌<◌, ◌≤◌, Bool, true, false, cond, ltb, List, [], ◌∷◌, length, take, drop, refl, sym, ◌∙◌, ap, arith}
use Rattle.std.specs.Prelude.{Option, None, Some}
use Rattle.std.specs.List.{slice_split, onto_first, position, position_or_len}
use Rattle.std.proofs.lemmas.List.Splits.{slice_split_none, slice_split_first}
use Rattle.std.proofs.lemmas.List.Sums.{fails_before_first, position_or_len_is}
use Rattle.std.specs.Borrow.{Bor}
use Rattle.memchr.specs.Find.{IsFirstByte}
use Rattle.std.proofs.lemmas.Grind.{common_steps}
use Rattle.std.proofs.lemmas.Bool.Decides.{nat_tests}

not-found : (i n : ℕ) → cond (ltb i n) (Some i) None ≡ None → n ≤ i
not-found i n e = grind (arith, nat_tests)

found-at : (i j n : ℕ) → cond (ltb i n) (Some i) None ≡ Some j → (i ≡ j) × (i < n)
found-at i j n e = (grind (arith, nat_tests), grind (arith, nat_tests))

pub split-none : (p : ℕ → Bool) (xs : List ℕ) → position p xs ≡ None → slice_split p xs ≡ xs ∷ []
split-none p xs e =
    let far : length xs ≤ position_or_len p xs = not-found (position_or_len p xs) (length xs) e in
    slice_split_none p xs (λ k d lt. fails_before_first p xs k d (omega arith))

pub split-some : (p : ℕ → Bool) (xs : List ℕ) (i : ℕ) → position p xs ≡ Some i → slice_split p xs ≡ take i xs ∷ slice_split p (drop (i + 1) xs)
split-some p xs i e =
    let at = found-at (position_or_len p xs) i (length xs) e in
    slice_split_first p xs 0 at.1 ∙ ap (λ (k : ℕ). take k xs ∷ slice_split p (drop (k + 1) xs)) at.0

pub within : (p : ℕ → Bool) (xs : List ℕ) (i : ℕ) → position p xs ≡ Some i → i < length xs
within p xs i e = let at = found-at (position_or_len p xs) i (length xs) e in omega (arith, at.0, at.1)

some-if : (i n : ℕ) → i < n → cond (ltb i n) (Some i) None ≡ Some i
some-if i n lt = grind (arith, nat_tests)

none-if : (i n : ℕ) → n ≤ i → cond (ltb i n) (Some i) None ≡ None
none-if i n le = grind (arith, nat_tests)

not-true : (b : Bool) → ¬ (b ≡ true) → b ≡ false
not-true true h = absurd (h refl)
not-true false h = refl

-- the first byte that passes, by its place
pub first-position : (p : ℕ → Bool) (xs : List ℕ) (r : Option ℕ) → IsFirstByte p xs r → r ≡ position p xs
first-position p xs None h =
    let at : position_or_len p xs ≡ length xs =
    position_or_len_is p xs (length xs) 0 (omega arith) (λ k lt. not-true _ (h k (omega arith) lt)) (λ lt. absurd (omega (arith, lt))) in
    sym (ap (λ (i : ℕ). cond (ltb i (length xs)) (Some i) None) at ∙ none-if (length xs) (length xs) (omega arith))
first-position p xs (Some k) h =
    let below = h.0.high in
    let at : position_or_len p xs ≡ k =
    position_or_len_is p xs k 0 (omega (arith, below)) (λ j lt. not-true _ (h.0.before j (omega arith) lt)) (λ _. h.1) in
    sym (ap (λ (i : ℕ). cond (ltb i (length xs)) (Some i) None) at ∙ some-if k (length xs) below)

take-rest : (xs : List ℕ) (n : ℕ) → take (length xs - n) (drop n xs) ≡ drop n xs
take-rest xs n = grind (arith, common_steps)

pub split-at : (p : ℕ → Bool) (xs : List ℕ) (i : ℕ) → position p xs ≡ Some i
    → slice_split p xs ≡ take i xs ∷ slice_split p (take (length xs - (i + 1)) (drop (i + 1) xs))
split-at p xs i e = split-some p xs i e ∙ ap (λ (r : List ℕ). take i xs ∷ slice_split p r) (sym (take-rest xs (i + 1)))

onto-first : (b : ℕ) (parts : List (List ℕ)) (C : List (List ℕ) → Type 0) → ((a : List ℕ) (more : List (List ℕ)) → C (a ∷ more)) → C (onto_first b parts)
onto-first b [] C h = h _ _
onto-first b (part ∷ parts) C h = h _ _

choice : (t : Bool) (x y : List (List ℕ)) (C : List (List ℕ) → Type 0) → C x → C y → C (cond t x y)
choice true x y C h k = h
choice false x y C h k = k

-- there is always a piece
pub some-piece : (p : ℕ → Bool) (xs : List ℕ) (C : List (List ℕ) → Type 0) → ((a : List ℕ) (more : List (List ℕ)) → C (a ∷ more)) → C (slice_split p xs)
some-piece p [] C h = h _ _
some-piece p (x ∷ xs) C h = choice (p x) _ _ C (h _ _) (onto-first x (slice_split p xs) C h)

-- the bytes that are left, and one more where there is a line
abbrev pub left_of : Option (Bor (List ℕ)) → ℕ
left_of None = 0
left_of (Some rest) = length rest.now + 1
