-- Lists that are cut at a byte.
use Rattle.std.proofs.Common.{◌≡◌, ℕ, suc, ◌+◌, ◌<◌, ◌≤◌, Bool, true, false, not, cond, ltb, List, [], ◌∷◌, length, position, Some, None, refl, ap, ◌∙◌, arith}
use Rattle.std.proofs.lemmas.Bool.{ltb-true, ltb-false}
use Rattle.std.proofs.lemmas.List.{take_all, drop_all}
use Rattle.std.specs.List.{position_or_len, before_first, after_first, slice_split, onto_first}

pub position_or_len_le : (p : ℕ → Bool) (xs : List ℕ) → position_or_len p xs ≤ length xs
position_or_len_le p [] = omega arith
position_or_len_le p (x ∷ xs) = by (not (p x)) (position_or_len_le p xs)
  where
    by : (b : Bool) → position_or_len p xs ≤ length xs → cond b (1 + position_or_len p xs) 0 ≤ suc (length xs)
    by true h = omega arith
    by false h = omega arith

place_cases : (b : Bool) (n at : ℕ) → cond b (Some n) None ≡ Some at → (b ≡ true) × (n ≡ at)
place_cases true n at e = (refl, cc)
place_cases false n at e = cc

none_cases : (b : Bool) (n : ℕ) → cond b (Some n) None ≡ None → b ≡ false
none_cases true n e = cc
none_cases false n e = refl

pub place_of_some : (p : ℕ → Bool) (xs : List ℕ) (at : ℕ) → position p xs ≡ Some at → (position_or_len p xs ≡ at) × (position_or_len p xs < length xs)
place_of_some p xs at e =
    let q = place_cases (ltb (position_or_len p xs) (length xs)) (position_or_len p xs) at e in
    (q.1, ltb-true _ _ q.0)

pub place_of_none : (p : ℕ → Bool) (xs : List ℕ) → position p xs ≡ None → position_or_len p xs ≡ length xs
place_of_none p xs e =
    let q = none_cases (ltb (position_or_len p xs) (length xs)) (position_or_len p xs) e in
    omega (arith, ltb-false _ _ q, position_or_len_le p xs)

-- a list without the byte
pub before_none : (p : ℕ → Bool) (xs : List ℕ) → position_or_len p xs ≡ length xs → before_first p xs ≡ xs
before_none p xs e = take_all _ xs (omega arith)

pub after_none : (p : ℕ → Bool) (xs : List ℕ) → position_or_len p xs ≡ length xs → after_first p xs ≡ []
after_none p xs e = drop_all _ xs (omega arith)

pub split_none : (p : ℕ → Bool) (xs : List ℕ) → position_or_len p xs ≡ length xs → slice_split p xs ≡ xs ∷ []
split_none p [] e = refl
split_none p (x ∷ xs) e = by (p x) refl (split_none p xs)
  where
    by : (b : Bool) → p x ≡ b → (position_or_len p xs ≡ length xs → slice_split p xs ≡ xs ∷ []) → slice_split p (x ∷ xs) ≡ (x ∷ xs) ∷ []
    by true is more = absurd (let none : position_or_len p (x ∷ xs) ≡ 0 = ap (λ b. cond (not b) (1 + position_or_len p xs) 0) is in omega arith)
    by false is more =
        let one : position_or_len p (x ∷ xs) ≡ 1 + position_or_len p xs = ap (λ b. cond (not b) (1 + position_or_len p xs) 0) is in
        ap (λ b. cond b ([] ∷ slice_split p xs) (onto_first x (slice_split p xs))) is ∙ ap (onto_first x) (more (omega arith))
