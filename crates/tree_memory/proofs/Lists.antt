-- Lists, place by place.
use Rattle.std.proofs.Common.{◌≡◌, ℕ, zero, suc, ◌+◌, ◌≤◌, List, [], ◌∷◌, ◌++◌, length, take, drop, map, Some, refl, ap, subst, arith}
use Rattle.std.specs.List.{slice_get, All}

get_next : {X : Type 0} (xs : List X) (i : ℕ) (s : X) → slice_get xs i ≡ Some s → take (suc i) xs ≡ take i xs ++ s ∷ []
get_next [] i s e = cc
get_next (x ∷ xs) zero s e = let p : x ≡ s = cc in ap (λ y. y ∷ []) p
get_next (x ∷ xs) (suc i) s e = ap (λ l. x ∷ l) (get_next xs i s e)

pub take_get : {X : Type 0} (xs : List X) (i : ℕ) (s : X) → slice_get xs i ≡ Some s → take (i + 1) xs ≡ take i xs ++ s ∷ []
take_get xs i s e = let next : suc i ≡ i + 1 = omega arith in subst (λ (j : ℕ). take j xs ≡ take i xs ++ s ∷ []) next (get_next xs i s e)

drop_next : {X : Type 0} (xs : List X) (i : ℕ) (s : X) → slice_get xs i ≡ Some s → drop i xs ≡ s ∷ drop (suc i) xs
drop_next [] i s e = cc
drop_next (x ∷ xs) zero s e = let p : x ≡ s = cc in ap (λ y. y ∷ xs) p
drop_next (x ∷ xs) (suc i) s e = drop_next xs i s e

pub drop_get : {X : Type 0} (xs : List X) (i : ℕ) (s : X) → slice_get xs i ≡ Some s → drop i xs ≡ s ∷ drop (i + 1) xs
drop_get xs i s e = let next : suc i ≡ i + 1 = omega arith in subst (λ (j : ℕ). drop i xs ≡ s ∷ drop j xs) next (drop_next xs i s e)

-- the elements from a place on
pub drop_push : {X : Type 0} (n : ℕ) (xs : List X) (x : X) → n ≤ length xs → drop n (xs ++ x ∷ []) ≡ drop n xs ++ x ∷ []
drop_push zero xs x le = refl
drop_push (suc n) [] x le = absurd (omega arith)
drop_push (suc n) (y ∷ xs) x le = drop_push n xs x (omega arith)

pub drop_take_self : {X : Type 0} (n : ℕ) (xs : List X) → drop n (take n xs) ≡ []
drop_take_self zero xs = refl
drop_take_self (suc n) [] = refl
drop_take_self (suc n) (x ∷ xs) = drop_take_self n xs

pub length_take_below : {X : Type 0} (n : ℕ) (xs : List X) → n ≤ length xs → length (take n xs) ≡ n
length_take_below zero xs le = refl
length_take_below (suc n) [] le = absurd (omega arith)
length_take_below (suc n) (x ∷ xs) le = ap suc (length_take_below n xs (omega arith))

pub map_push : {X Y : Type 0} (f : X → Y) (xs : List X) (x : X) → map f (xs ++ x ∷ []) ≡ map f xs ++ f x ∷ []
map_push f [] x = refl
map_push f (y ∷ xs) x = ap (λ l. f y ∷ l) (map_push f xs x)

-- ---- by recursion

pub all_head : {X : Type 0} (P : X → Type 0) (x : X) (xs : List X) → All P (x ∷ xs) → P x
all_head P x xs all = all 0 x (omega arith)

pub all_tail : {X : Type 0} (P : X → Type 0) (x : X) (xs : List X) → All P (x ∷ xs) → All P xs
all_tail P x xs all k d lt = all (suc k) d (omega arith)

pub all_cons : {X : Type 0} (P : X → Type 0) (x : X) (xs : List X) → P x → All P xs → All P (x ∷ xs)
all_cons P x xs here all zero d lt = here
all_cons P x xs here all (suc k) d lt = all k d (omega arith)

pub all_nil : {X : Type 0} (P : X → Type 0) → All P []
all_nil P k d lt = absurd (omega arith)
