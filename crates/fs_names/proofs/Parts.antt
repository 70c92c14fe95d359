-- A comparison of names, part by part.
use Rattle.std.proofs.Common.{◌≡◌, ℕ, Bool, true, false, List, [], ◌∷◌, ◌++◌, ◌≢◌, arith, refl, sym, ap, ◌∙◌}
use Rattle.std.proofs.lemmas.Bool.Decides.{nat_tests}
use Rattle.std.specs.declared.cmp.Ordering.{Ordering}
use Rattle.std.specs.declared.cmp.Ordering.TheVariants.{Less, Equal, Greater}
use Rattle.std.specs.Ordering.{nat_cmp, bool_cmp, ordering_then}
use Rattle.std.specs.Cmp.Lexicographic.{slice_cmp}
use Rattle.fs_names.specs.declared.coll.Coll.TheVariants.{Pg}
use Rattle.fs_names.specs.Text.{digit_at, hash_digits}
use Rattle.fs_names.specs.Order.{coll_field_cmp, temp_key}

then_Equal : (r : Ordering) → ordering_then r Equal ≡ r
then_Equal Less = refl
then_Equal Equal = refl
then_Equal Greater = refl

pub then_assoc : (a b c : Ordering) → ordering_then a (ordering_then b c) ≡ ordering_then (ordering_then a b) c
then_assoc Less b c = refl
then_assoc Equal b c = refl
then_assoc Greater b c = refl

temp_cmp : (s t : Bool) → nat_cmp (temp_key s) (temp_key t) ≡ bool_cmp s t
temp_cmp true true = refl
temp_cmp true false = refl
temp_cmp false true = refl
temp_cmp false false = refl

pub coll_cmp_pg : (p s q z : ℕ) (t u : Bool)
    → coll_field_cmp (Pg p s t) (Pg q z u) ≡ ordering_then (ordering_then (nat_cmp p q) (nat_cmp s z)) (bool_cmp t u)
unfolding coll_field_cmp
coll_cmp_pg p s q z t u = simp (then_Equal, temp_cmp, then_assoc)

abbrev digit_cmp : ℕ → ℕ → ℕ → Ordering
digit_cmp a b level = nat_cmp (digit_at a level) (digit_at b level)

pub hash_parts : (a b : ℕ)
    → slice_cmp nat_cmp (hash_digits a) (hash_digits b)
    ≡ ordering_then (ordering_then (ordering_then (ordering_then (ordering_then (ordering_then (ordering_then (digit_cmp a b 0) (digit_cmp a b 1)) (digit_cmp a b 2)) (digit_cmp a b 3))
    (digit_cmp a b 4)) (digit_cmp a b 5)) (digit_cmp a b 6)) (digit_cmp a b 7)
hash_parts a b = simp (then_Equal, then_assoc)

-- Two pieces, each ended by a byte that neither holds, compare first: the rest counts only where they are equal.
abbrev pub Lacks : ℕ → List ℕ → Type 0
Lacks z [] = Unit {0}
Lacks z (x ∷ xs) = (x ≢ z) × Lacks z xs

pub differs_first : (x y : ℕ) (r s : Ordering) → x ≢ y → ordering_then (nat_cmp x y) r ≡ ordering_then (nat_cmp x y) s
differs_first x y r s other = grind (arith, nat_tests)

cut_left : (x y : ℕ) (r s t : Ordering) → x ≢ y → ordering_then (nat_cmp x y) r ≡ ordering_then (ordering_then (nat_cmp x y) s) t
cut_left x y r s t other = differs_first x y r (ordering_then s t) other ∙ then_assoc (nat_cmp x y) s t

pub cmp_pieces : (z : ℕ) (xs ys r s : List ℕ) → Lacks z xs → Lacks z ys
    → slice_cmp nat_cmp (xs ++ z ∷ r) (ys ++ z ∷ s) ≡ ordering_then (slice_cmp nat_cmp (xs ++ z ∷ []) (ys ++ z ∷ [])) (slice_cmp nat_cmp r s)
cmp_pieces z [] [] r s p q = ap (λ o. ordering_then o (slice_cmp nat_cmp r s)) (sym (then_Equal (nat_cmp z z)))
cmp_pieces z [] (y ∷ ys) r s p q = cut_left z y _ _ _ (λ e. q.0 (sym e))
cmp_pieces z (x ∷ xs) [] r s p q = cut_left x z _ _ _ p.0
cmp_pieces z (x ∷ xs) (y ∷ ys) r s p q = ap (ordering_then (nat_cmp x y)) (cmp_pieces z xs ys r s p.1 q.1) ∙ then_assoc (nat_cmp x y) _ _
