-- The order of paths.
use Rattle.std.proofs.Common.{◌≡◌, ◌≢◌, ◌⊎◌, inl, inr, ℕ, zero, suc, ◌+◌, ◌≤◌, List, [], ◌∷◌, ◌++◌, length, drop, Bool, true, false, cond, Some, None, refl, sym, ◌∙◌, ap, subst, arith}
use Rattle.std.specs.List.{slice_get}
use Rattle.std.specs.declared.cmp.Ordering.{Ordering}
use Rattle.std.specs.declared.cmp.Ordering.TheVariants.{Less, Equal, Greater}
use Rattle.std.specs.Ordering.{nat_cmp, is_eq, ordering_then}
use Rattle.std.specs.Cmp.{eq_by_cmp_equiv}
use Rattle.std.specs.Cmp.Lexicographic.{slice_cmp, nat_list_cmp_total}
use Rattle.std.specs.FinMap.{nat_cmp-IsAntisymmetric, slice_cmp-IsAntisymmetric, IsAntisymmetric}
use Rattle.std.proofs.lemmas.Bool.Decides.{nat_tests}
use Rattle.tree_api.specs.Tree.{Path}
use Rattle.tree_memory.specs.Paths.{path_cmp, path_cmp_total, same_step, same_path, strip}

pub equal_from_test : (r : Ordering) → is_eq r ≡ true → r ≡ Equal
equal_from_test Less e = cc
equal_from_test Equal e = refl
equal_from_test Greater e = cc

pub steps_exact : IsAntisymmetric (slice_cmp nat_cmp)
steps_exact = slice_cmp-IsAntisymmetric nat_cmp-IsAntisymmetric

pub paths_exact : IsAntisymmetric path_cmp
paths_exact = slice_cmp-IsAntisymmetric steps_exact

pub same_step_refl : (s : List ℕ) → same_step s s ≡ true
same_step_refl s = (eq_by_cmp_equiv nat_list_cmp_total).refl s

pub same_path_refl : (p : Path) → same_path p p ≡ true
same_path_refl p = (eq_by_cmp_equiv path_cmp_total).refl p

pub same_step_is : (s t : List ℕ) → same_step s t ≡ true → s ≡ t
same_step_is s t e = steps_exact s t (equal_from_test _ e)

pub same_path_is : (p q : Path) → same_path p q ≡ true → p ≡ q
same_path_is p q e = paths_exact p q (equal_from_test _ e)

pub same_path_from : (p q : Path) → p ≡ q → same_path p q ≡ true
same_path_from p q e = subst (λ (x : Path). same_path p x ≡ true) e (same_path_refl p)

pub same_step_from : (s t : List ℕ) → s ≡ t → same_step s t ≡ true
same_step_from s t e = subst (λ (x : List ℕ). same_step s x ≡ true) e (same_step_refl s)

true_false : true ≡ false → ⊥
true_false e = cc

pub same_path_not : (p q : Path) → p ≢ q → same_path p q ≡ false
same_path_not p q not = by (same_path p q) refl
  where
    by : (b : Bool) → same_path p q ≡ b → b ≡ false
    by true e = absurd (not (same_path_is p q e))
    by false e = refl

pub same_path_other : (p q : Path) → same_path p q ≡ false → p ≢ q
same_path_other p q e is = true_false (sym (same_path_from p q is) ∙ e)

pub same_step_other : (s t : List ℕ) → same_step s t ≡ false → s ≢ t
same_step_other s t e is = true_false (sym (same_step_from s t is) ∙ e)

pub cases_path : (p q : Path) → (p ≡ q) ⊎ (p ≢ q)
cases_path p q = by (same_path p q) refl
  where
    by : (b : Bool) → same_path p q ≡ b → (p ≡ q) ⊎ (p ≢ q)
    by true e = inl (same_path_is p q e)
    by false e = inr (same_path_other p q e)

pub same_path_flip : (p q : Path) → same_path p q ≡ same_path q p
same_path_flip p q = (eq_by_cmp_equiv path_cmp_total).symm p q

pub step_refl : (s : List ℕ) → slice_cmp nat_cmp s s ≡ Equal
step_refl s = equal_from_test _ (same_step_refl s)

-- a common front doesn't count
pub cmp_append : (d p q : Path) → path_cmp (d ++ p) (d ++ q) ≡ path_cmp p q
cmp_append [] p q = refl
cmp_append (s ∷ d) p q = ap (λ (o : Ordering). ordering_then o (path_cmp (d ++ p) (d ++ q))) (step_refl s) ∙ cmp_append d p q

-- ---- the steps after a directory's

pub strip_some : (d q r : Path) → strip d q ≡ Some r → q ≡ d ++ r
strip_some [] q r e = cc
strip_some (s ∷ d) [] r e = cc
strip_some (s ∷ d) (t ∷ q) r e = elim (same_step s t) as (λ b. same_step s t ≡ b → cond b (strip d q) None ≡ Some r → t ∷ q ≡ s ∷ (d ++ r)) [
  | true ↦ λ is e. let rest = strip_some d q r e in let head = same_step_is s t is in cc
  | false ↦ λ is e. cc
] refl e

pub strip_append : (d r : Path) → strip d (d ++ r) ≡ Some r
strip_append [] r = refl
strip_append (s ∷ d) r = ap (λ (b : Bool). cond b (strip d (d ++ r)) None) (same_step_refl s) ∙ strip_append d r

pub strip_none : (d q r : Path) → strip d q ≡ None → q ≢ d ++ r
strip_none d q r e is = let h = strip_append d r in let g : strip d (d ++ r) ≡ None = subst (λ (x : Path). strip d x ≡ None) is e in cc

-- ---- the loop over both paths

go : (a b : Path) (i : ℕ) (s t : List ℕ) → slice_get a i ≡ Some s → slice_get b i ≡ Some t
    → path_cmp (drop i a) (drop i b) ≡ ordering_then (slice_cmp nat_cmp s t) (path_cmp (drop (suc i) a) (drop (suc i) b))
go [] b i s t e f = cc
go (x ∷ a) [] i s t e f = cc
go (x ∷ a) (y ∷ b) zero s t e f =
    let p : x ≡ s = cc in
    let q : y ≡ t = cc in
    λ k. ordering_then (slice_cmp nat_cmp (p k) (q k)) (path_cmp a b)
go (x ∷ a) (y ∷ b) (suc i) s t e f = go a b i s t e f

pub both_longer : (a b : Path) (i : ℕ) (s t : List ℕ) → slice_get a i ≡ Some s → slice_get b i ≡ Some t
    → path_cmp (drop i a) (drop i b) ≡ ordering_then (slice_cmp nat_cmp s t) (path_cmp (drop (i + 1) a) (drop (i + 1) b))
both_longer a b i s t e f =
    let next : suc i ≡ i + 1 = omega arith in
    subst (λ (j : ℕ). path_cmp (drop i a) (drop i b) ≡ ordering_then (slice_cmp nat_cmp s t) (path_cmp (drop j a) (drop j b))) next (go a b i s t e f)

pub then_equal : (o r : Ordering) → is_eq o ≡ true → ordering_then o r ≡ r
then_equal Less r e = cc
then_equal Equal r e = refl
then_equal Greater r e = cc

pub then_not : (o r : Ordering) → is_eq o ≡ false → ordering_then o r ≡ o
then_not Less r e = refl
then_not Equal r e = cc
then_not Greater r e = refl

sucs : (m n : ℕ) → nat_cmp m n ≡ nat_cmp (suc m) (suc n)
sucs m n = grind (arith, nat_tests)

-- at the end of one of them the lengths decide
pub by_length : (a b : Path) (i : ℕ) → i ≤ length a → i ≤ length b → (length a ≤ i) ⊎ (length b ≤ i) → path_cmp (drop i a) (drop i b) ≡ nat_cmp (length a) (length b)
by_length [] [] i le1 le2 end = let z : i ≡ 0 = omega arith in subst (λ (j : ℕ). path_cmp (drop j []) (drop j []) ≡ nat_cmp 0 0) (sym z) refl
by_length [] (y ∷ b) i le1 le2 end = let z : i ≡ 0 = omega arith in subst (λ (j : ℕ). path_cmp (drop j []) (drop j (y ∷ b)) ≡ nat_cmp 0 (length (y ∷ b))) (sym z) (grind (arith))
by_length (x ∷ a) [] i le1 le2 end = let z : i ≡ 0 = omega arith in subst (λ (j : ℕ). path_cmp (drop j (x ∷ a)) (drop j []) ≡ nat_cmp (length (x ∷ a)) 0) (sym z) (grind (arith))
by_length (x ∷ a) (y ∷ b) zero le1 le2 (inl e) = absurd (omega arith)
by_length (x ∷ a) (y ∷ b) zero le1 le2 (inr e) = absurd (omega arith)
by_length (x ∷ a) (y ∷ b) (suc i) le1 le2 (inl e) = by_length a b i (omega arith) (omega arith) (inl (omega arith)) ∙ sucs (length a) (length b)
by_length (x ∷ a) (y ∷ b) (suc i) le1 le2 (inr e) = by_length a b i (omega arith) (omega arith) (inr (omega arith)) ∙ sucs (length a) (length b)
