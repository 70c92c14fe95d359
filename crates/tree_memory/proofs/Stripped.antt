-- Loops over the steps of paths.
use Rattle.std.proofs.Common.{◌≡◌, ℕ, ◌+◌, ◌<◌, List, [], ◌∷◌, length, drop, Bool, true, false, cond, Option, Some, None, refl, sym, ◌∙◌, ap, arith, is_some}
use Rattle.std.specs.List.{slice_get}
use Rattle.tree_api.specs.Tree.{Path}
use Rattle.tree_memory.specs.Paths.{same_step, strip}
use Rattle.tree_memory.proofs.Lists.{drop_get}

-- a shorter path doesn't begin with all steps
pub strip_short : (d q : Path) → length q < length d → strip d q ≡ None
strip_short [] q lt = absurd (omega arith)
strip_short (s ∷ d) [] lt = refl
strip_short (s ∷ d) (t ∷ q) lt = by (same_step s t) (strip_short d q (omega arith))
  where
    by : (b : Bool) → strip d q ≡ None → cond b (strip d q) None ≡ None
    by true e = e
    by false e = refl

-- one step further on
pub strip_step : (d q : Path) (i : ℕ) (s t : List ℕ) → slice_get d i ≡ Some s → slice_get q i ≡ Some t
    → strip (drop i d) (drop i q) ≡ cond (same_step s t) (strip (drop (i + 1) d) (drop (i + 1) q)) None
strip_step d q i s t here there = λ k. strip (drop_get d i s here k) (drop_get q i t there k)

-- what is left after all steps of the directory
pub strip_drop : (d q r : Path) → strip d q ≡ Some r → r ≡ drop (length d) q
strip_drop [] q r e = cc
strip_drop (s ∷ d) [] r e = cc
strip_drop (s ∷ d) (t ∷ q) r e = elim (same_step s t) as (λ b. cond b (strip d q) None ≡ Some r → r ≡ drop (length d) q) [
  | true ↦ λ e. strip_drop d q r e
  | false ↦ λ e. cc
] e

pub some_is : {A : Type 0} (o : Option A) (f : A) → ((a : A) → o ≡ Some a → a ≡ f) → is_some o ≡ true → o ≡ Some f
some_is None f same e = cc
some_is (Some a) f same e = ap Some (same a refl)

pub none_is : {A : Type 0} (o : Option A) → is_some o ≡ false → o ≡ None
none_is None e = refl
none_is (Some a) e = cc

pub rest_is : (d q r : Path) (first : ℕ) (test : Bool) → test ≡ is_some (strip d q) → test ≡ true → first ≡ length d → r ≡ drop first q → Some r ≡ strip d q
rest_is d q r first test e t f g = sym (some_is (strip d q) r (λ a is. strip_drop d q a is ∙ ap (λ (n : ℕ). drop n q) (sym f) ∙ sym g) (sym e ∙ t))
