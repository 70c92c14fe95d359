-- A list of the objects of a shelf that rises in hash order is the list of its keys.
use Rattle.std.proofs.Common.{◌≡◌, Bool, true, false, cond, ◌&&◌, ◌||◌, None, Some, List, [], ◌∷◌, map, refl, sym, ap, subst, ◌∙◌}
use Rattle.std.specs.Prelude.{T}
use Rattle.std.specs.List.{list_any, AllByRecursion}
use Rattle.fs_model.specs.Listing.{Rises}
use Rattle.std.specs.declared.cmp.Ordering.{Ordering}
use Rattle.std.specs.declared.cmp.Ordering.TheVariants.{Less, Equal, Greater}
use Rattle.std.specs.Ordering.{is_lt, eq_by_cmp}
use Rattle.std.specs.Cmp.{IsTotalOrder}
use Rattle.std.specs.FinMap.{FinMap, IsAntisymmetric, entries, entries_sorted, keys, contains_key, contains_key-keys}
use Rattle.std.specs.FinMap.Entries.{find, is_sorted, below_all, same_entries}

first : (a b : Bool) → (a && b) ≡ true → a ≡ true
first true b p = refl
first false b p = p

second : (a b : Bool) → (a && b) ≡ true → b ≡ true
second true b p = p
second false b p = cc

less : (r : Ordering) → is_lt r ≡ true → r ≡ Less
less Less p = refl
less Equal p = cc
less Greater p = cc

is_true : (b : Bool) → T b → b ≡ true
is_true true h = refl
is_true false h = absurd h

module _ {K : Type 0} (R : K → K → Ordering) where
  abbrev marked : List K → List (K × Unit {0})
  marked = map (λ k. (k, tt))

  below-marked : (x : K) (l : List K) → AllByRecursion (λ y. R x y ≡ Less) l → below_all R x (marked l) ≡ true
  below-marked x [] h = refl
  below-marked x (y ∷ l) h = ap (λ r. is_lt r && below_all R x (marked l)) h.0 ∙ below-marked x l h.1

  sorted-marked : (l : List K) → Rises R l → is_sorted R (marked l) ≡ true
  sorted-marked [] h = refl
  sorted-marked (x ∷ l) h = ap (λ b. b && is_sorted R (marked l)) (below-marked x l h.0) ∙ sorted-marked l h.1

  found : (q : K) (l : List K) → find R q (marked l) ≡ cond (list_any (eq_by_cmp R q) l) (Some tt) None
  found q [] = refl
  found q (x ∷ l) = elim (eq_by_cmp R q x) as (λ b. cond b (Some tt) (find R q (marked l)) ≡ cond (b || list_any (eq_by_cmp R q) l) (Some tt) None) [ true ↦ refl | false ↦ found q l ]

  names-marked : (l : List K) → map (λ e. e.0) (marked l) ≡ l
  names-marked [] = refl
  names-marked (x ∷ l) = ap (λ r. x ∷ r) (names-marked l)

  -- two lists that rise and hold the same keys are one
  pub one_rising : IsTotalOrder R → IsAntisymmetric R → (l m : List K) → Rises R l → Rises R m
      → ((q : K) → list_any (eq_by_cmp R q) l ≡ list_any (eq_by_cmp R q) m) → l ≡ m
  one_rising o same l m up_l up_m alike =
      sym (names-marked l)
      ∙ ap (map (λ e. e.0)) (same_entries R o same (marked l) (marked m) (subst T (sym (sorted-marked l up_l)) tt) (subst T (sym (sorted-marked m up_m)) tt)
      (λ q. found q l ∙ ap (λ b. cond b (Some tt) None) (alike q) ∙ sym (found q m)))
      ∙ names-marked m

-- A list that rises and holds just the keys of the map is the list of its keys.
-- (The keys of a map rise, too.)
rises-below : {K X : Type 0} (R : K → K → Ordering) (x : K) (es : List (K × X)) → below_all R x es ≡ true → AllByRecursion (λ y. R x y ≡ Less) (map (λ e. e.0) es)
rises-below R x [] h = tt
rises-below R x (e ∷ es) h = (less _ (first _ _ h), rises-below R x es (second _ _ h))

rises-entries : {K X : Type 0} (R : K → K → Ordering) (es : List (K × X)) → is_sorted R es ≡ true → Rises R (map (λ e. e.0) es)
rises-entries R [] h = tt
rises-entries R (e ∷ es) h = (rises-below R e.0 es (first _ _ h), rises-entries R es (second _ _ h))

pub keys-rise : {K X : Type 0} {R : K → K → Ordering} (m : FinMap R X) → Rises R (keys m)
keys-rise {R = R} m = rises-entries R (entries m) (is_true _ (entries_sorted m))

pub keys-are : {K X : Type 0} {R : K → K → Ordering} → IsTotalOrder R → IsAntisymmetric R → (m : FinMap R X) (l : List K) → Rises R l
    → ((q : K) → list_any (eq_by_cmp R q) l ≡ contains_key m q) → l ≡ keys m
keys-are {R = R} o same m l up alike = one_rising R o same l (keys m) up (keys-rise m) (λ q. alike q ∙ contains_key-keys m q)
