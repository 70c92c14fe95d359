-- Keys of maps, in order.
use Rattle.std.proofs.Common.{◌≡◌, ◌⊎◌, inl, inr, ◌↔◌, ℕ, ◌<◌, List, [], ◌∷◌, ◌++◌, length, get_or, map, Option, Some, None, refl, sym, ◌∙◌, ap, subst, is_some, arith}
use Rattle.std.specs.List.{Contains}
use Rattle.std.specs.List.Sorted.{IsStrictlySortedBy}
use Rattle.std.specs.Option.{IsSome, option_map}
use Rattle.std.specs.declared.cmp.Ordering.TheVariants.{Less, Equal, Greater}
use Rattle.std.specs.Ordering.{nat_cmp, ordering_then}
use Rattle.std.specs.Cmp.{nat_cmp_total}
use Rattle.std.specs.Cmp.Lexicographic.{slice_cmp, nat_list_cmp_total}
use Rattle.std.specs.BTreeMap.{keys, get}
use Rattle.std.specs.FinMap.{nat_cmp-IsAntisymmetric}
use Rattle.std.proofs.lemmas.Cmp.{ranked}
use Rattle.std.proofs.lemmas.List.{get_or-map, length-map}
use Rattle.std.proofs.lemmas.Map.Views.{btree_map_contains_key_iff}
use Rattle.tree_api.specs.Answer.{Before, RisingSteps, RisingNumbers, names_of, AreAttrs}
use Rattle.tree_api.specs.declared.path.AttrName.{AttrName}
use Rattle.tree_memory.specs.Nodes.{version}
use Rattle.tree_memory.specs.Kept.{content_of}
use Rattle.tree_memory.specs.Snaps.{snaps_of}
use Rattle.tree_memory.specs.declared.node.Node.{Node}
use Rattle.tree_memory.specs.declared.snaps.Snaps.{Snaps}
use Rattle.tree_memory.proofs.Orders.{steps_exact}

pub less_is : (x y : ℕ) → nat_cmp x y ≡ Less → x < y
less_is x y e = ranked x y Less (sym e)

equal_is : (x y : ℕ) → nat_cmp x y ≡ Equal → x ≡ y
equal_is x y e = nat_cmp-IsAntisymmetric x y e

pub before_from : (xs ys : List ℕ) → slice_cmp nat_cmp xs ys ≡ Less → Before xs ys
before_from [] [] e = cc
before_from [] (y ∷ ys) e = tt
before_from (x ∷ xs) [] e = cc
before_from (x ∷ xs) (y ∷ ys) e = elim (nat_cmp x y) as (λ o. nat_cmp x y ≡ o → ordering_then o (slice_cmp nat_cmp xs ys) ≡ Less → (x < y) ⊎ ((x ≡ y) × Before xs ys)) [
  | Less ↦ λ is e. inl (less_is x y is)
  | Equal ↦ λ is e. inr (equal_is x y is, before_from xs ys e)
  | Greater ↦ λ is e. cc
] refl e

pub rising_numbers : (xs : List ℕ) → IsStrictlySortedBy nat_cmp xs → RisingNumbers xs
unfolding IsStrictlySortedBy
rising_numbers [] s = tt
rising_numbers (x ∷ []) s = tt
rising_numbers (x ∷ y ∷ zs) s = (less_is x y s.0.0, rising_numbers (y ∷ zs) s.1)

pub rising_steps : (xs : List (List ℕ)) → IsStrictlySortedBy (slice_cmp nat_cmp) xs → RisingSteps xs
unfolding IsStrictlySortedBy
rising_steps [] s = tt
rising_steps (x ∷ []) s = tt
rising_steps (x ∷ y ∷ zs) s = (before_from x y s.0.0, rising_steps (y ∷ zs) s.1)

some_mapped : {A B : Type 0} (f : A → B) (o : Option A) → is_some (option_map f o) ≡ is_some o
some_mapped f None = refl
some_mapped f (Some a) = refl

pub are_numbers : (m : Snaps) (ks : List ℕ) → ks ≡ keys m.map → (k : ℕ) → Contains ks k ↔ IsSome (snaps_of m k)
are_numbers m ks e k =
    let there = btree_map_contains_key_iff nat_cmp_total nat_cmp-IsAntisymmetric m.map k in
    let same = some_mapped (λ x. content_of x.kept.items) (get nat_cmp m.map k) in (
      λ h. same ∙ there.1 (subst (λ (l : List ℕ). Contains l k) e h),
      λ h. subst (λ (l : List ℕ). Contains l k) (sym e) (there.0 (sym same ∙ h)),
    )

names_mapped : (l : List AttrName) → names_of l ≡ map (λ a. a.bytes) l
names_mapped [] = refl
names_mapped (a ∷ l) = ap (λ r. a.bytes ∷ r) (names_mapped l)

pub names_push : (l : List AttrName) (a : AttrName) → names_of (l ++ a ∷ []) ≡ names_of l ++ a.bytes ∷ []
names_push [] a = refl
names_push (b ∷ l) a = ap (λ r. b.bytes ∷ r) (names_push l a)

contains_name : (l : List AttrName) (a : AttrName) → Contains l a ↔ Contains (map (λ x. x.bytes) l) a.bytes
contains_name l a = (
  λ h. (h.0, omega (arith, h.1, length-map l (λ (x : AttrName). x.bytes)), get_or-map (λ (x : AttrName). x.bytes) l h.0 a a.bytes h.1 ∙ ap (λ (x : AttrName). x.bytes) h.2),
  λ h.
      let lt : h.0 < length l = omega (arith, h.1, length-map l (λ (x : AttrName). x.bytes)) in
      let e : (get_or l h.0 a).bytes ≡ a.bytes = sym (get_or-map (λ (x : AttrName). x.bytes) l h.0 a a.bytes lt) ∙ h.2 in
      (h.0, lt, λ i. record { bytes = e i }),
)

pub are_attrs : (n : Node) (l : List AttrName) → names_of l ≡ keys n.attrs → IsStrictlySortedBy (slice_cmp nat_cmp) (keys n.attrs) → AreAttrs (version n) l
are_attrs n l e s = record {
  rising = subst RisingSteps (sym e) (rising_steps (keys n.attrs) s);
  all = λ a.
      let there = btree_map_contains_key_iff nat_list_cmp_total steps_exact n.attrs a.bytes in
      let name = contains_name l a in
      let same : map (λ x. x.bytes) l ≡ keys n.attrs = sym (names_mapped l) ∙ e in (
        λ h. there.1 (subst (λ (k : List (List ℕ)). Contains k a.bytes) same (name.0 h)),
        λ h. name.1 (subst (λ (k : List (List ℕ)). Contains k a.bytes) (sym same) (there.0 h)),
      );
}
