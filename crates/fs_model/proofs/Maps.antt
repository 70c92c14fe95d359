-- A `BTreeMap` in the order R, seen as the `FinMap` of its entries in an order S with the same ties.
use Rattle.std.proofs.Common.{◌≡◌, Bool, true, false, cond, None, Some, IsSome, is_some, ◌&&◌, map as map_list, List, [], ◌∷◌, refl, sym, ap, subst, ◌∙◌}
use Rattle.std.specs.declared.cmp.Ordering.{Ordering}
use Rattle.std.specs.declared.cmp.Ordering.TheVariants.{Less, Equal, Greater}
use Rattle.std.specs.Ordering.{is_eq, is_lt, eq_by_cmp, nat_cmp}
use Rattle.std.specs.Cmp.Lexicographic.{slice_cmp, nat_list_cmp_total}
use Rattle.std.specs.Cmp.{IsTotalOrder, eq_by_cmp_equiv, tied_itself}
use Rattle.std.specs.Prelude.{T}
use Rattle.std.specs.List.{filter, AllByRecursion}
use Rattle.std.specs.List.Sorted.{IsStrictlySortedBy}
use Rattle.std.specs.Map.{lookup}
use Rattle.std.specs.FinMap.Entries.{find-where_key, is_sorted, below_all, same_entries}
use Rattle.std.specs.FinMap.{FinMap, IsAntisymmetric, nat_cmp-IsAntisymmetric, slice_cmp-IsAntisymmetric, entries, entries_sorted, from_entries, get-entries, get, contains_key, insert, remove, retain_keys, find, get-from_entries, get_tied, get-insert, get-remove, get-retain_keys, same_map}
use Rattle.fs_names.specs.declared.coll.Coll.{Coll}
use Rattle.fs_names.specs.Order.{oid_cmp, coll_cmp, coll_field_cmp, oid_cmp_total, coll_cmp_total, coll_field_cmp_total, oid_cmp-IsAntisymmetric, coll_cmp-IsAntisymmetric, coll_field_cmp-IsAntisymmetric, same_ties}

-- an order of the map that has the ties of the tree's order
pub record Suits {K : Type 0} (R S : K → K → Ordering) : Type 0 where
  pub total : IsTotalOrder S
  pub same : IsAntisymmetric S
  pub ties : (x y : K) → eq_by_cmp S x y ≡ eq_by_cmp R x y

pub bytes_suit : Suits (slice_cmp nat_cmp) (slice_cmp nat_cmp)
bytes_suit = record { total = nat_list_cmp_total; same = slice_cmp-IsAntisymmetric nat_cmp-IsAntisymmetric; ties = λ x y. refl }

pub oids_suit : Suits oid_cmp oid_cmp
oids_suit = record { total = oid_cmp_total; same = oid_cmp-IsAntisymmetric; ties = λ x y. refl }

pub colls_suit : Suits coll_field_cmp coll_cmp
colls_suit = record { total = coll_cmp_total; same = coll_cmp-IsAntisymmetric; ties = same_ties coll_cmp_total coll_field_cmp_total coll_cmp-IsAntisymmetric coll_field_cmp-IsAntisymmetric }

pub tied : {K : Type 0} {R S : K → K → Ordering} → Suits R S → (k q : K) → is_eq (R k q) ≡ eq_by_cmp S q k
tied suits k q = sym (suits.ties k q) ∙ (eq_by_cmp_equiv suits.total).symm k q

tie : (r : Ordering) → is_eq r ≡ true → r ≡ Equal
tie Less e = cc
tie Equal e = refl
tie Greater e = cc

module _ {K X : Type 0} {R S : K → K → Ordering} (suits : Suits R S) where
  pub find-lookup : (q : K) (es : List (K × X)) → find S q es ≡ lookup (λ k. is_eq (R q k)) es
  find-lookup q [] = refl
  find-lookup q (e ∷ es) =
      ap (λ b. cond b (Some e.1) (find S q es)) (suits.ties q e.0) ∙ ap (cond (is_eq (R q e.0)) (Some e.1)) (find-lookup q es)

  pub get-view : (es : List (K × X)) (q : K) → get (from_entries {R = S} es) q ≡ lookup (λ k. is_eq (R q k)) es
  get-view es q = get-from_entries suits.total es q ∙ find-lookup q es

  pub view-insert : (es fs : List (K × X)) (k : K) (v : X)
      → ((q : K) → lookup (λ x. is_eq (R q x)) fs ≡ cond (is_eq (R k q)) (Some v) (lookup (λ x. is_eq (R q x)) es))
      → from_entries {R = S} fs ≡ insert (from_entries es) k v
  view-insert es fs k v is = same_map suits.total suits.same _ _ (λ q.
      get-view fs q ∙ is q
      ∙ ap (λ b. cond b (Some v) (lookup (λ x. is_eq (R q x)) es)) (tied suits k q)
      ∙ ap (cond (eq_by_cmp S q k) (Some v)) (sym (get-view es q))
      ∙ sym (get-insert suits.total (from_entries es) k v q))

  -- the value that is there is put there again
  pub insert-same : (m : FinMap S X) (k : K) (v : X) → get m k ≡ Some v → insert m k v ≡ m
  insert-same m k v is = same_map suits.total suits.same _ _ (λ q.
      get-insert suits.total m k v q
      ∙ elim (eq_by_cmp S q k) as (λ b. eq_by_cmp S q k ≡ b → cond b (Some v) (get m q) ≡ get m q) [
        | true ↦ λ t. sym is ∙ get_tied suits.total m q k (tie _ t)
        | false ↦ λ t. refl
      ] refl)

  pub view-remove : (es fs : List (K × X)) (k : K)
      → ((q : K) → lookup (λ x. is_eq (R q x)) fs ≡ cond (is_eq (R k q)) None (lookup (λ x. is_eq (R q x)) es))
      → from_entries {R = S} fs ≡ remove (from_entries es) k
  view-remove es fs k is = same_map suits.total suits.same _ _ (λ q.
      get-view fs q ∙ is q
      ∙ ap (λ b. cond b None (lookup (λ x. is_eq (R q x)) es)) (tied suits k q)
      ∙ ap (cond (eq_by_cmp S q k) None) (sym (get-view es q))
      ∙ sym (get-remove suits.total (from_entries es) k q))

  pub view-retain : (es : List (K × X)) (p : K → Bool) → from_entries {R = S} (filter (λ e. p e.0) es) ≡ retain_keys (from_entries es) p
  view-retain es p = same_map suits.total suits.same _ _ (λ q.
      let alike : (x : K) → S q x ≡ Equal → p x ≡ p q = λ x e. ap p (sym (suits.same q x e)) in
      get-from_entries suits.total (filter (λ e. p e.0) es) q
      ∙ find-where_key S p q alike es
      ∙ ap (λ v. cond (p q) v None) (sym (get-from_entries suits.total es q))
      ∙ sym (get-retain_keys (from_entries es) p q alike))

  -- a key that is there is found
  pub not-absent : (es : List (K × X)) (k : K) → contains_key (from_entries {R = S} es) k ≡ true → lookup (λ x. is_eq (R k x)) es ≡ None → ⊥
  not-absent es k there none =
      let e : false ≡ true = sym (ap is_some (get-view es k ∙ none)) ∙ there in
      cc

  -- a value is put back
  pub insert-back : (m : FinMap S X) (k : K) (v w : X) → get m k ≡ Some w → insert (insert m k v) k w ≡ m
  insert-back m k v w is = same_map suits.total suits.same _ _ (λ q.
      get-insert suits.total (insert m k v) k w q
      ∙ ap (cond (eq_by_cmp S q k) (Some w)) (get-insert suits.total m k v q)
      ∙ elim (eq_by_cmp S q k) as (λ b. eq_by_cmp S q k ≡ b → cond b (Some w) (cond b (Some v) (get m q)) ≡ get m q) [
        | true ↦ λ t. sym is ∙ get_tied suits.total m q k (tie _ t)
        | false ↦ λ t. refl
      ] refl)

  pub remove-back : (m : FinMap S X) (k : K) (v : X) → get m k ≡ None → remove (insert m k v) k ≡ m
  remove-back m k v is = same_map suits.total suits.same _ _ (λ q.
      get-remove suits.total (insert m k v) k q
      ∙ ap (cond (eq_by_cmp S q k) None) (get-insert suits.total m k v q)
      ∙ elim (eq_by_cmp S q k) as (λ b. eq_by_cmp S q k ≡ b → cond b None (cond b (Some v) (get m q)) ≡ get m q) [
        | true ↦ λ t. sym is ∙ get_tied suits.total m q k (tie _ t)
        | false ↦ λ t. refl
      ] refl)

  pub has-inserted : (m : FinMap S X) (k : K) (v : X) → contains_key (insert m k v) k ≡ true
  has-inserted m k v = ap is_some (get-insert suits.total m k v k) ∙ ap (λ b. is_some (cond b (Some v) (get m k))) (ap is_eq (tied_itself suits.total k))

  -- what `get_mut` lent was there
  pub lent : (es fs : List (K × X)) (k : K) (s v : X) → Some s ≡ lookup (λ x. is_eq (R k x)) es
      → (IsSome (lookup (λ x. is_eq (R k x)) es) → (q : K) → lookup (λ x. is_eq (R q x)) fs ≡ cond (is_eq (R k q)) (Some v) (lookup (λ x. is_eq (R q x)) es))
      → (q : K) → lookup (λ x. is_eq (R q x)) fs ≡ cond (is_eq (R k q)) (Some v) (lookup (λ x. is_eq (R q x)) es)
  lent es fs k s v was is = is (subst IsSome was refl)

  -- what was lent came back as it was
  pub view-unchanged : (es fs : List (K × X)) (k : K) (v : X) → Some v ≡ lookup (λ x. is_eq (R k x)) es
      → ((q : K) → lookup (λ x. is_eq (R q x)) fs ≡ cond (is_eq (R k q)) (Some v) (lookup (λ x. is_eq (R q x)) es))
      → from_entries {R = S} fs ≡ from_entries es
  view-unchanged es fs k v was is = view-insert es fs k v is ∙ insert-same (from_entries es) k v (get-view es k ∙ sym was)

-- the entries of a map in a tree are those of the map
below-of : {K X : Type 0} (R : K → K → Ordering) (x : K) (es : List (K × X)) → AllByRecursion (λ y. R x y ≡ Less) (map_list (λ e. e.0) es) → below_all R x es ≡ true
below-of R x [] h = refl
below-of R x (e ∷ es) h = ap (λ r. is_lt r && below_all R x es) h.0 ∙ below-of R x es h.1

sorted-of : {K X : Type 0} (R : K → K → Ordering) (es : List (K × X)) → IsStrictlySortedBy R (map_list (λ e. e.0) es) → is_sorted R es ≡ true
unfolding IsStrictlySortedBy
sorted-of R [] h = refl
sorted-of R (e ∷ es) h = ap (λ b. b && is_sorted R es) (below-of R e.0 es h.0) ∙ sorted-of R es h.1

pub entries-view : {K X : Type 0} {S : K → K → Ordering} → IsTotalOrder S → IsAntisymmetric S → (es : List (K × X))
    → IsStrictlySortedBy S (map_list (λ e. e.0) es) → entries (from_entries {R = S} es) ≡ es
entries-view {S = S} o same es sorted =
    same_entries S o same (entries (from_entries {R = S} es)) es (entries_sorted (from_entries {R = S} es)) (subst T (sym (sorted-of S es sorted)) tt)
    (λ q. sym (get-entries (from_entries {R = S} es) q) ∙ get-from_entries o es q)

pub coll_ties : (a b : Coll) → eq_by_cmp coll_cmp a b ≡ eq_by_cmp coll_field_cmp a b
coll_ties a b = colls_suit.ties a b
