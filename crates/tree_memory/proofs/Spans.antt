-- What stands below a directory stands together, the directory first.
use Rattle.std.proofs.Common.{◌≡◌, ◌⊎◌, inl, inr, ℕ, List, [], ◌∷◌, ◌++◌, map, Bool, true, false, not, ◌&&◌, cond, Option, Some, None, refl, sym, ◌∙◌, ap, subst}
use Rattle.std.specs.List.{All, AllByRecursion, filter}
use Rattle.std.specs.List.Sorted.{IsStrictlySortedBy}
use Rattle.std.specs.Cmp.Lexicographic.{slice_cmp, nat_list_cmp_total}
use Rattle.std.specs.BTreeMap.Range.{range_contains}
use Rattle.std.specs.declared.cmp.Ordering.{Ordering}
use Rattle.std.specs.declared.cmp.Ordering.TheVariants.{Less, Equal, Greater}
use Rattle.std.specs.declared.ops.Bound.TheVariants.{Included, Unbounded}
use Rattle.std.specs.Ordering.{nat_cmp, is_le, is_eq, ordering_then, ordering_reverse}
use Rattle.std.proofs.lemmas.List.{append-nil}
use Rattle.tree_api.specs.Tree.{Path}
use Rattle.tree_memory.specs.Paths.{path_cmp, same_step, strip}
use Rattle.tree_memory.specs.Names.{names_at, IsBelow}
use Rattle.tree_memory.specs.declared.names.NameMap.{NameMap}
use Rattle.tree_memory.specs.declared.names.Name.{Name}
use Rattle.tree_memory.proofs.Orders.{strip_some, cmp_append, then_equal, then_not}
use Rattle.tree_memory.proofs.Belows.{entry, below_list, below_append, is_below}

-- q comes at d or after it
abbrev pub is_from : Path → Path → Bool
is_from d q = range_contains path_cmp (Included d) Unbounded q

abbrev pub from : Path → List (Path × ℕ) → List (Path × ℕ)
from d es = filter (λ e. is_from d e.0) es

least : (r : Path) → is_le (path_cmp [] r) ≡ true
least [] = refl
least (x ∷ r) = refl

from_append : (d r : Path) → is_le (path_cmp d (d ++ r)) ≡ true
from_append d r = ap (λ (k : Path). is_le (path_cmp k (d ++ r))) (sym (append-nil d)) ∙ ap is_le (cmp_append d [] r) ∙ least r

bounded : (b : Bool) → (b && not false) ≡ true → b ≡ true
bounded true e = refl
bounded false e = cc

apart : (b : Bool) → (b && not false) ≡ false → b ≡ true → ⊥
apart true e f = cc
apart false e f = cc

before_none : (d q : Path) → is_from d q ≡ false → strip d q ≡ None
before_none d q out = by (strip d q) refl
  where
    by : (o : Option Path) → strip d q ≡ o → o ≡ None
    by None is = refl
    by (Some r) is = let there : is_le (path_cmp d q) ≡ true = ap (λ (k : Path). is_le (path_cmp d k)) (strip_some d q r is) ∙ from_append d r in absurd (apart (is_le (path_cmp d q)) out there)

pub below_from : (d : Path) (es : List (Path × ℕ)) → below_list d (from d es) ≡ below_list d es
below_from d [] = refl
below_from d (e ∷ es) = elim (is_from d e.0) as (λ b. is_from d e.0 ≡ b → below_list d (cond b (e ∷ from d es) (from d es)) ≡ entry (strip d e.0) e.1 (below_list d es)) [
  | true ↦ λ is. ap (entry (strip d e.0) e.1) (below_from d es)
  | false ↦ λ is. below_from d es ∙ ap (λ (o : Option Path). entry o e.1 (below_list d es)) (sym (before_none d e.0 is))
] refl

reversed : (s t : List ℕ) → slice_cmp nat_cmp s t ≡ ordering_reverse (slice_cmp nat_cmp t s)
reversed = nat_list_cmp_total.antisymm

not_both : (s t : List ℕ) → is_eq (slice_cmp nat_cmp s t) ≡ false → is_le (slice_cmp nat_cmp s t) ≡ true → slice_cmp nat_cmp t s ≡ Less → ⊥
not_both s t other le less =
    let back : slice_cmp nat_cmp s t ≡ Greater = reversed s t ∙ ap ordering_reverse less in
    let no : is_le Greater ≡ true = ap is_le (sym back) ∙ le in
    cc

-- nothing below d comes after a path that comes after d and isn't below it
clash : (d p r : Path) → is_le (path_cmp d p) ≡ true → strip d p ≡ None → path_cmp p (d ++ r) ≡ Less → ⊥
clash [] p r le none less = cc
clash (s ∷ d) [] r le none less = cc
clash (s ∷ d) (t ∷ p) r le none less = elim (same_step s t) as (λ b. same_step s t ≡ b → cond b (strip d p) None ≡ None → ⊥) [
  | true ↦ λ is inner.
      let back : is_eq (slice_cmp nat_cmp t s) ≡ true = ap is_eq (reversed t s) ∙ flipped (slice_cmp nat_cmp s t) ∙ is in
      clash d p r
      (ap is_le (sym (then_equal (slice_cmp nat_cmp s t) (path_cmp d p) is)) ∙ le)
      inner
      (sym (then_equal (slice_cmp nat_cmp t s) (path_cmp p (d ++ r)) back) ∙ less)
  | false ↦ λ is inner.
      let back : is_eq (slice_cmp nat_cmp t s) ≡ false = ap is_eq (reversed t s) ∙ flipped (slice_cmp nat_cmp s t) ∙ is in
      not_both s t is
      (ap is_le (sym (then_not (slice_cmp nat_cmp s t) (path_cmp d p) is)) ∙ le)
      (sym (then_not (slice_cmp nat_cmp t s) (path_cmp p (d ++ r)) back) ∙ less)
] refl none
  where
    flipped : (o : Ordering) → is_eq (ordering_reverse o) ≡ is_eq o
    flipped Less = refl
    flipped Equal = refl
    flipped Greater = refl

after_none : (d p q : Path) → is_from d p ≡ true → strip d p ≡ None → path_cmp p q ≡ Less → strip d q ≡ None
after_none d p q first none less = by (strip d q) refl
  where
    by : (o : Option Path) → strip d q ≡ o → o ≡ None
    by None is = refl
    by (Some r) is = absurd (clash d p r (bounded (is_le (path_cmp d p)) first) none (ap (path_cmp p) (sym (strip_some d q r is)) ∙ less))

none_after : (d p : Path) (es : List (Path × ℕ)) → is_from d p ≡ true → strip d p ≡ None → AllByRecursion (λ y. path_cmp p y ≡ Less) (map (λ (e : Path × ℕ). e.0) es) → below_list d es ≡ []
none_after d p [] first none all = refl
none_after d p (e ∷ es) first none all =
    ap (λ (o : Option Path). entry o e.1 (below_list d es)) (after_none d p e.0 first none all.0)
    ∙ none_after d p es first none all.1

all_from : (d : Path) (es : List (Path × ℕ)) → AllByRecursion (λ (e : Path × ℕ). is_from d e.0 ≡ true) (from d es)
all_from d [] = tt
all_from d (e ∷ es) = elim (is_from d e.0) as (λ b. is_from d e.0 ≡ b → AllByRecursion (λ (x : Path × ℕ). is_from d x.0 ≡ true) (cond b (e ∷ from d es) (from d es))) [
  | true ↦ λ is. (is, all_from d es)
  | false ↦ λ is. all_from d es
] refl

keys_from : (P : Path → Type 0) (d : Path) (es : List (Path × ℕ)) → AllByRecursion P (map (λ (e : Path × ℕ). e.0) es) → AllByRecursion P (map (λ (e : Path × ℕ). e.0) (from d es))
keys_from P d [] all = tt
keys_from P d (e ∷ es) all = elim (is_from d e.0) as (λ b. AllByRecursion P (map (λ (x : Path × ℕ). x.0) (cond b (e ∷ from d es) (from d es)))) [
  | true ↦ (all.0, keys_from P d es all.1)
  | false ↦ keys_from P d es all.1
]

sorted_from : (d : Path) (es : List (Path × ℕ)) → IsStrictlySortedBy path_cmp (map (λ (e : Path × ℕ). e.0) es) → IsStrictlySortedBy path_cmp (map (λ (e : Path × ℕ). e.0) (from d es))
unfolding IsStrictlySortedBy
sorted_from d [] s = tt
sorted_from d (e ∷ es) s = elim (is_from d e.0) as (λ b. IsStrictlySortedBy path_cmp (map (λ (x : Path × ℕ). x.0) (cond b (e ∷ from d es) (from d es)))) [
  | true ↦ (keys_from (λ y. path_cmp e.0 y ≡ Less) d es s.0, sorted_from d es s.1)
  | false ↦ sorted_from d es s.1
]

-- a list that stands from d on ends, for d, at the first that isn't below d
stops : (d : Path) (ys : List (Path × ℕ)) (e : Path × ℕ) (es : List (Path × ℕ)) → AllByRecursion (λ (x : Path × ℕ). is_from d x.0 ≡ true) (ys ++ e ∷ es)
    → IsStrictlySortedBy path_cmp (map (λ (x : Path × ℕ). x.0) (ys ++ e ∷ es)) → strip d e.0 ≡ None → below_list d (ys ++ e ∷ es) ≡ below_list d ys
unfolding IsStrictlySortedBy
stops d [] e es all s none = ap (λ (o : Option Path). entry o e.1 (below_list d es)) none ∙ none_after d e.0 es all.0 none s.0
stops d (y ∷ ys) e es all s none = ap (entry (strip d y.0) y.1) (stops d ys e es all.1 s.1 none)

pub saw_all : (m : NameMap) (d : Path) (l : List Name) (seen : List (Path × ℕ)) → IsStrictlySortedBy path_cmp (map (λ (e : Path × ℕ). e.0) m.map.entries)
    → l ≡ below_list d seen → seen ≡ from d m.map.entries → IsBelow (names_at m) d l
saw_all m d l seen sorted is all = is_below m d l sorted (is ∙ ap (below_list d) all ∙ below_from d m.map.entries)

pub saw_enough : (m : NameMap) (d : Path) (l : List Name) (seen : List (Path × ℕ)) (p k : Path) (n : ℕ) (rest : List (Path × ℕ)) (o : Option Path)
    → IsStrictlySortedBy path_cmp (map (λ (e : Path × ℕ). e.0) m.map.entries)
    → l ≡ below_list d seen → from d m.map.entries ≡ seen ++ (p, n) ∷ rest → k ≡ p → o ≡ strip d k → o ≡ None → IsBelow (names_at m) d l
saw_enough m d l seen p k n rest o sorted is all same stripped none =
    let there : strip d p ≡ None = ap (strip d) (sym same) ∙ sym stripped ∙ none in
    is_below m d l sorted (
    is
    ∙ sym (stops d seen (p, n) rest
    (subst (λ (l : List (Path × ℕ)). AllByRecursion (λ (x : Path × ℕ). is_from d x.0 ≡ true) l) all (all_from d m.map.entries))
    (subst (λ (l : List (Path × ℕ)). IsStrictlySortedBy path_cmp (map (λ (x : Path × ℕ). x.0) l)) all (sorted_from d m.map.entries sorted))
    there)
    ∙ ap (below_list d) (sym all)
    ∙ below_from d m.map.entries
    )
