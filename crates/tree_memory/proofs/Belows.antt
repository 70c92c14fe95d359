-- The list of what stands below a directory.
use Rattle.std.proofs.Common.{◌≡◌, ℕ, List, [], ◌∷◌, ◌++◌, map, Bool, cond, Option, Some, None, refl, sym, ◌∙◌, ap, subst}
use Rattle.std.specs.List.{All, AllByRecursion}
use Rattle.std.specs.List.Sorted.{IsStrictlySortedBy}
use Rattle.std.specs.Map.{lookup}
use Rattle.std.specs.BTreeMap.{is_at}
use Rattle.std.specs.declared.cmp.Ordering.TheVariants.{Less}
use Rattle.std.specs.Ordering.{is_eq}
use Rattle.std.proofs.lemmas.List.Elements.{All-contains_itself, All-weaker}
use Rattle.std.proofs.lemmas.Map.Views.{btree_map_get_iff}
use Rattle.tree_api.specs.Tree.{Path}
use Rattle.tree_memory.specs.Paths.{path_cmp, path_cmp_total, same_path, strip}
use Rattle.tree_memory.specs.Names.{names_at, find_name, IsBelow, edited, edited_once}
use Rattle.tree_memory.specs.declared.names.NameMap.{NameMap}
use Rattle.tree_memory.specs.declared.names.Name.{Name}
use Rattle.tree_memory.specs.declared.event.Edit.{Edit}
use Rattle.tree_api.specs.Tree.{Names}
use Rattle.tree_memory.proofs.Orders.{paths_exact, strip_some, strip_none, cmp_append, same_path_not}
use Rattle.tree_memory.proofs.Lists.{all_head, all_tail, all_cons, all_nil}

abbrev pub entry : Option Path → ℕ → List Name → List Name
entry None n l = l
entry (Some r) n l = record { rest = r; node = n } ∷ l

abbrev pub below_list : Path → List (Path × ℕ) → List Name
below_list d [] = []
below_list d (e ∷ es) = entry (strip d e.0) e.1 (below_list d es)

pub below_append : (d : Path) (xs ys : List (Path × ℕ)) → below_list d (xs ++ ys) ≡ below_list d xs ++ below_list d ys
below_append d [] ys = refl
below_append d (x ∷ xs) ys = elim (strip d x.0) as (λ o. entry o x.1 (below_list d (xs ++ ys)) ≡ entry o x.1 (below_list d xs) ++ below_list d ys) [
  | None ↦ below_append d xs ys
  | Some r ↦ ap (λ l. record { rest = r; node = x.1 } ∷ l) (below_append d xs ys)
]

find_below : (d : Path) (es : List (Path × ℕ)) (r : Path) → find_name (below_list d es) r ≡ lookup (is_at (path_cmp (d ++ r))) es
find_below d [] r = refl
find_below d (e ∷ es) r = elim (strip d e.0) as (λ o. strip d e.0 ≡ o → find_name (entry o e.1 (below_list d es)) r ≡ cond (same_path (d ++ r) e.0) (Some e.1) (lookup (is_at (path_cmp (d ++ r))) es)) [
  | None ↦ λ is.
      find_below d es r
      ∙ ap (λ (b : Bool). cond b (Some e.1) (lookup (is_at (path_cmp (d ++ r))) es)) (sym (same_path_not (d ++ r) e.0 (λ same. strip_none d e.0 r is (sym same))))
  | Some q ↦ λ is.
      let same : same_path (d ++ r) e.0 ≡ same_path r q = ap (λ (k : Path). same_path (d ++ r) k) (strip_some d e.0 q is) ∙ ap is_eq (cmp_append d r q) in
      ap (cond (same_path r q) (Some e.1)) (find_below d es r) ∙ ap (λ (b : Bool). cond b (Some e.1) (lookup (is_at (path_cmp (d ++ r))) es)) (sym same)
] refl

each_below : (P : Path → ℕ → Type 0) (d : Path) (es : List (Path × ℕ)) → All (λ (e : Path × ℕ). P e.0 e.1) es → All (λ (x : Name). P (d ++ x.rest) x.node) (below_list d es)
each_below P d [] all = all_nil (λ (x : Name). P (d ++ x.rest) x.node)
each_below P d (e ∷ es) all =
    let rest = each_below P d es (all_tail (λ (e : Path × ℕ). P e.0 e.1) e es all) in
    elim (strip d e.0) as (λ o. strip d e.0 ≡ o → All (λ (x : Name). P (d ++ x.rest) x.node) (entry o e.1 (below_list d es))) [
      | None ↦ λ is. rest
      | Some r ↦ λ is. all_cons (λ (x : Name). P (d ++ x.rest) x.node) (record { rest = r; node = e.1 }) (below_list d es) (subst (λ (k : Path). P k e.1) (strip_some d e.0 r is) (all_head (λ (e : Path × ℕ). P e.0 e.1) e es all)) rest
    ] refl

less_below : (d r : Path) (es : List (Path × ℕ)) → AllByRecursion (λ y. path_cmp (d ++ r) y ≡ Less) (map (λ (e : Path × ℕ). e.0) es) → AllByRecursion (λ y. path_cmp r y ≡ Less) (map (λ (x : Name). x.rest) (below_list d es))
less_below d r [] all = tt
less_below d r (e ∷ es) all = elim (strip d e.0) as (λ o. strip d e.0 ≡ o → AllByRecursion (λ y. path_cmp r y ≡ Less) (map (λ (x : Name). x.rest) (entry o e.1 (below_list d es)))) [
  | None ↦ λ is. less_below d r es all.1
  | Some q ↦ λ is. (sym (cmp_append d r q) ∙ ap (path_cmp (d ++ r)) (sym (strip_some d e.0 q is)) ∙ all.0, less_below d r es all.1)
] refl

rises_below : (d : Path) (es : List (Path × ℕ)) → IsStrictlySortedBy path_cmp (map (λ (e : Path × ℕ). e.0) es) → IsStrictlySortedBy path_cmp (map (λ (x : Name). x.rest) (below_list d es))
unfolding IsStrictlySortedBy
rises_below d [] s = tt
rises_below d (e ∷ es) s = elim (strip d e.0) as (λ o. strip d e.0 ≡ o → IsStrictlySortedBy path_cmp (map (λ (x : Name). x.rest) (entry o e.1 (below_list d es)))) [
  | None ↦ λ is. rises_below d es s.1
  | Some r ↦ λ is. (less_below d r es (subst (λ (k : Path). AllByRecursion (λ y. path_cmp k y ≡ Less) (map (λ (e : Path × ℕ). e.0) es)) (strip_some d e.0 r is) s.0), rises_below d es s.1)
] refl

pub is_below : (m : NameMap) (d : Path) (l : List Name) → IsStrictlySortedBy path_cmp (map (λ (e : Path × ℕ). e.0) m.map.entries) → l ≡ below_list d m.map.entries → IsBelow (names_at m) d l
is_below m d l sorted e = subst (IsBelow (names_at m) d) (sym e) (record {
  find = find_below d m.map.entries;
  each = each_below (λ p n. names_at m p ≡ Some n) d m.map.entries
      (All-weaker _ _ (λ (e : Path × ℕ) there. (btree_map_get_iff path_cmp_total paths_exact m.map sorted e.0 e.1).1 there) m.map.entries (All-contains_itself m.map.entries));
  rises = rises_below d m.map.entries sorted;
})

pub edited_push : (es : List Edit) (e : Edit) (at : Names) → edited (es ++ e ∷ []) at ≡ edited_once e (edited es at)
edited_push [] e at = refl
edited_push (x ∷ es) e at = edited_push es e (edited_once x at)

-- one entry more
pub below_some : (d : Path) (es : List (Path × ℕ)) (l new : List Name) (p k r : Path) (n : ℕ) (o : Option Path) → l ≡ below_list d es → k ≡ p → o ≡ strip d k → o ≡ Some r → new ≡ l ++ record { rest = r; node = n } ∷ []
    → new ≡ below_list d (es ++ (p, n) ∷ [])
below_some d es l new p k r n o so_far same is some grew =
    let there : strip d p ≡ Some r = ap (strip d) (sym same) ∙ sym is ∙ some in
    grew ∙ ap (λ (x : List Name). x ++ record { rest = r; node = n } ∷ []) so_far
    ∙ ap (λ (x : Option Path). below_list d es ++ entry x n []) (sym there)
    ∙ sym (below_append d es ((p, n) ∷ []))
