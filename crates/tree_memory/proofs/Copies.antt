-- Copies of all snapshots.
use Rattle.std.proofs.Common.{◌≡◌, ℕ, List, [], ◌∷◌, ◌++◌, map, Bool, true, false, cond, Option, Some, None, refl, sym, ◌∙◌, ap, subst}
use Rattle.std.specs.Option.{option_map}
use Rattle.std.specs.Map.{update_all, keys_of}
use Rattle.std.specs.BTreeMap.{BTreeMap, get, is_at}
use Rattle.std.specs.Ordering.{nat_cmp, eq_by_cmp}
use Rattle.std.specs.Cmp.{nat_cmp_total, eq_by_cmp_equiv}
use Rattle.std.specs.List.{IsDistinct}
use Rattle.std.specs.List.Sorted.{IsStrictlySortedBy}
use Rattle.std.proofs.lemmas.Map.{update_all_push}
use Rattle.std.proofs.lemmas.Map.Made.{update_all_none, lookup-map_values}
use Rattle.std.proofs.lemmas.Map.Keys.{IsDistinct-from_sorted}
use Rattle.std.proofs.lemmas.List.{map-append}
use Rattle.tree_api.specs.Tree.{Content}
use Rattle.tree_memory.specs.Kept.{content_of}
use Rattle.tree_memory.specs.declared.snap.Snap.{Snap}

abbrev pub content_in : Snap → Content
content_in s = content_of s.kept.items

abbrev pub at_none : ℕ → Option Content
at_none q = None

abbrev pub get_content : BTreeMap ℕ Snap → ℕ → Option Content
get_content m q = option_map content_in (get nat_cmp m q)

-- the entries, with what they keep
abbrev pub contents : List (ℕ × Snap) → List (ℕ × Content)
contents es = map (λ e. (e.0, content_in e.1)) es

mapped_cond : (b : Bool) (v : Snap) (o : Option Snap) → option_map content_in (cond b (Some v) o) ≡ cond b (Some (content_in v)) (option_map content_in o)
mapped_cond true v o = refl
mapped_cond false v o = refl

pub copied_more : (m n : BTreeMap ℕ Snap) (es : List (ℕ × Snap)) (k : ℕ) (v was : Snap)
    → ((q : ℕ) → get_content m q ≡ update_all (eq_by_cmp nat_cmp) at_none (contents es) q)
    → ((q : ℕ) → get nat_cmp n q ≡ cond (is_at (nat_cmp k) q) (Some v) (get nat_cmp m q))
    → content_in v ≡ content_in was
    → (q : ℕ) → get_content n q ≡ update_all (eq_by_cmp nat_cmp) at_none (contents (es ++ (k, was) ∷ [])) q
copied_more m n es k v was so_far put same q =
    ap (option_map content_in) (put q) ∙ mapped_cond (is_at (nat_cmp k) q) v (get nat_cmp m q)
    ∙ ap (λ (c : Content). cond (is_at (nat_cmp k) q) (Some c) (get_content m q)) same
    ∙ update_all_push (eq_by_cmp nat_cmp) at_none (get_content m) (contents es) (k, content_in was) q (so_far q)
    ∙ ap (λ (l : List (ℕ × Content)). update_all (eq_by_cmp nat_cmp) at_none l q) (sym (map-append (λ (e : ℕ × Snap). (e.0, content_in e.1)) es ((k, was) ∷ [])))

keys_same : (es : List (ℕ × Snap)) → keys_of (contents es) ≡ keys_of es
keys_same [] = refl
keys_same (e ∷ es) = ap (λ l. e.0 ∷ l) (keys_same es)

pub copied_all : (m n : BTreeMap ℕ Snap) (es : List (ℕ × Snap)) → es ≡ m.entries → IsStrictlySortedBy nat_cmp (keys_of m.entries)
    → ((q : ℕ) → get_content n q ≡ update_all (eq_by_cmp nat_cmp) at_none (contents es) q) → get_content n ≡ get_content m
copied_all m n es e sorted all = λ i q. (
    all q
    ∙ ap (λ (l : List (ℕ × Snap)). update_all (eq_by_cmp nat_cmp) at_none (contents l) q) e
    ∙ update_all_none (eq_by_cmp_equiv nat_cmp_total) (eq_by_cmp nat_cmp) (λ x y. refl) (contents m.entries) q (subst (IsDistinct (eq_by_cmp nat_cmp)) (sym (keys_same m.entries)) (IsDistinct-from_sorted nat_cmp _ sorted))
    ∙ lookup-map_values content_in (eq_by_cmp nat_cmp q) m.entries
    ) i
