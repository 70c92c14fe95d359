-- A `BTreeSet` in the order R, seen as the `FinSet` of its keys in an order S with the same ties.
use Rattle.std.proofs.Common.{◌≡◌, Bool, true, false, cond, not, ◌||◌, ◌&&◌, List, refl, sym, ap, ◌∙◌}
use mathlib.Core.Path.{fun_ext}
use Rattle.std.specs.declared.cmp.Ordering.{Ordering}
use Rattle.std.specs.Ordering.{is_eq, eq_by_cmp}
use Rattle.std.specs.List.{list_any}
use Rattle.std.specs.FinSet.{from_list, contains, insert, remove, contains-from_list, contains-insert, contains-remove, same_set}
use Rattle.fs_model.proofs.Maps.{Suits, tied}

or_by : (b a : Bool) → cond b true a ≡ (b || a)
or_by true a = refl
or_by false a = refl

and_by : (b a : Bool) → cond b false a ≡ (not b && a)
and_by true a = refl
and_by false a = refl

module _ {K : Type 0} {R S : K → K → Ordering} (suits : Suits R S) where
  pub contains-view : (ks : List K) (q : K) → contains (from_list {R = S} ks) q ≡ list_any (λ k. is_eq (R q k)) ks
  contains-view ks q = contains-from_list suits.total ks q ∙ ap (λ p. list_any p ks) (fun_ext (λ k. suits.ties q k))

  pub view-set_insert : (ks ls : List K) (k : K)
      → ((q : K) → list_any (λ x. is_eq (R q x)) ls ≡ cond (is_eq (R k q)) true (list_any (λ x. is_eq (R q x)) ks))
      → from_list {R = S} ls ≡ insert (from_list ks) k
  view-set_insert ks ls k is = same_set suits.total suits.same _ _ (λ q.
      contains-view ls q ∙ is q ∙ or_by (is_eq (R k q)) (list_any (λ x. is_eq (R q x)) ks)
      ∙ ap (λ b. b || list_any (λ x. is_eq (R q x)) ks) (tied suits k q)
      ∙ ap (λ a. eq_by_cmp S q k || a) (sym (contains-view ks q))
      ∙ sym (contains-insert suits.total (from_list ks) k q))

  pub view-set_remove : (ks ls : List K) (k : K)
      → ((q : K) → list_any (λ x. is_eq (R q x)) ls ≡ cond (is_eq (R k q)) false (list_any (λ x. is_eq (R q x)) ks))
      → from_list {R = S} ls ≡ remove (from_list ks) k
  view-set_remove ks ls k is = same_set suits.total suits.same _ _ (λ q.
      contains-view ls q ∙ is q ∙ and_by (is_eq (R k q)) (list_any (λ x. is_eq (R q x)) ks)
      ∙ ap (λ b. not b && list_any (λ x. is_eq (R q x)) ks) (tied suits k q)
      ∙ ap (λ a. not (eq_by_cmp S q k) && a) (sym (contains-view ks q))
      ∙ sym (contains-remove suits.total (from_list ks) k q))
