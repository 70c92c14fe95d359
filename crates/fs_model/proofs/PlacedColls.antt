-- Collections gathered in the order of their texts.
use Rattle.std.proofs.Common.{◌≡◌, ℕ, arith, Bool, true, false, cond, ◌||◌, List, [], ◌∷◌, ◌++◌, map, is_some, Option, Some, None, refl, sym, ◌∙◌, ap}
use Rattle.std.specs.Prelude.{◌↔◌, ◌<◌, IsSome, length}
use Rattle.std.specs.List.{list_any}
use Rattle.std.specs.List.Sorted.{IsStrictlySortedBy}
use Rattle.std.specs.Ordering.{eq_by_cmp, ordering_then, nat_cmp}
use Rattle.std.specs.declared.cmp.Ordering.{Ordering}
use Rattle.std.specs.declared.cmp.Ordering.TheVariants.{Less, Equal, Greater}
use Rattle.std.specs.Cmp.{eq_by_cmp_equiv}
use Rattle.std.specs.Cmp.Lexicographic.{slice_cmp}
use Rattle.std.specs.FinMap as fin
use Rattle.std.specs.FinMap.Entries.{is_some-find}
use Rattle.std.proofs.lemmas.List.Folds.{list_any-append}
use Rattle.fs_names.specs.declared.coll.Coll.{Coll}
use Rattle.fs_names.specs.Order.{coll_cmp, coll_field_cmp, coll_cmp_total, coll_cmp-IsAntisymmetric}
use Rattle.fs_names.specs.Text.{coll_text}
use Rattle.fs_model.specs.Listing.{Rises}
use Rattle.fs_model.specs.Objects.{Shelf, Objects}
use Rattle.fs_model.proofs.Listings.{keys-are}

-- the comparison of two collections, from that of their texts and of their fields
then_equal : (r : Ordering) → ordering_then r Equal ≡ r
then_equal Less = refl
then_equal Equal = refl
then_equal Greater = refl

parts : (a b : Coll) → coll_cmp a b ≡ ordering_then (slice_cmp nat_cmp (coll_text a) (coll_text b)) (coll_field_cmp a b)
unfolding coll_cmp coll_field_cmp
parts a b = ap (ordering_then (slice_cmp nat_cmp (coll_text a) (coll_text b))) (then_equal _)

pub by_text : (a b : Coll) (s t : List ℕ) (texts fields all : Ordering) → s ≡ coll_text a → t ≡ coll_text b → texts ≡ slice_cmp nat_cmp s t → fields ≡ coll_field_cmp a b
    → all ≡ ordering_then texts fields → all ≡ coll_cmp a b
by_text a b s t texts fields all s_is t_is x f e = cc (parts a b)

-- a collection is added
pub added : (x : Coll) (old new : List Coll)
    → ((q : Coll) → list_any (eq_by_cmp coll_cmp q) new ≡ cond (eq_by_cmp coll_cmp x q) true (list_any (eq_by_cmp coll_cmp q) old))
    → (q : Coll) → list_any (eq_by_cmp coll_cmp q) new ≡ (list_any (eq_by_cmp coll_cmp q) old || eq_by_cmp coll_cmp q x)
added x old new updates q =
    updates q ∙ ap (λ (t : Bool). cond t true (list_any (eq_by_cmp coll_cmp q) old)) ((eq_by_cmp_equiv coll_cmp_total).symm x q)
    ∙ either (eq_by_cmp coll_cmp q x) (list_any (eq_by_cmp coll_cmp q) old)
  where
    either : (t a : Bool) → cond t true a ≡ (a || t)
    either true true = refl
    either true false = refl
    either false true = refl
    either false false = refl

-- those seen are in the set, and no others
pub record Placed (seen keys : List Coll) : Type 0 where
  pub ordered : IsStrictlySortedBy coll_cmp keys
  pub members : (q : Coll) → list_any (eq_by_cmp coll_cmp q) keys ≡ list_any (eq_by_cmp coll_cmp q) seen

pub placed_none : (keys : List Coll) → keys ≡ [] → IsStrictlySortedBy coll_cmp keys → Placed [] keys
placed_none keys e up = record { ordered = up; members = λ q. ap (list_any (eq_by_cmp coll_cmp q)) e }

pub placed_more : (seen more keys new : List Coll) (x : Coll) → Placed seen keys → more ≡ seen ++ x ∷ [] → IsStrictlySortedBy coll_cmp new
    → ((q : Coll) → list_any (eq_by_cmp coll_cmp q) new ≡ (list_any (eq_by_cmp coll_cmp q) keys || eq_by_cmp coll_cmp q x)) → Placed more new
placed_more seen more keys new x p is up a = record {
  ordered = up;
  members = λ q.
      a q ∙ ap (λ (t : Bool). t || eq_by_cmp coll_cmp q x) (p.members q)
      ∙ ap (λ (t : Bool). list_any (eq_by_cmp coll_cmp q) seen || t) (sym (neither (eq_by_cmp coll_cmp q x)))
      ∙ sym (list_any-append (eq_by_cmp coll_cmp q) seen (x ∷ []))
      ∙ ap (list_any (eq_by_cmp coll_cmp q)) (sym is);
}
  where
    neither : (a : Bool) → (a || false) ≡ a
    neither true = refl
    neither false = refl

rising : (l : List Coll) → IsStrictlySortedBy coll_cmp l → Rises coll_cmp l
unfolding IsStrictlySortedBy
rising [] h = tt
rising (x ∷ l) h = (h.0, rising l h.1)

pub placed_all : (es : List (Coll × Shelf)) (seen keys : List Coll) → Placed seen keys → seen ≡ map (λ e. e.0) es → keys ≡ fin.keys (fin.from_entries {R = coll_cmp} es)
placed_all es seen keys p is =
    keys-are coll_cmp_total coll_cmp-IsAntisymmetric (fin.from_entries es) keys (rising keys p.ordered)
    (λ q. p.members q ∙ ap (list_any (eq_by_cmp coll_cmp q)) is ∙ sym (is_some-find coll_cmp q es) ∙ ap is_some (sym (fin.get-from_entries coll_cmp_total es q)))

-- a set from which no first collection is taken is empty
pub emptied : (keys : List Coll) (r : Option Coll) → (IsSome r ↔ (0 < length keys)) → ((x : Coll) → r ≡ Some x → ⊥) → keys ≡ []
emptied [] r some none = refl
emptied (x ∷ keys) None some none = let h : IsSome {T = Coll} None = some.1 (omega arith) in cc
emptied (x ∷ keys) (Some y) some none = absurd (none y refl)
