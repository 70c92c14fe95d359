-- The digits of hashed subdirectories in a listing.
use Rattle.std.proofs.Common.{◌≡◌, ◌≢◌, ◌⊎◌, ◌↔◌, inl, inr, ⊎_elim, ℕ, List, [], ◌∷◌, ◌++◌, length, codes, All, Contains, refl, sym, ◌∙◌, ap, subst, Option, Some, None}
use Rattle.std.specs.Prelude.{slice_get, MatchOption}
use Rattle.std.proofs.lemmas.List.{same_from_push}
use Rattle.std.proofs.lemmas.List.Elements.{All-contains, Contains-append_left, Contains-push, Contains-push_cases}
use Rattle.tree_api.specs.Answer.{IsListing, kind_of}
use Rattle.tree_api.specs.Tree.{Path, Tree}
use Rattle.tree_api.specs.declared.tree.Entry.{Entry}
use Rattle.tree_api.specs.declared.tree.Kind.TheVariants.{Dir}
use Rattle.lfn_index.specs.Directory.{entry}
use Rattle.lfn_index.specs.Subdirs.{IsUpperDigit, HasDigit, AddsDigit, AreDigits, HasSubdir}
use Rattle.lfn_index.proofs.Listings.{single_step}
use Rattle.lfn_index.proofs.Known.{kind_dir}

-- the name of a digit's subdirectory
abbrev name_of : ℕ → List ℕ
name_of digit = codes "DIR_" ++ digit ∷ []

same_digit : (e : Entry) (a b : ℕ) → HasDigit e a → HasDigit e b → a ≡ b
same_digit e a b one two =
    let names : name_of a ∷ [] ≡ name_of b ∷ [] = sym one.2 ∙ two.2 in
    (same_from_push (codes "DIR_") (codes "DIR_") a b (let z = names in cc)).1

pub some_digit : (e : Entry) (old new : List ℕ) (d : ℕ) → new ≡ old ++ d ∷ [] → HasDigit e d → AddsDigit e old new
some_digit e old new d is given = record {
  kept = λ x has. subst (λ (l : List ℕ). Contains l x) (sym is) (Contains-append_left old (d ∷ []) x has);
  added = λ x has. subst (λ (l : List ℕ). Contains l x) (sym is) (subst (Contains (old ++ d ∷ [])) (same_digit e d x given has) (Contains-push old d));
  each = λ x has.
      ⊎_elim (λ was. inl was) (λ same. inr (subst (HasDigit e) same given)) (Contains-push_cases old d x (subst (λ (l : List ℕ). Contains l x) is has));
}

pub no_digit : (e : Entry) (old : List ℕ) → ((digit : ℕ) → HasDigit e digit → ⊥) → AddsDigit e old old
no_digit e old none = record { kept = λ x has. has; added = λ x has. absurd (none x has); each = λ x has. inl has }

pub entry_digit_is : (e : Entry) (step : List ℕ) (r : Option ℕ) → length e.step ≡ 1 → slice_get e.step 0 ≡ Some step → e.kind ≡ Dir
    → MatchOption r ((digit : ℕ) → IsUpperDigit digit → step ≢ codes "DIR_" ++ digit ∷ []) (λ digit. IsUpperDigit digit × (step ≡ codes "DIR_" ++ digit ∷ []))
    → MatchOption r ((digit : ℕ) → HasDigit e digit → ⊥) (λ digit. HasDigit e digit)
entry_digit_is e step None one first kind none = λ digit has.
    none digit has.0 (let z : step ∷ [] ≡ name_of digit ∷ [] = sym (single_step e.step step one first) ∙ has.2 in cc)
entry_digit_is e step (Some d) one first kind is = (is.0, kind, single_step e.step step one first ∙ ap (λ s. s ∷ []) is.1)

pub digits_there : (t : Tree) (dir : Path) (es : List Entry) (digits : List ℕ) → IsListing t dir es → AreDigits es digits → (digit : ℕ) → Contains digits digit ↔ HasSubdir t dir digit
digits_there t dir es digits listing are digit = (there, back)
  where
    there : Contains digits digit → HasSubdir t dir digit
    there has =
        let found = are.each digit has in
        let e = found.0 in
        let held = (listing.entries e).0 found.1 in
        let own : HasDigit e digit = found.2 in
        (own.0, (held.0, ap (λ (s : Path). t.at (dir ++ s)) (sym own.2) ∙ held.2, kind_dir (t.node held.0).dir e.kind held.3 own.1))

    back : HasSubdir t dir digit → Contains digits digit
    back sub =
        let e : Entry = record { step = name_of digit ∷ []; kind = Dir } in
        let has : Contains es e = (listing.entries e).1 (sub.1.0, refl, sub.1.1, sym (ap kind_of sub.1.2)) in
        All-contains (λ (x : Entry). (d : ℕ) → HasDigit x d → Contains digits d) es e are.whole has digit (sub.0, refl, refl)
