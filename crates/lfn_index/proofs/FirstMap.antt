-- The map of a directory whose files were listed.
use Rattle.std.proofs.Common.{◌≡◌, ◌⊎◌, inl, inr, ⊎_elim, ℕ, zero, suc, ◌<◌, List, [], ◌∷◌, length, get_or, All, Contains, refl, sym, ◌∙◌, ap, subst, Some, None, arith}
use Rattle.std.proofs.lemmas.Bool.{cases_Bool, cases_lt, cond-true, cond-false, false≢true}
use Rattle.std.proofs.lemmas.Slice.Eq.{bytes_eq-Decides}
use Rattle.std.specs.Str.{bytes_eq}
use Rattle.fs_names.specs.declared.oid.Oid.{Oid}
use Rattle.fs_names.specs.declared.settings.Settings.{Settings}
use Rattle.fs_names.specs.Reading.{OidFits}
use Rattle.fs_names.specs.Text.{oid_text}
use Rattle.tree_api.specs.Answer.{Before}
use Rattle.tree_api.specs.Tree.{Path, Tree}
use Rattle.tree_api.proofs.Images.{same_some}
use Rattle.lfn_index.specs.declared.listing.Found.{Found}
use Rattle.lfn_index.specs.Directory.{entry, HasFile, IsFileOf}
use Rattle.lfn_index.specs.Listing.{IsSubdir, IsFileAt, IsFound, AreNames}
use Rattle.lfn_index.specs.Maps.{Map, IsMap, map_of}
use Rattle.lfn_index.proofs.Once.{same_text}

before_or : (x y : List ℕ) → (x ≡ y) ⊎ Before x y ⊎ Before y x
before_or [] [] = inl refl
before_or [] (y ∷ ys) = inr (inl tt)
before_or (x ∷ xs) [] = inr (inr tt)
before_or (x ∷ xs) (y ∷ ys) = elim (cases_lt x y) [
  | inl less ↦ inr (inl (inl less))
  | inr not ↦ elim (cases_lt y x) [
    | inl more ↦ inr (inr (inl more))
    | inr nor ↦
        let same : x ≡ y = omega (arith, not, nor) in
        ⊎_elim (λ rest. inl cc) (λ order. inr (⊎_elim (λ lt. inl (inr (same, lt))) (λ gt. inr (inr (sym same, gt))) order)) (before_or xs ys)
  ]
]

module _ (set : Settings) (t : Tree) (dir : Path) where
  abbrev F : Found → Type 0
  F f = (step : List ℕ) × IsFound set t dir f step

  rest_all : (f : Found) (fs : List Found) → All F (f ∷ fs) → All F fs
  rest_all f fs each k d lt = each (suc k) d (omega (arith, lt))

  node_at : (o : Oid) (step : List ℕ) (n : ℕ) → t.at (entry dir step) ≡ Some n → IsFileAt set t dir o step → IsFileOf set t dir o step n
  node_at o step n here file = subst (IsFileOf set t dir o step) (same_some file.0 n (sym file.1.1.here ∙ here)) file.1

  found_there : (fs : List Found) → All F fs → (o : Oid) (n : ℕ) → map_of t fs o ≡ Some n → (step : List ℕ) × HasFile set t dir (oid_text o) step n
  found_there [] each o n is = absurd (let z : None ≡ Some n = is in cc)
  found_there (f ∷ fs) each o n is = elim (cases_Bool (bytes_eq (oid_text f.oid) (oid_text o))) [
    | inl equal ↦
        let found : F f = each 0 f (omega arith) in
        let text : oid_text f.oid ≡ oid_text o = (bytes_eq-Decides (oid_text f.oid) (oid_text o)).0 equal in
        let at : t.at f.path ≡ Some n = sym (cond-true (bytes_eq (oid_text f.oid) (oid_text o)) (t.at f.path) (map_of t fs o) equal) ∙ is in
        let here : t.at (entry dir found.0) ≡ Some n = ap t.at (sym found.1.0) ∙ at in
        (found.0, subst (λ x. HasFile set t dir x found.0 n) text (node_at f.oid found.0 n here found.1.1).1)
    | inr other ↦ found_there fs (rest_all f fs each) o n (sym (cond-false (bytes_eq (oid_text f.oid) (oid_text o)) (t.at f.path) (map_of t fs o) other) ∙ is)
  ]

  -- each file of the object stands where node n does
  abbrev Only : List Found → Oid → ℕ → Type 0
  Only fs o n = (f : Found) → Contains fs f → f.oid ≡ o → t.at f.path ≡ Some n

  rest_only : (f : Found) (fs : List Found) (o : Oid) (n : ℕ) → Only (f ∷ fs) o n → Only fs o n
  rest_only f fs o n all g has = all g (suc has.0, omega (arith, has.1), has.2)

  in_rest : (f : Found) (fs : List Found) (x : Found) → (f ≡ x → ⊥) → (k : ℕ) → k < length (f ∷ fs) → get_or (f ∷ fs) k x ≡ x → Contains fs x
  in_rest f fs x not zero lt at = absurd (not at)
  in_rest f fs x not (suc k) lt at = (k, omega (arith, lt), at)

  found_first : (fs : List Found) → All F fs → (o : Oid) (n : ℕ) → OidFits o → Only fs o n → (x : Found) → Contains fs x → x.oid ≡ o → map_of t fs o ≡ Some n
  found_first [] each o n fits all x has is = absurd (omega (arith, has.1))
  found_first (f ∷ fs) each o n fits all x has is = elim (cases_Bool (bytes_eq (oid_text f.oid) (oid_text o))) [
    | inl equal ↦
        let found : F f = each 0 f (omega arith) in
        let same : f.oid ≡ o = same_text f.oid o found.1.1.1.0 fits ((bytes_eq-Decides (oid_text f.oid) (oid_text o)).0 equal) in
        cond-true (bytes_eq (oid_text f.oid) (oid_text o)) (t.at f.path) (map_of t fs o) equal ∙ all f (0, omega arith, refl) same
    | inr other ↦
        let differ : f ≡ x → ⊥ = λ at. false≢true (sym other ∙ (bytes_eq-Decides (oid_text f.oid) (oid_text o)).1 (ap (λ (y : Found). oid_text y.oid) at ∙ ap oid_text is)) in
        cond-false (bytes_eq (oid_text f.oid) (oid_text o)) (t.at f.path) (map_of t fs o) other
        ∙ found_first fs (rest_all f fs each) o n fits (rest_only f fs o n all) x (in_rest f fs x differ has.0 has.1 has.2) is
  ]

  pub names_map : (fs : List Found) → AreNames set t dir fs → IsMap set t dir (map_of t fs)
  names_map fs names = record {
    files = λ o step n file. let listed = names.whole o step (n, file) in found_first fs names.each o n file.0 (only o step n file) listed.0 listed.1 listed.2;
    there = λ o n fits is. found_there fs names.each o n is;
    known = λ step n here.
        ⊎_elim (λ sub. inr sub) (λ old. inl (old.0.oid, node_at old.0.oid step n here old.2.1)) (names.known step (λ none. let z : None ≡ Some n = sym none ∙ here in cc));
  }
    where
      same_step : (o : Oid) (a b : List ℕ) → IsFileAt set t dir o a → IsFileAt set t dir o b → a ≡ b
      same_step o a b one two =
          ⊎_elim
          (λ same. same)
          (λ order. ⊎_elim (λ lt. absurd (names.undamaged b (inr (o, a, lt, one, two)))) (λ gt. absurd (names.undamaged a (inr (o, b, gt, two, one)))) order)
          (before_or a b)

      only : (o : Oid) (step : List ℕ) (n : ℕ) → IsFileOf set t dir o step n → Only fs o n
      only o step n file f has is =
          let found : F f = subst F has.2 (names.each has.0 f has.1) in
          let own : IsFileAt set t dir o found.0 = subst (λ (x : Oid). IsFileAt set t dir x found.0) is found.1.1 in
          ap t.at (found.1.0 ∙ ap (entry dir) (same_step o found.0 step own (n, file))) ∙ file.1.here
