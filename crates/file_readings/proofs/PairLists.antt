-- The pairs of an object's file are those of the object.
use Rattle.std.proofs.Common.{◌≡◌, ⊎_elim, ℕ, Bool, true, false, cond, List, [], ◌∷◌, length, get_or, map as map_list, refl, sym, ◌∙◌, ap, subst, arith, Option, Some, None, is_some}
use Rattle.std.specs.Prelude.{Contains}
use Rattle.std.specs.declared.cmp.Ordering.{Ordering}
use Rattle.std.specs.declared.cmp.Ordering.TheVariants.{Less, Equal, Greater}
use Rattle.std.specs.Ordering.{nat_cmp, is_eq, eq_by_cmp}
use Rattle.std.specs.Cmp.{eq_by_cmp_equiv}
use Rattle.std.specs.Cmp.Lexicographic.{slice_cmp, nat_list_cmp_total}
use Rattle.std.specs.List.Sorted.{IsStrictlySortedBy}
use Rattle.std.specs.FinMap as map
use Rattle.std.specs.FinMap.Entries.{find}
use Rattle.std.proofs.lemmas.Bool.{cases_Bool}
use Rattle.std.proofs.lemmas.List.Elements.{Contains-append_right, Contains-append_cases}
use Rattle.tree_api.specs.Tree.{Version}
use Rattle.object_file.specs.Attrs.{ArePairs, pair_names}
use Rattle.object_file.specs.declared.attrs.AttrPair.{AttrPair}
use Rattle.fs_model.specs.declared.pair.Pair.{Pair}
use Rattle.fs_model.specs.Objects.{Object, ByteMap}
use Rattle.fs_model.proofs.Maps.{bytes_suit, entries-view}
use Rattle.tree_shows.specs.Shows.{IsFileOf}
use Rattle.file_readings.specs.Pairs.{pairs_of, pair_of}
use Rattle.file_readings.proofs.Ordered.{sorted_steps}

abbrev bytes_find : List ℕ → List (List ℕ × List ℕ) → Option (List ℕ)
bytes_find = find (slice_cmp nat_cmp)

abbrev tied : List ℕ → List ℕ → Bool
tied = eq_by_cmp (slice_cmp nat_cmp)

abbrev named : List ℕ → List ℕ → AttrPair
named name value = record { name = name; value = value }

abbrev as_entries : List AttrPair → List (List ℕ × List ℕ)
as_entries = map_list (λ p. (p.name, p.value))

abbrev entry_pair : List ℕ × List ℕ → Pair
entry_pair e = record { key = e.0; value = e.1 }

tie : (r : Ordering) → is_eq r ≡ true → r ≡ Equal
tie Less e = cc
tie Equal e = refl
tie Greater e = cc

itself : (x : List ℕ) → tied x x ≡ true
itself x = (eq_by_cmp_equiv nat_list_cmp_total).refl x

is_tied : (x y : List ℕ) → tied x y ≡ true → x ≡ y
is_tied x y e = bytes_suit.same x y (tie (slice_cmp nat_cmp x y) e)

one_in : (p : AttrPair) (ps : List AttrPair) → Contains (p ∷ ps) p
one_in p ps = (0, omega arith, refl)

not_in : (p : AttrPair) → Contains [] p → ⊥
not_in p has = omega (arith, has.1)

the_one : (x y : AttrPair) → Contains (x ∷ []) y → y ≡ x
the_one x y has =
    let z : has.0 ≡ 0 = omega (arith, has.1) in
    sym has.2 ∙ ap (λ (i : ℕ). get_or (x ∷ []) i y) z

-- what is found is there
found_in : (name value : List ℕ) (ps : List AttrPair) → bytes_find name (as_entries ps) ≡ Some value → Contains ps (named name value)
found_in name value [] e = cc
found_in name value (p ∷ ps) e = ⊎_elim here
    (λ f. Contains-append_right (p ∷ []) ps (named name value) (found_in name value ps (step false f)))
    (cases_Bool (tied name p.name))
  where
    step : (b : Bool) → tied name p.name ≡ b → cond b (Some p.value) (bytes_find name (as_entries ps)) ≡ Some value
    step b is = sym (ap (λ (t : Bool). cond t (Some p.value) (bytes_find name (as_entries ps))) is) ∙ e

    here : tied name p.name ≡ true → Contains (p ∷ ps) (named name value)
    here t =
        let v : Some p.value ≡ Some value = step true t in
        let values : p.value ≡ value = cc in
        let names : p.name ≡ name = sym (is_tied name p.name t) in
        let same : p ≡ named name value = λ i. named (names i) (values i) in
        subst (λ (q : AttrPair). Contains (p ∷ ps) q) same (one_in p ps)

-- what is there is found
has_key : (name value : List ℕ) (ps : List AttrPair) → Contains ps (named name value) → is_some (bytes_find name (as_entries ps)) ≡ true
has_key name value [] has = absurd (not_in (named name value) has)
has_key name value (p ∷ ps) has = ⊎_elim here (λ in_. later (has_key name value ps in_)) (Contains-append_cases (p ∷ []) ps (named name value) has)
  where
    at : (b : Bool) → tied name p.name ≡ b → is_some (bytes_find name (as_entries (p ∷ ps))) ≡ is_some (cond b (Some p.value) (bytes_find name (as_entries ps)))
    at b is = ap (λ (t : Bool). is_some (cond t (Some p.value) (bytes_find name (as_entries ps)))) is

    here : Contains (p ∷ []) (named name value) → is_some (bytes_find name (as_entries (p ∷ ps))) ≡ true
    here first =
        let same : name ≡ p.name = ap (λ (q : AttrPair). q.name) (the_one p (named name value) first) in
        at true (ap (tied name) (sym same) ∙ itself name)

    later : is_some (bytes_find name (as_entries ps)) ≡ true → is_some (bytes_find name (as_entries (p ∷ ps))) ≡ true
    later found = ⊎_elim (λ t. at true t) (λ f. at false f ∙ found) (cases_Bool (tied name p.name))

names_are : (ps : List AttrPair) → map_list (λ e. e.0) (as_entries ps) ≡ pair_names ps
names_are [] = refl
names_are (p ∷ ps) = ap (λ (l : List (List ℕ)). p.name ∷ l) (names_are ps)

module _ (v : Version) (x : Object) (ps : List AttrPair) (file : IsFileOf v x) (are : ArePairs v ps) where
  no_value : (name : List ℕ) → bytes_find name (as_entries ps) ≡ None → (o : Option (List ℕ)) → map.get x.attrs name ≡ o → None ≡ o
  no_value name none None is = refl
  no_value name none (Some value) is =
      let there = has_key name value ps ((are.all (named name value)).1 (file.attrs name ∙ is)) in
      let z : false ≡ true = sym (ap is_some none) ∙ there in
      cc

  by_name : (name : List ℕ) (o : Option (List ℕ)) → bytes_find name (as_entries ps) ≡ o → o ≡ map.get x.attrs name
  by_name name None is = no_value name is (map.get x.attrs name) refl
  by_name name (Some value) is = sym ((are.all (named name value)).0 (found_in name value ps is)) ∙ file.attrs name

  same_attrs : map.from_entries (as_entries ps) ≡ x.attrs
  same_attrs = map.same_map bytes_suit.total bytes_suit.same (map.from_entries (as_entries ps)) x.attrs
      (λ name. map.get-from_entries bytes_suit.total (as_entries ps) name ∙ by_name name (bytes_find name (as_entries ps)) refl)

  entries_are : as_entries ps ≡ map.entries x.attrs
  entries_are =
      sym (entries-view bytes_suit.total bytes_suit.same (as_entries ps) (subst (IsStrictlySortedBy (slice_cmp nat_cmp)) (sym (names_are ps)) (sorted_steps (pair_names ps) are.rising)))
      ∙ ap (λ (m : ByteMap). map.entries m) same_attrs

  pub pairs_are : map_list pair_of ps ≡ pairs_of x.attrs
  pairs_are = over ps ∙ ap (map_list entry_pair) entries_are
    where
      over : (l : List AttrPair) → map_list pair_of l ≡ map_list entry_pair (as_entries l)
      over [] = refl
      over (p ∷ l) = ap (λ (r : List Pair). pair_of p ∷ r) (over l)

-- there are none where the map is empty
none_long : {X : Type 0} (l : List X) → length l ≡ 0 → l ≡ []
none_long [] n = refl
none_long (x ∷ l) n = absurd (omega (arith, n))

pub no_pairs : pairs_of map.empty ≡ []
no_pairs = ap (map_list entry_pair) (none_long (map.entries (map.empty {X = List ℕ} {R = slice_cmp nat_cmp})) (sym (map.len-entries (map.empty {X = List ℕ} {R = slice_cmp nat_cmp})) ∙ map.len-empty (slice_cmp nat_cmp) (List ℕ)))
