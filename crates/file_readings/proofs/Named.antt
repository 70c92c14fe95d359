-- The collections among the entries of `current` are those of the store.
use Rattle.std.proofs.Common.{◌≡◌, ⊎_elim, ℕ, ◌+◌, ◌<◌, Bool, true, false, List, [], ◌∷◌, ◌++◌, length, get_or, take, refl, sym, ◌∙◌, ap, subst, arith, append_assoc, Option, Some, None, is_some}
use Rattle.std.specs.Prelude.{Contains, IfSome, option_to_list}
use Rattle.std.specs.List.{AllByRecursion, list_any}
use Rattle.std.specs.declared.cmp.Ordering.{Ordering}
use Rattle.std.specs.declared.cmp.Ordering.TheVariants.{Less}
use Rattle.std.specs.Option.{option_map}
use Rattle.std.specs.Ordering.{nat_cmp, ordering_then, eq_by_cmp}
use Rattle.std.specs.Cmp.{eq_by_cmp_equiv}
use Rattle.std.specs.Cmp.Derive.{one_truth}
use Rattle.std.specs.Cmp.Lexicographic.{slice_cmp}
use Rattle.std.specs.FinMap as map
use Rattle.std.proofs.lemmas.List.{append-nil, take_more}
use Rattle.std.proofs.lemmas.List.Elements.{Contains-append_left, Contains-append_right, Contains-append_cases}
use Rattle.std.proofs.lemmas.Map.Views.{Contains-from_any, list_any-from_Contains}
use Rattle.fs_names.specs.declared.coll.Coll.{Coll}
use Rattle.fs_names.specs.declared.settings.Settings.{Settings}
use Rattle.fs_names.specs.Order.{coll_cmp, coll_key, coll_cmp_total, coll_cmp-IsAntisymmetric}
use Rattle.fs_names.specs.Reading.{CollFits, coll_of}
use Rattle.fs_names.specs.Text.{coll_text}
use Rattle.fs_names.proofs.CollLaw.{coll_texts_are_read, colls_read_are_spelled}
use Rattle.fs_cells.proofs.Looks.{is_coll}
use Rattle.fs_model.specs.Listing.{Rises}
use Rattle.fs_model.specs.Objects.{Objects}
use Rattle.fs_model.proofs.Listings.{keys-are}
use Rattle.tree_api.specs.Answer.{Before, RisingSteps, HaveSteps, IsListing, kind_of}
use Rattle.tree_api.specs.Tree.{Path, Version, Tree, held, current}
use Rattle.tree_api.specs.declared.tree.Entry.{Entry}
use Rattle.tree_api.specs.declared.tree.Kind.TheVariants.{File}
use Rattle.tree_stands.specs.Names.{coll_fits}
use Rattle.tree_stands.specs.Trees.{dir_of, dir_guard, guard_of}
use Rattle.tree_stands.proofs.Names.{both, fit_coll}
use Rattle.op_effects.specs.Clear.{IsClear}
use Rattle.tree_shows.specs.Shows.{Shows}
use Rattle.file_readings.specs.Listed.{coll_at, colls_in, HasCollFile}
use Rattle.file_readings.proofs.Found.{there}
use Rattle.file_readings.proofs.Ordered.{before_less, AllAfter, rising_rest, rising_after}

-- ---- one entry more

colls_append : (xs ys : List Entry) → colls_in (xs ++ ys) ≡ colls_in xs ++ colls_in ys
colls_append [] ys = refl
colls_append (x ∷ xs) ys =
    ap (λ (l : List Coll). option_to_list (coll_at x.step) ++ l) (colls_append xs ys) ∙ sym (append_assoc (option_to_list (coll_at x.step)) (colls_in xs) (colls_in ys))

pub colls_more : (es : List Entry) (i : ℕ) (item : Entry) (so_far now : List Coll) → i < length es → item ≡ get_or es i item → so_far ≡ colls_in (take i es)
    → now ≡ so_far ++ option_to_list (coll_at item.step) → now ≡ colls_in (take (i + 1) es)
colls_more es i item so_far now lt at before is =
    is ∙ ap (λ (l : List Coll). l ++ option_to_list (coll_at item.step)) before
    ∙ ap (λ (l : List Coll). colls_in (take i es) ++ l) (sym (append-nil (option_to_list (coll_at item.step))))
    ∙ sym (colls_append (take i es) (item ∷ []))
    ∙ ap (λ (x : Entry). colls_in (take i es ++ x ∷ [])) at ∙ ap colls_in (sym (take_more es i item lt))

-- ---- they rise

text_less : (c d : Coll) → Before (coll_text c) (coll_text d) → coll_cmp c d ≡ Less
unfolding coll_cmp
text_less c d lt =
    ap (λ (o : Ordering). ordering_then o (slice_cmp (slice_cmp nat_cmp) (coll_key c ∷ []) (coll_key d ∷ []))) (before_less (coll_text c) (coll_text d) lt)

is_below : (c : Coll) (s x : List ℕ) (o : Option Coll) → coll_text c ≡ s → Before s x → coll_of x ≡ o → IfSome o (λ d. coll_cmp c d ≡ Less)
is_below c s x None is lt at = tt
is_below c s x (Some d) is lt at =
    text_less c d (subst (λ (y : List ℕ). Before (coll_text c) y) (sym ((colls_read_are_spelled x d at).0)) (subst (λ (y : List ℕ). Before y x) (sym is) lt))

more_below : (c : Coll) (o : Option Coll) → IfSome o (λ d. coll_cmp c d ≡ Less) → (l : List Coll) → AllByRecursion (λ d. coll_cmp c d ≡ Less) l
    → AllByRecursion (λ d. coll_cmp c d ≡ Less) (option_to_list o ++ l)
more_below c None less l all = all
more_below c (Some d) less l all = (less, all)

below : (c : Coll) (s : List ℕ) → coll_text c ≡ s → (es : List Entry) (ss : List (List ℕ)) → HaveSteps es ss → AllAfter s ss → AllByRecursion (λ d. coll_cmp c d ≡ Less) (colls_in es)
below c s is [] [] have after = tt
below c s is [] (x ∷ ss) have after = absurd have
below c s is (e ∷ es) [] have after = absurd have
below c s is (e ∷ es) (x ∷ ss) have after =
    subst (λ (o : Option Coll). AllByRecursion (λ d. coll_cmp c d ≡ Less) (option_to_list o ++ colls_in es)) (sym (ap coll_at have.0))
    (more_below c (coll_of x) (is_below c s x (coll_of x) is after.0 refl) (colls_in es) (below c s is es ss have.1 after.1))

rise_more : (x : List ℕ) (o : Option Coll) → coll_of x ≡ o → (es : List Entry) (ss : List (List ℕ)) → HaveSteps es ss → AllAfter x ss → Rises coll_cmp (colls_in es)
    → Rises coll_cmp (option_to_list o ++ colls_in es)
rise_more x None at es ss have after rises = rises
rise_more x (Some c) at es ss have after rises = (below c x ((colls_read_are_spelled x c at).0) es ss have after, rises)

colls_rise : (es : List Entry) (ss : List (List ℕ)) → HaveSteps es ss → RisingSteps ss → Rises coll_cmp (colls_in es)
colls_rise [] [] have rising = tt
colls_rise [] (x ∷ ss) have rising = absurd have
colls_rise (e ∷ es) [] have rising = absurd have
colls_rise (e ∷ es) (x ∷ ss) have rising =
    subst (λ (o : Option Coll). Rises coll_cmp (option_to_list o ++ colls_in es)) (sym (ap coll_at have.0))
    (rise_more x (coll_of x) refl es ss have.1 (rising_after x ss rising) (colls_rise es ss have.1 (rising_rest x ss rising)))

-- ---- which there are

one_in : {X : Type 0} (x : X) (xs : List X) → Contains (x ∷ xs) x
one_in x xs = (0, omega arith, refl)

not_in : {X : Type 0} (x : X) → Contains [] x → ⊥
not_in x has = omega (arith, has.1)

the_one : {X : Type 0} (x y : X) → Contains (x ∷ []) y → y ≡ x
the_one x y has =
    let z : has.0 ≡ 0 = omega (arith, has.1) in
    sym has.2 ∙ ap (λ (i : ℕ). get_or (x ∷ []) i y) z

from_option : (o : Option Coll) (c : Coll) → Contains (option_to_list o) c → o ≡ Some c
from_option None c has = absurd (not_in c has)
from_option (Some d) c has = ap Some (sym (the_one d c has))

in_entries : (es : List Entry) (c : Coll) → Contains (colls_in es) c → (e : Entry) × Contains es e × (coll_at e.step ≡ Some c)
in_entries [] c has = absurd (not_in c has)
in_entries (e ∷ es) c has = ⊎_elim
    (λ first. (e, one_in e es, from_option (coll_at e.step) c first))
    (λ later. let f = in_entries es c later in (f.0, Contains-append_right (e ∷ []) es f.0 f.1, f.2))
    (Contains-append_cases (option_to_list (coll_at e.step)) (colls_in es) c has)

among : (es : List Entry) (e : Entry) (c : Coll) → Contains es e → coll_at e.step ≡ Some c → Contains (colls_in es) c
among [] e c has at = absurd (not_in e has)
among (x ∷ es) e c has at = ⊎_elim
    (λ first.
    let is : coll_at x.step ≡ Some c = ap (λ (y : Entry). coll_at y.step) (sym (the_one x e first)) ∙ at in
    Contains-append_left (option_to_list (coll_at x.step)) (colls_in es) c (subst (λ (o : Option Coll). Contains (option_to_list o) c) (sym is) (one_in c [])))
    (λ later. Contains-append_right (option_to_list (coll_at x.step)) (colls_in es) c (among es e c later at))
    (Contains-append_cases (x ∷ []) es e has)

step_of : (p : Path) (c : Coll) → coll_at p ≡ Some c → (s : List ℕ) × (p ≡ s ∷ []) × (coll_of s ≡ Some c)
step_of [] c at = cc
step_of (s ∷ []) c at = (s, refl, at)
step_of (s ∷ r ∷ rest) c at = cc

some_held : (node : ℕ → Version) (n : Option ℕ) → is_some (option_map guard_of (held n node)) ≡ true → (k : ℕ) × (n ≡ Some k)
some_held node None is = cc
some_held node (Some k) is = (k, refl)

module _ (t : Tree) (es : List Entry) (listing : IsListing t current es) where
  -- what an entry with a collection's text is
  record Stands (e : Entry) (c : Coll) : Type 0 where
    fits : CollFits c
    n : ℕ
    here : t.at (dir_of c) ≡ Some n
    kind : e.kind ≡ kind_of (t.node n).dir

  stands : (e : Entry) (c : Coll) → Contains es e → coll_at e.step ≡ Some c → Stands e c
  stands e c has at =
      let s = step_of e.step c at in
      let read = colls_read_are_spelled s.0 c s.2 in
      let l = (listing.entries e).0 has in
      record {
        fits = read.1;
        n = l.0;
        here = ap (λ (x : List ℕ). t.at (current ++ x ∷ [])) read.0 ∙ ap (λ (p : Path). t.at (current ++ p)) (sym s.1) ∙ l.2;
        kind = l.3;
      }

  file_kind : (b : Bool) → kind_of b ≡ File → b ≡ false
  file_kind true is = cc
  file_kind false is = refl

  -- no file stands in a collection's place
  pub no_coll_file : IsClear t → HasCollFile es → ⊥
  no_coll_file clear file =
      let s = stands file.0 file.2.0 file.1 file.2.1 in
      clear.free file.2.0 s.fits (s.n, s.here, file_kind (t.node s.n).dir (sym s.kind ∙ file.2.2))

  module _ (set : Settings) (O : Objects) (shows : Shows set O t) where
    is_one : (c : Coll) → Contains (colls_in es) c → map.contains_key O c ≡ true
    is_one c has =
        let e = in_entries es c has in
        let s = stands e.0 c e.1 e.2 in
        sym (shows.colls c) ∙ there t c s.fits s.n s.here

    is_in : (c : Coll) → map.contains_key O c ≡ true → Contains (colls_in es) c
    is_in c has =
        let two = both (coll_fits c) (is_some (dir_guard t c)) (shows.colls c ∙ has) in
        let at = some_held t.node (t.at (dir_of c)) two.1 in
        let e : Entry = record { step = coll_text c ∷ []; kind = kind_of (t.node at.0).dir } in
        among es e c ((listing.entries e).1 (at.0, refl, at.1, refl)) (coll_texts_are_read c (fit_coll c two.0))

    pub colls_are : colls_in es ≡ map.keys O
    colls_are = keys-are coll_cmp_total coll_cmp-IsAntisymmetric O (colls_in es) (colls_rise es listing.steps listing.have listing.rising)
        (λ c. one_truth (list_any (eq_by_cmp coll_cmp c) (colls_in es)) (map.contains_key O c)
        (λ any. is_one c (Contains-from_any is_coll c (colls_in es) any))
        (λ has. list_any-from_Contains (eq_by_cmp_equiv coll_cmp_total) c (colls_in es) (is_in c has)))
