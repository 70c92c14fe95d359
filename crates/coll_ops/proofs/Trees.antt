-- How many trees the trash has.
use Rattle.std.proofs.Common.{◌≡◌, ◌≢◌, ◌⊎◌, inl, inr, ⊎_elim, ℕ, suc, ◌+◌, ◌-◌, ◌<◌, Bool, true, false, not, List, [], ◌∷◌, ◌++◌, length, Contains, refl, sym, ◌∙◌, ap, subst, arith, Option, Some, None}
use Rattle.std.specs.Prelude.{◌↔◌, IsTrue}
use Rattle.std.proofs.lemmas.List.Elements.{Contains-append_left, Contains-append_right, Contains-append_cases, Contains-push, Contains-push_cases}
use Rattle.fs_names.specs.declared.coll.Coll.{Coll}
use Rattle.fs_names.specs.declared.settings.Pos.{Pos}
use Rattle.tree_api.specs.Answer.{Before, RisingSteps, HaveSteps, IsListing, kind_of}
use Rattle.tree_api.specs.Tree.{Path, Version, Tree, held, look}
use Rattle.tree_api.specs.declared.tree.Entry.{Entry}
use Rattle.tree_api.proofs.Nodes.{dec_bytes}
use Rattle.lfn_index.specs.Directory.{entry}
use Rattle.lfn_index.specs.Changes.{place_name}
use Rattle.lfn_index.proofs.Seen.{before_joins, never_before}
use Rattle.op_effects.specs.Ready.{trash}
use Rattle.coll_ops.specs.Places.{trash_at}
use Rattle.coll_ops.specs.Trash.{AreApart, HasTrees, TreesAfter, TreesLeft, PlaceAfter, FirstGone, FirstGoes}
use Rattle.coll_ops.proofs.Paths.{trash_entry_off}

-- elements of a list with a first one
cons_has : {X : Type 0} (x : X) (xs : List X) (y : X) → Contains xs y → Contains (x ∷ xs) y
cons_has x xs y has = Contains-append_right (x ∷ []) xs y has

cons_first : {X : Type 0} (x : X) (xs : List X) → Contains (x ∷ xs) x
cons_first x xs = Contains-append_left (x ∷ []) xs x (Contains-push [] x)

none_has : {X : Type 0} (y : X) → Contains {X = X} [] y → ⊥
none_has y has = omega (arith, has.1)

cons_cases : {X : Type 0} (x : X) (xs : List X) (y : X) → Contains (x ∷ xs) y → (y ≡ x) ⊎ Contains xs y
cons_cases x xs y has =
    ⊎_elim (λ one. ⊎_elim (λ none. absurd (none_has y none)) (λ same. inl (sym same)) (Contains-push_cases [] x y one)) (λ more. inr more) (Contains-append_cases (x ∷ []) xs y has)

-- a list without one of its elements
record Less (xs : List (List ℕ)) (s : List ℕ) : Type 0 where
  left : List (List ℕ)
  apart : AreApart left
  count : length xs ≡ length left + 1
  each : (y : List ℕ) → Contains left y → Contains xs y × (y ≢ s)
  back : (y : List ℕ) → Contains xs y → y ≢ s → Contains left y

less_one : (xs : List (List ℕ)) → AreApart xs → (s : List ℕ) → Contains xs s → Less xs s
less_one [] apart s has = absurd (none_has s has)
less_one (x ∷ xs) apart s has = by (λ is. less_one xs apart.1 s is) (dec_bytes x s)
  where
    by : (Contains xs s → Less xs s) → (x ≡ s) ⊎ (x ≡ s → ⊥) → Less (x ∷ xs) s
    by rest (inl same) = record {
      left = xs;
      apart = apart.1;
      count = omega arith;
      each = λ y is. (cons_has x xs y is, λ eq. apart.0 (subst (Contains xs) (eq ∙ sym same) is));
      back = λ y is differ. ⊎_elim (λ eq. absurd (differ (eq ∙ same))) (λ more. more) (cons_cases x xs y is);
    }
    by rest (inr differ) =
        let more = rest (⊎_elim (λ eq. absurd (differ (sym eq))) (λ is. is) (cons_cases x xs s has)) in
        record {
          left = x ∷ more.left;
          apart = (λ is. apart.0 (more.each x is).0, more.apart);
          count = omega (arith, more.count);
          each = λ y is. ⊎_elim (λ eq. (subst (Contains (x ∷ xs)) (sym eq) (cons_first x xs), λ at. differ (sym eq ∙ at))) (λ later. let e = more.each y later in (cons_has x xs y e.0, e.1)) (cons_cases x more.left y is);
          back = λ y is off. ⊎_elim (λ eq. subst (Contains (x ∷ more.left)) (sym eq) (cons_first x more.left)) (λ later. cons_has x more.left y (more.back y later off)) (cons_cases x xs y is);
        }

-- the first tree goes
pub one_less : (t u : Tree) (n : ℕ) → FirstGone trash t u → HasTrees t n → (0 < n) × HasTrees u (n - 1)
one_less t u n gone has = (
  omega (arith, less.count, has.count),
  record { steps = less.left; apart = less.apart; each = λ s. (there s, back s); count = omega (arith, less.count, has.count) },
)
  where
    less : Less has.steps gone.step
    less = less_one has.steps has.apart gone.step ((has.each gone.step).1 gone.first.there)

    same : (s : List ℕ) → s ≢ gone.step → u.at (entry trash s) ≡ t.at (entry trash s)
    same s differ = gone.others (entry trash s) (λ w. trash_entry_off gone.step s differ w)

    there : (s : List ℕ) → Contains less.left s → u.at (entry trash s) ≢ None
    there s is none = let e = less.each s is in (has.each s).0 e.0 (sym (same s e.1) ∙ none)

    back : (s : List ℕ) → u.at (entry trash s) ≢ None → Contains less.left s
    back s is =
        let differ : s ≢ gone.step = λ eq. is (ap (λ (x : List ℕ). u.at (entry trash x)) eq ∙ gone.gone) in
        less.back s ((has.each s).1 (λ none. is (same s differ ∙ none))) differ

-- no tree is there
none_left : (t : Tree) (n : ℕ) → ((s : List ℕ) → t.at (entry trash s) ≡ None) → HasTrees t n → n ≡ 0
none_left t n none has = by has.steps refl
  where
    by : (xs : List (List ℕ)) → has.steps ≡ xs → n ≡ 0
    by [] is = sym has.count ∙ ap length is
    by (x ∷ xs) is = absurd ((has.each x).0 (subst (λ (l : List (List ℕ)). Contains l x) (sym is) (cons_first x xs)) (none x))

along_names : (t u : Tree) (n : ℕ) → ((s : List ℕ) → u.at (entry trash s) ≡ t.at (entry trash s)) → HasTrees t n → HasTrees u n
along_names t u n same has = record {
  steps = has.steps;
  apart = has.apart;
  each = λ s. ((λ is none. (has.each s).0 is (sym (same s) ∙ none)), (λ is. (has.each s).1 (λ none. is (same s ∙ none))));
  count = has.count;
}

-- what looks the same has as many
pub looks_trees : (t u : Tree) (n : ℕ) → ((s : List ℕ) → look u (entry trash s) ≡ look t (entry trash s)) → HasTrees t n → HasTrees u n
looks_trees t u n same has = record {
  steps = has.steps;
  apart = has.apart;
  each = λ s. ((λ is none. (has.each s).0 is (looks_none u t (entry trash s) (sym (same s)) none)), (λ is. (has.each s).1 (λ none. is (looks_none t u (entry trash s) (same s) none))));
  count = has.count;
}
  where
    no_some : (v : Version) → None ≡ Some v → ⊥
    no_some v e = cc

    looks_none : (a b : Tree) (q : Path) → look b q ≡ look a q → a.at q ≡ None → b.at q ≡ None
    looks_none a b q looks none = by (b.at q) refl
      where
        by : (o : Option ℕ) → b.at q ≡ o → b.at q ≡ None
        by None is = is
        by (Some k) is = absurd (no_some (b.node k) (sym (sym (ap (λ (x : Option ℕ). held x b.node) is) ∙ looks ∙ ap (λ (x : Option ℕ). held x a.node) none)))

pub left_after : (t u : Tree) (n : ℕ) (swept : Bool) → FirstGoes trash t u swept → HasTrees t n → TreesLeft n u swept
left_after t u n true goes has = one_less t u n goes has
left_after t u n false goes has =
    let zero : n ≡ 0 = none_left t n goes.0 has in
    (zero, along_names t u 0 (λ s. ap (λ (f : _). f (entry trash s)) goes.1) (subst (HasTrees t) zero has))

-- a collection that goes there
module _ (coll : Coll) (pos : Pos) (t u : Tree) (n : ℕ) (others : (s : List ℕ) → s ≢ place_name pos → u.at (entry trash s) ≡ t.at (entry trash s)) (has : HasTrees t n) where
  more_trees : t.at (trash_at pos) ≡ None → u.at (trash_at pos) ≢ None → HasTrees u (n + 1)
  more_trees free there = record {
    steps = place_name pos ∷ has.steps;
    apart = (λ is. (has.each (place_name pos)).0 is free, has.apart);
    each = λ s. (in_u s, back s);
    count = omega (arith, has.count);
  }
    where
      in_u : (s : List ℕ) → Contains (place_name pos ∷ has.steps) s → u.at (entry trash s) ≢ None
      in_u s is none =
          ⊎_elim
          (λ eq. there (ap (λ (x : List ℕ). u.at (entry trash x)) (sym eq) ∙ none))
          (λ more.
          let was = (has.each s).0 more in
          was (sym (others s (λ eq. was (ap (λ (x : List ℕ). t.at (entry trash x)) eq ∙ free))) ∙ none))
          (cons_cases (place_name pos) has.steps s is)

      back : (s : List ℕ) → u.at (entry trash s) ≢ None → Contains (place_name pos ∷ has.steps) s
      back s is =
          ⊎_elim
          (λ eq. subst (Contains (place_name pos ∷ has.steps)) (sym eq) (cons_first (place_name pos) has.steps))
          (λ differ. cons_has (place_name pos) has.steps s ((has.each s).1 (λ none. is (others s differ ∙ none))))
          (dec_bytes s (place_name pos))

  same_trees : (t.at (trash_at pos) ≡ None) ↔ (u.at (trash_at pos) ≡ None) → HasTrees u n
  same_trees place = record {
    steps = has.steps;
    apart = has.apart;
    each = λ s. (in_u s, back s);
    count = has.count;
  }
    where
      in_u : (s : List ℕ) → Contains has.steps s → u.at (entry trash s) ≢ None
      in_u s is none =
          ⊎_elim
          (λ eq. (has.each s).0 is (ap (λ (x : List ℕ). t.at (entry trash x)) eq ∙ place.1 (ap (λ (x : List ℕ). u.at (entry trash x)) (sym eq) ∙ none)))
          (λ differ. (has.each s).0 is (sym (others s differ) ∙ none))
          (dec_bytes s (place_name pos))

      back : (s : List ℕ) → u.at (entry trash s) ≢ None → Contains has.steps s
      back s is = (has.each s).1 (λ none.
          ⊎_elim
          (λ eq. is (ap (λ (x : List ℕ). u.at (entry trash x)) eq ∙ place.0 (ap (λ (x : List ℕ). t.at (entry trash x)) (sym eq) ∙ none)))
          (λ differ. is (others s differ ∙ none))
          (dec_bytes s (place_name pos)))

  pub trees_after : (grew : Bool) → PlaceAfter (t.at (trash_at pos)) (u.at (trash_at pos)) grew → TreesAfter n u grew
  trees_after true place = more_trees place.0 place.1
  trees_after false place = same_trees place

pub place_after : (stood : Bool) (was now : Option ℕ) → IsTrue stood ↔ (was ≢ None) → now ≢ None → PlaceAfter was now (not stood)
place_after true was now is there = (λ none. absurd (is.0 refl none), λ none. absurd (there none))
place_after false None now is there = (refl, there)
place_after false (Some k) now is there = absurd (let z : false ≡ true = is.1 (λ e. cc) in cc)

-- what a listing counts
have_length : (es : List Entry) (ss : List (List ℕ)) → HaveSteps es ss → length ss ≡ length es
have_length [] [] have = refl
have_length [] (s ∷ ss) have = absurd have
have_length (e ∷ es) [] have = absurd have
have_length (e ∷ es) (s ∷ ss) have = ap suc (have_length es ss have.1)

have_entry : (es : List Entry) (ss : List (List ℕ)) → HaveSteps es ss → (s : List ℕ) → Contains ss s → (e : Entry) × Contains es e × (e.step ≡ s ∷ [])
have_entry [] [] have s is = absurd (none_has s is)
have_entry [] (x ∷ ss) have s is = absurd have
have_entry (e ∷ es) [] have s is = absurd have
have_entry (e ∷ es) (x ∷ ss) have s is =
    ⊎_elim
    (λ eq. (e, cons_first e es, have.0 ∙ ap (λ (y : List ℕ). y ∷ []) (sym eq)))
    (λ more. let found = have_entry es ss have.1 s more in (found.0, cons_has e es found.0 found.1, found.2))
    (cons_cases x ss s is)

have_step : (es : List Entry) (ss : List (List ℕ)) → HaveSteps es ss → (e : Entry) (s : List ℕ) → Contains es e → e.step ≡ s ∷ [] → Contains ss s
have_step [] ss have e s is at = absurd (none_has e is)
have_step (x ∷ es) [] have e s is at = absurd have
have_step (x ∷ es) (y ∷ ss) have e s is at =
    ⊎_elim
    (λ eq.
    let z : y ∷ [] ≡ s ∷ [] = sym have.0 ∙ ap (λ (w : Entry). w.step) (sym eq) ∙ at in
    let same : y ≡ s = cc in
    subst (Contains (y ∷ ss)) same (cons_first y ss))
    (λ more. cons_has y ss s (have_step es ss have.1 e s more at))
    (cons_cases x es e is)

first_less : (x : List ℕ) (xs : List (List ℕ)) → RisingSteps (x ∷ xs) → (y : List ℕ) → Contains xs y → Before x y
first_less x [] rising y is = absurd (none_has y is)
first_less x (z ∷ zs) rising y is = ⊎_elim (λ eq. subst (Before x) (sym eq) rising.0) (λ more. before_joins x z y rising.0 (first_less z zs rising.1 y more)) (cons_cases z zs y is)

rising_apart : (xs : List (List ℕ)) → RisingSteps xs → AreApart xs
rising_apart [] rising = tt
rising_apart (x ∷ []) rising = (λ is. none_has x is, tt)
rising_apart (x ∷ y ∷ ys) rising = (λ is. never_before x (first_less x (y ∷ ys) rising x is), rising_apart (y ∷ ys) rising.1)

pub listed_trees : (t : Tree) (es : List Entry) → IsListing t trash es → HasTrees t (length es)
listed_trees t es listing = record {
  steps = listing.steps;
  apart = rising_apart listing.steps listing.rising;
  each = λ s. (there s, back s);
  count = have_length es listing.steps listing.have;
}
  where
    there : (s : List ℕ) → Contains listing.steps s → t.at (entry trash s) ≢ None
    there s is none =
        let found = have_entry es listing.steps listing.have s is in
        let here = (listing.entries found.0).0 found.1 in
        let z : None ≡ Some here.0 = sym none ∙ ap (λ (x : Path). t.at (trash ++ x)) (sym found.2) ∙ here.2 in
        cc

    back : (s : List ℕ) → t.at (entry trash s) ≢ None → Contains listing.steps s
    back s is = by (t.at (entry trash s)) refl
      where
        by : (o : Option ℕ) → t.at (entry trash s) ≡ o → Contains listing.steps s
        by None none = absurd (is none)
        by (Some k) at =
            let e : Entry = record { step = s ∷ []; kind = kind_of (t.node k).dir } in
            have_step es listing.steps listing.have e s ((listing.entries e).1 (k, refl, at, refl)) refl

pub counted_trees : (t : Tree) (dir : Path) (es : List Entry) (n : ℕ) → dir ≡ trash → n ≡ length es → IsListing t dir es → HasTrees t n
counted_trees t dir es n same count listing = subst (HasTrees t) (sym count) (listed_trees t es (subst (λ (p : Path). IsListing t p es) same listing))
