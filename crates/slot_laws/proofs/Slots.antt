-- What a store with several transactions open keeps.
use Rattle.std.proofs.Common.{◌≡◌, ◌⊎◌, inl, inr, ℕ, zero, suc, ◌+◌, ◌-◌, ◌<◌, ◌≤◌, Bool, true, false, cond, List, [], ◌∷◌, ◌++◌, length, take, drop, get_or, set, Option, None, Some, refl, sym, ◌∙◌, ap, subst, arith}
use Rattle.std.proofs.lemmas.List.{take-append-drop}
use Rattle.replay_laws.specs.Replay.{Act, leaves, effect, Source, Raises, act, after, fold, GoodStart}
use Rattle.replay_laws.specs.Places.{AtEach, Still, Turned, Passed}
use Rattle.replay_laws.proofs.Walk.{replay_ends}
use Rattle.replay_laws.proofs.Carried.{fold_append}
use Rattle.replay_laws.proofs.Unique.{unique_law}
use Rattle.replay_laws.proofs.Keeps.{good as at_good}
use Rattle.replay_laws.proofs.Places.{keeps_one, idles_on, goes_back, more_ops, rebased, restarted}
use Rattle.slot_laws.specs.History.{Txn, txn, AllWithin, flat, count, Apart, Open, IsOpen, NoConflict, AreOpen, place, NoneBelow, line, state}
use Rattle.slot_laws.specs.Slots.{Reads, Image, DoesOp, StandsFor, again, above, SlotsLaw}
use Rattle.slot_laws.proofs.Flat.{count_grows, count_more, op_at, each_between, flat_more, above_is, above_length, above_none}

abbrev Holds : Bool → Type 0
Holds true = Unit {0}
Holds false = ⊥

pub not_both : (b : Bool) → b ≡ true → b ≡ false → ⊥
not_both b holds isnt = subst Holds (sym holds ∙ isnt) tt

pub true_or_false : (b : Bool) → (b ≡ true) ⊎ (b ≡ false)
true_or_false true = inl refl
true_or_false false = inr refl

other_side : {A B : Type 0} → (A ⊎ B) → B ⊎ A
other_side (inl a) = inr a
other_side (inr b) = inl b

module _ {C V : Type 0} (ts : List (Txn C V)) where
  abbrev NoneNames : C → List (Option Open) → Type 0
  NoneNames x [] = Unit {0}
  NoneNames x (None ∷ slots) = NoneNames x slots
  NoneNames x (Some o ∷ slots) = ((txn ts o.index).names x ≡ false) × NoneNames x slots

  abbrev Misses : C → Option Open → Type 0
  Misses x None = Unit {0}
  Misses x (Some o) = (txn ts o.index).names x ≡ false

  pub apart_at : (a b : Txn C V) (x : C) → Apart a b → a.names x ≡ true → b.names x ≡ false
  apart_at a b x apart is = by (apart x)
    where
      by : (a.names x ≡ false) ⊎ (b.names x ≡ false) → b.names x ≡ false
      by (inl isnt) = absurd (not_both (a.names x) is isnt)
      by (inr isnt) = isnt

  turned_round : (a b : Txn C V) → Apart a b → Apart b a
  turned_round a b apart x = other_side (apart x)

  free_of : (t : Txn C V) (x : C) → t.names x ≡ true → (slots : List (Option Open)) → NoConflict ts t slots → NoneNames x slots
  free_of t x is [] none = tt
  free_of t x is (None ∷ slots) none = free_of t x is slots none
  free_of t x is (Some o ∷ slots) (apart, none) = (apart_at t (txn ts o.index) x (turned_round (txn ts o.index) t apart) is, free_of t x is slots none)

  both_parts : (t : Txn C V) (before rest : List (Option Open)) → NoConflict ts t (before ++ rest) → NoConflict ts t before × NoConflict ts t rest
  both_parts t [] rest none = (tt, none)
  both_parts t (None ∷ before) rest none = both_parts t before rest none
  both_parts t (Some o ∷ before) rest (apart, none) =
      let two = both_parts t before rest none in
      ((apart, two.0), two.1)

  as_one : (t : Txn C V) (before rest : List (Option Open)) → NoConflict ts t before → NoConflict ts t rest → NoConflict ts t (before ++ rest)
  as_one t [] rest one two = two
  as_one t (None ∷ before) rest one two = as_one t before rest one two
  as_one t (Some o ∷ before) rest (apart, one) two = (apart, as_one t before rest one two)

  -- no other slot names a cell that this one names
  no_others : (started : ℕ) (before after : List (Option Open)) (o : Open) (x : C) → (txn ts o.index).names x ≡ true → AreOpen ts started (before ++ (Some o ∷ after)) → NoneNames x before × NoneNames x after
  no_others started [] after o x is (here, none, rest) = (tt, free_of (txn ts o.index) x is after none)
  no_others started (None ∷ before) after o x is rest = no_others started before after o x is rest
  no_others started (Some p ∷ before) after o x is (here, none, rest) =
      let two = no_others started before after o x is rest in
      let apart = (both_parts (txn ts p.index) before (Some o ∷ after) none).1.0 in
      ((apart_at (txn ts o.index) (txn ts p.index) x apart is, two.0), two.1)

  its_own : (started : ℕ) (before after : List (Option Open)) (o : Open) → AreOpen ts started (before ++ (Some o ∷ after)) → IsOpen ts started o
  its_own started [] after o (here, none, rest) = here
  its_own started (None ∷ before) after o rest = its_own started before after o rest
  its_own started (Some p ∷ before) after o (here, none, rest) = its_own started before after o rest

  place_skip : (started : ℕ) (before rest : List (Option Open)) (x : C) → NoneNames x before → place ts started (before ++ rest) x ≡ place ts started rest x
  place_skip started [] rest x none = refl
  place_skip started (None ∷ before) rest x none = place_skip started before rest x none
  place_skip started (Some o ∷ before) rest x (isnt, none) = ap (λ b. cond b (count ts o.index + o.next) (place ts started (before ++ rest) x)) isnt ∙ place_skip started before rest x none

  place_none : (started : ℕ) (slots : List (Option Open)) (x : C) → NoneNames x slots → place ts started slots x ≡ count ts started
  place_none started [] x none = refl
  place_none started (None ∷ slots) x none = place_none started slots x none
  place_none started (Some o ∷ slots) x (isnt, none) = ap (λ b. cond b (count ts o.index + o.next) (place ts started slots x)) isnt ∙ place_none started slots x none

  place_here : (started : ℕ) (before after : List (Option Open)) (o : Open) (x : C) → NoneNames x before → (txn ts o.index).names x ≡ true → place ts started (before ++ (Some o ∷ after)) x ≡ count ts o.index + o.next
  place_here started before after o x none is = place_skip started before (Some o ∷ after) x none ∙ ap (λ b. cond b (count ts o.index + o.next) (place ts started after x)) is

  place_first : (started : ℕ) (v : Option Open) (after : List (Option Open)) (x : C) → Misses x v → place ts started (v ∷ after) x ≡ place ts started after x
  place_first started None after x isnt = refl
  place_first started (Some o) after x isnt = ap (λ b. cond b (count ts o.index + o.next) (place ts started after x)) isnt

  place_swap : (started : ℕ) (before : List (Option Open)) (v w : Option Open) (after : List (Option Open)) (x : C) → Misses x v → Misses x w → place ts started (before ++ (v ∷ after)) x ≡ place ts started (before ++ (w ∷ after)) x
  place_swap started [] v w after x isnt none = place_first started v after x isnt ∙ sym (place_first started w after x none)
  place_swap started (None ∷ before) v w after x isnt none = place_swap started before v w after x isnt none
  place_swap started (Some o ∷ before) v w after x isnt none = ap (λ p. cond ((txn ts o.index).names x) (count ts o.index + o.next) p) (place_swap started before v w after x isnt none)

  -- a cell's place depends on the number started only where no slot names it
  place_started : (n m : ℕ) (slots : List (Option Open)) (x : C) → (place ts m slots x ≡ place ts n slots x) ⊎ ((place ts n slots x ≡ count ts n) × (place ts m slots x ≡ count ts m))
  place_started n m [] x = inr (refl, refl)
  place_started n m (None ∷ slots) x = place_started n m slots x
  place_started n m (Some o ∷ slots) x = by ((txn ts o.index).names x) (place_started n m slots x)
    where
      by : (b : Bool) → (place ts m slots x ≡ place ts n slots x) ⊎ ((place ts n slots x ≡ count ts n) × (place ts m slots x ≡ count ts m)) → (cond b (count ts o.index + o.next) (place ts m slots x) ≡ cond b (count ts o.index + o.next) (place ts n slots x)) ⊎ ((cond b (count ts o.index + o.next) (place ts n slots x) ≡ count ts n) × (cond b (count ts o.index + o.next) (place ts m slots x) ≡ count ts m))
      by true rest = inl refl
      by false rest = rest

  within_started : (started : ℕ) (o : Open) → IsOpen ts started o → count ts o.index + o.next ≤ count ts started
  within_started started o is = omega (arith, count_more ts o.index, count_grows ts (suc o.index) started (omega (arith, is.begun)), is.within)

  place_le : (started : ℕ) (slots : List (Option Open)) (x : C) → AreOpen ts started slots → place ts started slots x ≤ count ts started
  place_le started [] x open_ones = omega arith
  place_le started (None ∷ slots) x open_ones = place_le started slots x open_ones
  place_le started (Some o ∷ slots) x (here, none, rest) = by ((txn ts o.index).names x) (place_le started slots x rest)
    where
      by : (b : Bool) → place ts started slots x ≤ count ts started → cond b (count ts o.index + o.next) (place ts started slots x) ≤ count ts started
      by true le = within_started started o here
      by false le = le

  place_ge : (started n : ℕ) (slots : List (Option Open)) (x : C) → n ≤ started → NoneBelow n slots → count ts n ≤ place ts started slots x
  place_ge started n [] x le none = count_grows ts n started le
  place_ge started n (None ∷ slots) x le none = place_ge started n slots x le none
  place_ge started n (Some o ∷ slots) x le (from, none) = by ((txn ts o.index).names x) (place_ge started n slots x le none)
    where
      by : (b : Bool) → count ts n ≤ place ts started slots x → count ts n ≤ cond b (count ts o.index + o.next) (place ts started slots x)
      by true rest = omega (arith, count_grows ts n o.index from)
      by false rest = rest

  opens_on : (started : ℕ) (slots : List (Option Open)) → AreOpen ts started slots → NoConflict ts (txn ts started) slots → AreOpen ts (suc started) slots
  opens_on started [] open_ones none = tt
  opens_on started (None ∷ slots) open_ones none = opens_on started slots open_ones none
  opens_on started (Some o ∷ slots) (here, apart, rest) (new, none) = (record { begun = omega (arith, here.begun); within = here.within; alone = alone }, apart, opens_on started slots rest none)
    where
      alone : (i : ℕ) → o.index < i → i < suc started → Apart (txn ts o.index) (txn ts i)
      alone i from to = by (which i)
        where
          which : (i : ℕ) → (i ≡ started) ⊎ ((i < started) ⊎ (started < i))
          which i = grind arith

          by : (i ≡ started) ⊎ ((i < started) ⊎ (started < i)) → Apart (txn ts o.index) (txn ts i)
          by (inl is) = subst (λ k. Apart (txn ts o.index) (txn ts k)) (sym is) new
          by (inr (inl lt)) = here.alone i from lt
          by (inr (inr past)) = absurd (omega arith)

  puts_in : (started : ℕ) (before after : List (Option Open)) (o : Open) → IsOpen ts started o → NoConflict ts (txn ts o.index) (before ++ (None ∷ after)) → AreOpen ts started (before ++ (None ∷ after)) → AreOpen ts started (before ++ (Some o ∷ after))
  puts_in started [] after o is none rest = (is, none, rest)
  puts_in started (None ∷ before) after o is none rest = puts_in started before after o is none rest
  puts_in started (Some p ∷ before) after o is (apart, none) (here, free, rest) =
      let two = both_parts (txn ts p.index) before (None ∷ after) free in
      (here, as_one (txn ts p.index) before (Some o ∷ after) two.0 (turned_round (txn ts p.index) (txn ts o.index) apart, two.1), puts_in started before after o is none rest)

  same_txn : (t : Txn C V) (before after : List (Option Open)) (o p : Open) → o.index ≡ p.index → NoConflict ts t (before ++ (Some o ∷ after)) → NoConflict ts t (before ++ (Some p ∷ after))
  same_txn t before after o p same none =
      let two = both_parts t before (Some o ∷ after) none in
      as_one t before (Some p ∷ after) two.0 (subst (λ i. Apart (txn ts i) t) same two.1.0, two.1.1)

  pub advances : (started : ℕ) (before after : List (Option Open)) (o : Open) → o.next < length (txn ts o.index).ops → AreOpen ts started (before ++ (Some o ∷ after)) → AreOpen ts started (before ++ (Some (record { index = o.index; next = suc o.next }) ∷ after))
  advances started [] after o lt (here, none, rest) = (record { begun = here.begun; within = omega arith; alone = here.alone }, none, rest)
  advances started (None ∷ before) after o lt rest = advances started before after o lt rest
  advances started (Some p ∷ before) after o lt (here, none, rest) = (here, same_txn (txn ts p.index) before after o (record { index = o.index; next = suc o.next }) refl none, advances started before after o lt rest)

  pub frees : (started : ℕ) (before after : List (Option Open)) (o : Open) → AreOpen ts started (before ++ (Some o ∷ after)) → AreOpen ts started (before ++ (None ∷ after))
  frees started [] after o (here, none, rest) = rest
  frees started (None ∷ before) after o rest = frees started before after o rest
  frees started (Some p ∷ before) after o (here, none, rest) =
      let two = both_parts (txn ts p.index) before (Some o ∷ after) none in
      (here, as_one (txn ts p.index) before (None ∷ after) two.0 two.1.1, frees started before after o rest)

  module _ (raise : ℕ → V → V) (origin : C → V) (all : AllWithin ts) where
    -- from one transaction up to another no operation changes or reads a cell that none of them names
    quiet : (started i n : ℕ) (passed : C → ℕ) (x : C) → i ≤ n → n ≤ started → ((m : ℕ) → i ≤ m → m < started → (txn ts m).names x ≡ false) → Passed (line raise origin ts started) passed (count ts i) (count ts n) x
    quiet started i n passed x from to none = record {
      from = count_grows ts i n from;
      to = count_grows ts n started to;
      still = λ t low high. ap (λ a. effect a (after (line raise origin ts started) t)) (leaving t low);
      copied = λ t z low high source. absurd (unread t z low source);
    }
      where
        leaving : (t : ℕ) → count ts i ≤ t → act (line raise origin ts started) t x ≡ leaves
        leaving t low = each_between (λ op. op x ≡ leaves) refl ts i started (λ m k le lt. (all m k).leaves_others x (none m le lt)) t low

        unread : (t : ℕ) (z : C) → count ts i ≤ t → Source (act (line raise origin ts started) t z) x → ⊥
        unread t z low = each_between (λ op. Source (op z) x → ⊥) (λ source. source) ts i started (λ m k le lt source. not_both ((txn ts m).names x) ((all m k).reads_own z x source) (none m le lt)) t low

    stays_put : (started p q : ℕ) (passed : C → ℕ) (x : C) → q ≡ p → p ≤ count ts started → Passed (line raise origin ts started) passed p q x
    stays_put started p q passed x same le = record { from = omega arith; to = omega arith; still = λ t low high. absurd (omega arith); copied = λ t z low high source. absurd (omega arith) }

    pub finish : (started : ℕ) (before after : List (Option Open)) (o : Open) → o.next ≡ length (txn ts o.index).ops → AreOpen ts started (before ++ (Some o ∷ after))
        → (cells : C → V) (guards passed : C → ℕ) → Reads raise origin ts started (before ++ (Some o ∷ after)) cells guards passed → Reads raise origin ts started (before ++ (None ∷ after)) cells guards passed
    finish started before after o done open_ones cells guards passed held = idles_on (line raise origin ts started) (place ts started (before ++ (Some o ∷ after))) (place ts started (before ++ (None ∷ after))) cells guards passed held (λ x. by x (true_or_false ((txn ts o.index).names x)))
      where
        own : IsOpen ts started o
        own = its_own started before after o open_ones

        by : (x : C) → ((txn ts o.index).names x ≡ true) ⊎ ((txn ts o.index).names x ≡ false) → Passed (line raise origin ts started) passed (place ts started (before ++ (Some o ∷ after)) x) (place ts started (before ++ (None ∷ after)) x) x
        by x (inr isnt) = stays_put started _ _ passed x (place_swap started before None (Some o) after x tt isnt) (place_le started (before ++ (Some o ∷ after)) x open_ones)
        by x (inl is) =
            subst (λ p. Passed (line raise origin ts started) passed p (place ts started (before ++ (None ∷ after)) x) x) (sym here)
            (subst (λ p. Passed (line raise origin ts started) passed (count ts (suc o.index)) p x) (sym there)
            (quiet started (suc o.index) started passed x (omega (arith, own.begun)) (omega arith) (λ m le lt. apart_at (txn ts o.index) (txn ts m) x (own.alone m (omega arith) lt) is)))
          where
            two : NoneNames x before × NoneNames x after
            two = no_others started before after o x is open_ones

            here : place ts started (before ++ (Some o ∷ after)) x ≡ count ts (suc o.index)
            here =
                let sum : count ts o.index + o.next ≡ count ts (suc o.index) = omega (arith, count_more ts o.index, done) in
                place_here started before after o x two.0 is ∙ sum

            there : place ts started (before ++ (None ∷ after)) x ≡ count ts started
            there = place_skip started before (None ∷ after) x two.0 ∙ place_none started after x two.1

    pub keeps : Raises raise → (started : ℕ) (before after : List (Option Open)) (o : Open) → o.next < length (txn ts o.index).ops → AreOpen ts started (before ++ (Some o ∷ after))
        → (old new : C → V) (guards guards_now passed passed_now : C → ℕ) → DoesOp (line raise origin ts started) (txn ts o.index).names (count ts o.index + o.next) old new guards guards_now passed passed_now
        → Reads raise origin ts started (before ++ (Some o ∷ after)) old guards passed → Reads raise origin ts started (before ++ (Some (record { index = o.index; next = suc o.next }) ∷ after)) new guards_now passed_now
    keeps laws started before after o lt open_ones old new guards guards_now passed passed_now does held =
        keeps_one (line raise origin ts started) laws j op old new guards guards_now passed passed_now (place ts started (before ++ (Some o ∷ after))) (place ts started (before ++ (Some (record { index = o.index; next = suc o.next }) ∷ after))) held
        (record { each = λ x. by x (true_or_false ((txn ts o.index).names x)); reads = reads; further = does.further; for_good = does.for_good; all_copied = does.all_copied })
      where
        own : IsOpen ts started o
        own = its_own started before after o open_ones

        j : ℕ
        j = count ts o.index + o.next

        op : j < length (flat (take started ts))
        op = omega (arith, count_more ts o.index, count_grows ts (suc o.index) started (omega (arith, own.begun)))

        at_j : (x : C) → (txn ts o.index).names x ≡ true → place ts started (before ++ (Some o ∷ after)) x ≡ j
        at_j x is = place_here started before after o x (no_others started before after o x is open_ones).0 is

        reads : (z y : C) → Source (act (line raise origin ts started) j z) y → (place ts started (before ++ (Some o ∷ after)) y ≤ j) × Still (line raise origin ts started) (place ts started (before ++ (Some o ∷ after)) y) j y
        reads z y source =
            let mine : (txn ts o.index).names y ≡ true = (all o.index o.next).reads_own z y (subst (λ f. Source (f z) y) (op_at ts o.index started o.next own.begun lt) source) in
            let is : place ts started (before ++ (Some o ∷ after)) y ≡ j = at_j y mine in
            (omega arith, λ t low high. absurd (omega arith))

        by : (x : C) → ((txn ts o.index).names x ≡ true) ⊎ ((txn ts o.index).names x ≡ false) → Turned (line raise origin ts started) j old new guards guards_now passed (place ts started (before ++ (Some o ∷ after))) (place ts started (before ++ (Some (record { index = o.index; next = suc o.next }) ∷ after))) x
        by x (inl is) = inl (at_j x is, place_here started before after (record { index = o.index; next = suc o.next }) x (no_others started before after o x is open_ones).0 is ∙ omega arith, does.given x is, does.guarded x is)
        by x (inr isnt) = inr (place_swap started before (Some (record { index = o.index; next = suc o.next })) (Some o) after x isnt isnt, (does.others x isnt).0, (does.others x isnt).1)

  module _ (raise : ℕ → V → V) (origin : C → V) where
    more_started : (place_of : C → ℕ) (n m : ℕ) → n ≤ m → (cells : C → V) (guards passed : C → ℕ) → ((x : C) → passed x ≤ count ts n) → AtEach (line raise origin ts n) place_of cells guards passed → AtEach (line raise origin ts m) place_of cells guards passed
    more_started place_of n m le cells guards passed bound held =
        subst (λ ops. AtEach (record { raise = raise; ops = ops; before = origin; start = origin; skips = λ x. 0 }) place_of cells guards passed) (sym (flat_more ts n m le))
        (more_ops (line raise origin ts n) (flat (take (m - n) (drop n ts))) place_of cells guards passed bound held)

    pub start_image : (started n : ℕ) (cells : C → V) (guards passed : C → ℕ) → ((x : C) → passed x ≤ count ts started) → Image raise origin ts started n cells guards passed → Image raise origin ts (suc started) n cells guards passed
    start_image started n cells guards passed bound held = more_started (λ x. count ts n) started (suc started) (omega arith) cells guards passed bound held

    pub commit : (started n : ℕ) → n ≤ started → (slots : List (Option Open)) → NoneBelow n slots → (cells : C → V) (guards passed : C → ℕ) → Reads raise origin ts started slots cells guards passed → Image raise origin ts started n cells guards passed
    commit started n le slots none cells guards passed held = goes_back (line raise origin ts started) (place ts started slots) (λ x. count ts n) cells guards passed held (λ x. place_ge started n slots x le none)

    pub join : (p n started end : ℕ) → p ≤ n → n ≤ started → started ≤ end → end ≤ length ts → (cells : C → V) (guards passed : C → ℕ) → ((x : C) → passed x ≤ count ts started) → Image raise origin ts started n cells guards passed
        → StandsFor raise (flat (above ts p n end)) cells (λ x. guards x - count ts n) (state raise origin ts end) × (n + length (above ts p n end) ≡ end)
    join p n started end low mid high to cells guards passed bound held = (record { before = there; passed = λ x. passed x - count ts n; held = based; ends = ends }, above_length ts p n end low (omega arith) to)
      where
        there : C → V
        there = after (line raise origin ts end) (count ts n)

        based : AtEach (again raise (flat (above ts p n end)) there cells (λ x. guards x - count ts n)) (λ x. 0) cells (λ x. guards x - count ts n) (λ x. passed x - count ts n)
        based =
            subst (λ ops. AtEach (again raise ops there cells (λ x. guards x - count ts n)) (λ x. 0) cells (λ x. guards x - count ts n) (λ x. passed x - count ts n)) (above_is ts p n end low (omega arith))
            (rebased (line raise origin ts end) (count ts n) cells guards passed (count_grows ts n end (omega arith)) (more_started (λ x. count ts n) started end high cells guards passed bound held))

        whole : take (count ts n) (flat (take end ts)) ++ flat (above ts p n end) ≡ flat (take end ts)
        whole = ap (λ rest. take (count ts n) (flat (take end ts)) ++ rest) (sym (above_is ts p n end low (omega arith))) ∙ take-append-drop (count ts n) (flat (take end ts))

        ends : (x : C) → state raise origin ts end x ≡ fold raise (flat (above ts p n end)) there x
        ends x = ap (λ ops. fold raise ops origin x) (sym whole) ∙ ap (λ s. s x) (fold_append raise (take (count ts n) (flat (take end ts))) (flat (above ts p n end)) origin)

  pub join_behind : (raise : ℕ → V → V) (origin : C → V) (p n end : ℕ) → end ≤ n → n ≤ length ts → (cells : C → V) (guards passed : C → ℕ) → ((x : C) → passed x ≤ count ts n) → Image raise origin ts n n cells guards passed
      → StandsFor raise (flat (above ts p n end)) cells (λ x. guards x - count ts n) (state raise origin ts n) × (above ts p n end ≡ [])
  join_behind raise origin p n end behind to cells guards passed bound held =
      (subst (λ l. StandsFor raise (flat l) cells (λ x. guards x - count ts n) (state raise origin ts n)) (above_none ts n n n (omega arith) ∙ sym (above_none ts p n end behind)) (join raise origin n n n n (omega arith) (omega arith) (omega arith) to cells guards passed bound held).0, above_none ts p n end behind)

  module _ (raise : ℕ → V → V) (origin : C → V) (all : AllWithin ts) where
    pub start_reads : (started : ℕ) (before after : List (Option Open)) → AreOpen ts started (before ++ (None ∷ after)) → NoConflict ts (txn ts started) (before ++ (None ∷ after))
        → (cells : C → V) (guards passed : C → ℕ) → ((x : C) → passed x ≤ count ts started) → Reads raise origin ts started (before ++ (None ∷ after)) cells guards passed → Reads raise origin ts (suc started) (before ++ (Some (record { index = started; next = 0 }) ∷ after)) cells guards passed
    start_reads started before after open_ones none cells guards passed bound held =
        idles_on (line raise origin ts (suc started)) (place ts started (before ++ (None ∷ after))) (place ts (suc started) (before ++ (Some (record { index = started; next = 0 }) ∷ after))) cells guards passed
        (more_started raise origin (place ts started (before ++ (None ∷ after))) started (suc started) (omega arith) cells guards passed bound held) (λ x. by x (true_or_false ((txn ts started).names x)))
      where
        grows : count ts started ≤ count ts (suc started)
        grows = count_grows ts started (suc started) (omega arith)

        by : (x : C) → ((txn ts started).names x ≡ true) ⊎ ((txn ts started).names x ≡ false) → Passed (line raise origin ts (suc started)) passed (place ts started (before ++ (None ∷ after)) x) (place ts (suc started) (before ++ (Some (record { index = started; next = 0 }) ∷ after)) x) x
        by x (inl is) = stays_put raise origin all (suc started) _ _ passed x (there ∙ sym here) (omega (arith, here, grows))
          where
            free : NoneNames x (before ++ (None ∷ after))
            free = free_of (txn ts started) x is (before ++ (None ∷ after)) none

            first : NoneNames x before
            first = free_of (txn ts started) x is before (both_parts (txn ts started) before (None ∷ after) none).0

            here : place ts started (before ++ (None ∷ after)) x ≡ count ts started
            here = place_none started (before ++ (None ∷ after)) x free

            there : place ts (suc started) (before ++ (Some (record { index = started; next = 0 }) ∷ after)) x ≡ count ts started
            there = place_here (suc started) before after (record { index = started; next = 0 }) x first is ∙ omega arith
        by x (inr isnt) = subst (λ p. Passed (line raise origin ts (suc started)) passed (place ts started (before ++ (None ∷ after)) x) p x) (sym swapped) (which (place_started started (suc started) (before ++ (None ∷ after)) x))
          where
            swapped : place ts (suc started) (before ++ (Some (record { index = started; next = 0 }) ∷ after)) x ≡ place ts (suc started) (before ++ (None ∷ after)) x
            swapped = place_swap (suc started) before (Some (record { index = started; next = 0 })) None after x isnt tt

            which : (place ts (suc started) (before ++ (None ∷ after)) x ≡ place ts started (before ++ (None ∷ after)) x) ⊎ ((place ts started (before ++ (None ∷ after)) x ≡ count ts started) × (place ts (suc started) (before ++ (None ∷ after)) x ≡ count ts (suc started)))
                → Passed (line raise origin ts (suc started)) passed (place ts started (before ++ (None ∷ after)) x) (place ts (suc started) (before ++ (None ∷ after)) x) x
            which (inl same) = stays_put raise origin all (suc started) _ _ passed x same (omega (arith, place_le started (before ++ (None ∷ after)) x open_ones, grows))
            which (inr (old, new)) =
                subst (λ p. Passed (line raise origin ts (suc started)) passed p (place ts (suc started) (before ++ (None ∷ after)) x) x) (sym old)
                (subst (λ p. Passed (line raise origin ts (suc started)) passed (count ts started) p x) (sym new)
                (quiet raise origin all (suc started) started (suc started) passed x (omega arith) (omega arith) only))
              where
                only : (m : ℕ) → started ≤ m → m < suc started → (txn ts m).names x ≡ false
                only m low high =
                    let is : started ≡ m = omega arith in
                    subst (λ i. (txn ts i).names x ≡ false) is isnt

  pub start_open : (started : ℕ) (before after : List (Option Open)) → AreOpen ts started (before ++ (None ∷ after)) → NoConflict ts (txn ts started) (before ++ (None ∷ after)) → AreOpen ts (suc started) (before ++ (Some (record { index = started; next = 0 }) ∷ after))
  start_open started before after open_ones none =
      puts_in (suc started) before after (record { index = started; next = 0 }) (record { begun = omega arith; within = omega arith; alone = λ i from to. absurd (omega arith) }) none (opens_on started (before ++ (None ∷ after)) open_ones none)

good_of : {C V : Type 0} (raise : ℕ → V → V) (ops : List (C → Act C V)) (cells : C → V) (skips : C → ℕ) (end : C → V) → (stands : StandsFor raise ops cells skips end) → GoodStart (again raise ops stands.before cells skips)
good_of raise ops cells skips end stands = at_good (again raise ops stands.before cells skips) stands.passed (record { stands = stands.held.stands; kept = stands.held.kept })

begins : {C V : Type 0} (ts : List (Txn C V)) (slots : List (Option Open)) → AreOpen ts 0 slots → (x : C) → place ts 0 slots x ≡ 0
begins ts [] open_ones x = refl
begins ts (None ∷ slots) open_ones x = begins ts slots open_ones x
begins ts (Some o ∷ slots) (own, none, rest) x = absurd (omega (arith, own.begun))

fresh_at : {C V : Type 0} (raise : ℕ → V → V) (origin : C → V) (ts : List (Txn C V)) (place_of : C → ℕ) (cells : C → V) (guards : C → ℕ) → ((x : C) → cells x ≡ origin x) → ((x : C) → guards x ≡ 0) → ((x : C) → place_of x ≡ 0) → AtEach (line raise origin ts 0) place_of cells guards (λ x. 0)
fresh_at raise origin ts place_of cells guards same none at = record {
  stands = λ x. inl (record { when = 0; from_guard = omega (arith, none x); reached = omega (arith, at x); by = omega arith; value = same x; free = λ j z lt source. absurd (omega arith) });
  kept = λ x i is op over. absurd (omega (arith, is.1));
}

pub split_at : {A : Type 0} (l : List (Option A)) (i : ℕ) (v : Option A) → i < length l → get_or l i None ≡ v → l ≡ take i l ++ (v ∷ drop (suc i) l)
split_at [] i v lt is = absurd (omega arith)
split_at (x ∷ l) zero v lt is = ap (λ y. y ∷ l) is
split_at (x ∷ l) (suc i) v lt is = ap (λ rest. x ∷ rest) (split_at l i v (omega arith) is)

pub split_set : {A : Type 0} (l : List (Option A)) (i : ℕ) (w : Option A) → i < length l → set l i w ≡ take i l ++ (w ∷ drop (suc i) l)
split_set [] i w lt = absurd (omega arith)
split_set (x ∷ l) zero w lt = refl
split_set (x ∷ l) (suc i) w lt = ap (λ rest. x ∷ rest) (split_set l i w (omega arith))

pub slots_law : {C V : Type 0} → SlotsLaw C V
slots_law = record {
  start = λ raise origin ts all started lt before after open_ones none. (
    start_open ts started before after open_ones none,
    (λ cells guards passed bound held. start_reads ts raise origin all started before after open_ones none cells guards passed bound held),
    (λ n cells guards passed bound held. start_image ts raise origin started n cells guards passed bound held),
  );
  advances = λ ts started before after o lt open_ones. advances ts started before after o lt open_ones;
  frees = λ ts started before after o open_ones. frees ts started before after o open_ones;
  keeps = λ raise laws origin ts all started le before after o lt open_ones old new guards guards_now passed passed_now does held. keeps ts raise origin all laws started before after o lt open_ones old new guards guards_now passed passed_now does held;
  finish = λ raise origin ts all started le before after o done open_ones cells guards passed held. finish ts raise origin all started before after o done open_ones cells guards passed held;
  commit = λ raise origin ts started n le to slots none cells guards passed held. commit ts raise origin started n le slots none cells guards passed held;
  join = λ raise origin ts p n started end low mid high to cells guards passed bound held. join ts raise origin p n started end low mid high to cells guards passed bound held;
  join_behind = λ raise origin ts p n end behind to cells guards passed bound held. join_behind ts raise origin p n end behind to cells guards passed bound held;
  once = λ raise laws ops cells skips one other a b x.
      a.ends x ∙ unique_law (again raise ops a.before cells skips) b.before laws (good_of raise ops cells skips one a) (good_of raise ops cells skips other b) x ∙ sym (b.ends x);
  good = λ raise ops cells skips end stands. good_of raise ops cells skips end stands;
  replay = λ raise laws ops cells skips end stands left replayed x.
      replay_ends (again raise ops stands.before cells skips) laws (good_of raise ops cells skips end stands) left replayed x ∙ sym (stands.ends x);
  stopped = λ raise ops cells now skips guards passed end k stands held.
      record {
        before = stands.before;
        passed = passed;
        held = restarted (again raise ops stands.before cells skips) now guards (λ x. 0) now guards passed (goes_back (again raise ops stands.before cells skips) (λ x. k) (λ x. 0) now guards passed held (λ x. omega arith));
        ends = stands.ends;
      };
  fresh = λ raise origin ts slots open_ones cells guards same none. (fresh_at raise origin ts (place ts 0 slots) cells guards same none (λ x. begins ts slots open_ones x), fresh_at raise origin ts (λ x. count ts 0) cells guards same none (λ x. omega arith));
  split = λ slots i v w lt is. (split_at slots i v lt is, split_set slots i w lt);
}
