-- Every turn that is ready keeps the slots open in the history.
use Rattle.std.proofs.Common.{◌≡◌, ◌≢◌, ◌⊎◌, inl, inr, ℕ, suc, ◌+◌, ◌-◌, ◌<◌, ◌≤◌, Bool, true, false, cond, ◌||◌, List, [], ◌∷◌, ◌++◌, length, take, drop, get_or, set, Option, None, Some, nat_le, nat_lt, refl, sym, ◌∙◌, ap, subst, arith, tests}
use Rattle.std.specs.Prelude.{position}
use Rattle.std.proofs.lemmas.List.Quantifiers.{position-Some}
use Rattle.fs_names.specs.declared.coll.GroupId.{GroupId}
use Rattle.turn_core.specs.declared.turn.Turn.{Turn}
use Rattle.turn_core.specs.declared.turn.Turn.TheVariants as turn
use Rattle.turn_core.specs.declared.slots.Slot.{Slot}
use Rattle.turn_core.specs.declared.state.Core.{Core}
use Rattle.turn_core.specs.declared.turn.NotReady.TheVariants.{Paused, NothingToStart, NoSlot, EmptySlot}
use Rattle.turn_core.specs.Groups.{among, meet}
use Rattle.turn_core.specs.Slots.{is_free, meets_slot, advanced, Holding}
use Rattle.turn_core.specs.Phases.{is_paused, target}
use Rattle.turn_core.specs.Table.{start_limit, is_none, conflict, missing, placed, after, IsGiven, front_of}
use Rattle.turn_core.specs.Chain.{IsOpen as IsOpenSlot, Chain, IsReady}
use Rattle.turn_core.proofs.Rows.{passes, both_false, is_below, less_isnt, some_not_none, some_same, not_both}
use Rattle.turn_core.proofs.Places.{no_conflict, apart_groups, set_cases}
use Rattle.replay_laws.specs.Replay.{Raises}
use Rattle.slot_laws.specs.History.{Txn, txn, count, line, AllWithin, Apart, Open, NoConflict, AreOpen, NoneBelow}
use Rattle.slot_laws.specs.Slots.{Reads, DoesOp}
use Rattle.slot_laws.proofs.Slots.{start_open, start_reads, commit, finish, keeps as slot_keeps, advances, frees, split_at, split_set}
use Rattle.turn_history.specs.History.{open_of, opens_of, Matches, Opens, MatchesIf, ReadsOf, HistoryLaw}

opens_join : (base : ℕ) (a b : List (Option Slot)) (v : Option Slot) → opens_of base (a ++ (v ∷ b)) ≡ opens_of base a ++ (open_of base v ∷ opens_of base b)
opens_join base [] b v = refl
opens_join base (x ∷ a) b v = ap (λ l. open_of base x ∷ l) (opens_join base a b v)

free_is : (v : Option Slot) → is_free v ≡ true → v ≡ None
free_is None is = refl
free_is (Some slot) is = absurd (not_both false is refl)

module _ {C V : Type 0} (group : C → GroupId) (base : ℕ) (ts : List (Txn C V)) where
  -- the slots before, at and after a place
  opened : (started : ℕ) (slots : List (Option Slot)) (i : ℕ) (v : Option Slot) → i < length slots → get_or slots i None ≡ v → AreOpen ts started (opens_of base slots) → AreOpen ts started (opens_of base (take i slots) ++ (open_of base v ∷ opens_of base (drop (suc i) slots)))
  opened started slots i v lt is open_ones = subst (λ l. AreOpen ts started l) (ap (opens_of base) (split_at slots i v lt is) ∙ opens_join base (take i slots) (drop (suc i) slots) v) open_ones

  closed : (started : ℕ) (slots : List (Option Slot)) (i : ℕ) (w : Option Slot) → i < length slots → AreOpen ts started (opens_of base (take i slots) ++ (open_of base w ∷ opens_of base (drop (suc i) slots))) → AreOpen ts started (opens_of base (set slots i w))
  closed started slots i w lt open_ones = subst (λ l. AreOpen ts started l) (sym (ap (opens_of base) (split_set slots i w lt) ∙ opens_join base (take i slots) (drop (suc i) slots) w)) open_ones

  apart_of : (one two : Slot) → Matches group base ts one → Matches group base ts two → meet one.groups two.groups ≡ false → Apart (txn ts (two.seq - (base + 1))) (txn ts (one.seq - (base + 1)))
  apart_of one two first second none x = by (apart_groups one.groups two.groups none (group x))
    where
      by : (among one.groups (group x) ≡ false) ⊎ (among two.groups (group x) ≡ false) → ((txn ts (two.seq - (base + 1))).names x ≡ false) ⊎ ((txn ts (one.seq - (base + 1))).names x ≡ false)
      by (inl isnt) = inr (first.names_are x ∙ isnt)
      by (inr isnt) = inl (second.names_are x ∙ isnt)

  no_conflict_of : (one : Slot) → Matches group base ts one → (slots : List (Option Slot)) → ((j : ℕ) (t : Slot) → Holding slots j t → Matches group base ts t) → ((j : ℕ) (t : Slot) → Holding slots j t → meet one.groups t.groups ≡ false) → NoConflict ts (txn ts (one.seq - (base + 1))) (opens_of base slots)
  no_conflict_of one match [] each none = tt
  no_conflict_of one match (None ∷ slots) each none = no_conflict_of one match slots (λ j t is. each (suc j) t is) (λ j t is. none (suc j) t is)
  no_conflict_of one match (Some two ∷ slots) each none = (apart_of one two match (each 0 two refl) (none 0 two refl), no_conflict_of one match slots (λ j t is. each (suc j) t is) (λ j t is. none (suc j) t is))

  start_keeps : (s : Core) (slot : Slot) → Chain s → Opens group base ts s → missing s turn.Start slot.groups ≡ None → slot.seq ≡ s.started + 1 → slot.next ≡ 0 → Matches group base ts slot → Opens group base ts (after s turn.Start (Some slot))
  start_keeps s slot chain opens ready seq_is next_is match = by (position is_free s.slots) refl
    where
      three : (is_none (position is_free s.slots) ≡ false) × (conflict (position (meets_slot slot.groups) s.slots) ≡ None)
      three = passes (is_none (position is_free s.slots)) NoSlot _ (passes (nat_le (start_limit s) s.started) NothingToStart _ (passes (is_paused s.mode s.phase) Paused _ ready).1).1

      none : NoConflict ts (txn ts (slot.seq - (base + 1))) (opens_of base s.slots)
      none = no_conflict_of slot match s.slots opens.each (λ j t is. no_conflict slot.groups s.slots (position (meets_slot slot.groups) s.slots) refl three.1 j t is)

      index_is : slot.seq - (base + 1) ≡ s.started - base
      index_is = omega (arith, opens.low)

      by : (o : Option ℕ) → position is_free s.slots ≡ o → Opens group base ts (record s { started = s.started + 1; slots = placed s.slots o (Some slot) })
      by None is = absurd (not_both true refl (ap is_none (sym is) ∙ three.0))
      by (Some i) is = record { low = omega (arith, opens.low); open_ones = closed (s.started + 1 - base) s.slots i (Some slot) first.0 now; each = λ j t holding. matched j t (set_cases s.slots i j (Some slot) t first.0 holding) }
        where
          first : (i < length s.slots) × (get_or s.slots i None ≡ None)
          first =
              let facts = position-Some is_free s.slots i None is in
              (facts.0, free_is (get_or s.slots i None) facts.1)

          more : suc (s.started - base) ≡ s.started + 1 - base
          more = omega (arith, opens.low)

          new_one : Some (record { index = s.started - base; next = 0 }) ≡ open_of base (Some slot)
          new_one = ap (λ k. Some (record { index = k; next = 0 })) (sym index_is) ∙ ap (λ n. Some (record { index = slot.seq - (base + 1); next = n })) (sym next_is)

          here : AreOpen ts (s.started - base) (opens_of base (take i s.slots) ++ (None ∷ opens_of base (drop (suc i) s.slots)))
          here = opened (s.started - base) s.slots i None first.0 first.1 opens.open_ones

          free : NoConflict ts (txn ts (s.started - base)) (opens_of base (take i s.slots) ++ (None ∷ opens_of base (drop (suc i) s.slots)))
          free =
              subst (λ k. NoConflict ts (txn ts k) (opens_of base (take i s.slots) ++ (None ∷ opens_of base (drop (suc i) s.slots)))) index_is
              (subst (λ l. NoConflict ts (txn ts (slot.seq - (base + 1))) l) (ap (opens_of base) (split_at s.slots i None first.0 first.1) ∙ opens_join base (take i s.slots) (drop (suc i) s.slots) None) none)

          now : AreOpen ts (s.started + 1 - base) (opens_of base (take i s.slots) ++ (open_of base (Some slot) ∷ opens_of base (drop (suc i) s.slots)))
          now =
              subst (λ n. AreOpen ts n (opens_of base (take i s.slots) ++ (open_of base (Some slot) ∷ opens_of base (drop (suc i) s.slots)))) more
              (subst (λ v. AreOpen ts (suc (s.started - base)) (opens_of base (take i s.slots) ++ (v ∷ opens_of base (drop (suc i) s.slots)))) new_one
              (start_open ts (s.started - base) (opens_of base (take i s.slots)) (opens_of base (drop (suc i) s.slots)) here free))

          matched : (j : ℕ) (t : Slot) → ((j ≡ i) × (Some slot ≡ Some t)) ⊎ ((j ≢ i) × Holding s.slots j t) → Matches group base ts t
          matched j t (inl (at, same)) = subst (λ u. Matches group base ts u) (some_same slot t same) match
          matched j t (inr (other, holding)) = opens.each j t holding

  apply_keeps : (s : Core) (i : ℕ) → Chain s → Opens group base ts s → missing s (turn.Apply i) [] ≡ None → Opens group base ts (after s (turn.Apply i) None)
  apply_keeps s i chain opens ready = by (get_or s.slots i None) refl
    where
      two : (nat_le 8 i ≡ false) × (is_free (get_or s.slots i None) ≡ false)
      two = both_false (nat_le 8 i) (is_free (get_or s.slots i None)) (passes (nat_le 8 i || is_free (get_or s.slots i None)) EmptySlot None ready).0

      lt : i < length s.slots
      lt = omega (arith, chain.well_formed.eight, is_below 8 i two.0)

      by : (o : Option Slot) → get_or s.slots i None ≡ o → Opens group base ts (record s { slots = set s.slots i (advanced o) })
      by None is = absurd (not_both true refl (ap is_free (sym is) ∙ two.1))
      by (Some slot) is = record { low = opens.low; open_ones = closed (s.started - base) s.slots i (advanced (Some slot)) lt (which (nat_lt (slot.next + 1) slot.ops)); each = λ j t holding. matched j t (set_cases s.slots i j (advanced (Some slot)) t lt holding) }
        where
          o : Open
          o = record { index = slot.seq - (base + 1); next = slot.next }

          here : AreOpen ts (s.started - base) (opens_of base (take i s.slots) ++ (Some o ∷ opens_of base (drop (suc i) s.slots)))
          here = opened (s.started - base) s.slots i (Some slot) lt is opens.open_ones

          left : o.next < length (txn ts o.index).ops
          left = subst (λ n. slot.next < n) (opens.each i slot is).ops_are (chain.well_formed.unfinished i slot is)

          which : (b : Bool) → AreOpen ts (s.started - base) (opens_of base (take i s.slots) ++ (open_of base (cond b (Some (record slot { next = slot.next + 1 })) None) ∷ opens_of base (drop (suc i) s.slots)))
          which false = frees ts (s.started - base) (opens_of base (take i s.slots)) (opens_of base (drop (suc i) s.slots)) o here
          which true =
              let next_is : suc slot.next ≡ slot.next + 1 = omega arith in
              subst (λ n. AreOpen ts (s.started - base) (opens_of base (take i s.slots) ++ (Some (record { index = slot.seq - (base + 1); next = n }) ∷ opens_of base (drop (suc i) s.slots)))) next_is
              (advances ts (s.started - base) (opens_of base (take i s.slots)) (opens_of base (drop (suc i) s.slots)) o left here)

          matched : (j : ℕ) (t : Slot) → ((j ≡ i) × (advanced (Some slot) ≡ Some t)) ⊎ ((j ≢ i) × Holding s.slots j t) → Matches group base ts t
          matched j t (inr (other, holding)) = opens.each j t holding
          matched j t (inl (at, same)) = from (nat_lt (slot.next + 1) slot.ops) same
            where
              from : (b : Bool) → cond b (Some (record slot { next = slot.next + 1 })) None ≡ Some t → Matches group base ts t
              from false none = absurd (some_not_none t (sym none))
              from true now = subst (λ u. Matches group base ts u) (some_same (record slot { next = slot.next + 1 }) t now) (record { ops_are = (opens.each i slot is).ops_are; names_are = (opens.each i slot is).names_are })

  same_slots : (s now : Core) → now.slots ≡ s.slots → now.started ≡ s.started → Opens group base ts s → Opens group base ts now
  same_slots s now slots_are started_is opens = record {
    low = omega (arith, opens.low);
    open_ones = subst (λ l. AreOpen ts (now.started - base) (opens_of base l)) (sym slots_are) (subst (λ n. AreOpen ts (n - base) (opens_of base s.slots)) (sym started_is) opens.open_ones);
    each = λ i slot is. opens.each i slot (ap (λ l. get_or l i None) (sym slots_are) ∙ is);
  }

  keeps : (s : Core) (t : Turn) (slot : Option Slot) → Chain s → Opens group base ts s → missing s t (front_of slot) ≡ None → IsGiven s t slot → MatchesIf group base ts slot → Opens group base ts (after s t slot)
  keeps s turn.Start None chain opens ready given match = absurd given
  keeps s turn.Start (Some slot) chain opens ready (seq_is, next_is, some) match = start_keeps s slot chain opens ready seq_is next_is match
  keeps s (turn.Apply i) None chain opens ready given match = apply_keeps s i chain opens ready
  keeps s (turn.Apply i) (Some slot) chain opens ready given match = absurd given
  keeps s turn.Journal slot chain opens ready given match = same_slots s (after s turn.Journal slot) refl refl opens
  keeps s turn.Sync slot chain opens ready given match = same_slots s (after s turn.Sync slot) refl refl opens
  keeps s turn.Commit slot chain opens ready given match = same_slots s (after s turn.Commit slot) refl refl opens
  keeps s turn.MapSync slot chain opens ready given match = same_slots s (after s turn.MapSync slot) refl refl opens
  keeps s turn.TreeSync slot chain opens ready given match = same_slots s (after s turn.TreeSync slot) refl refl opens
  keeps s turn.Seq slot chain opens ready given match = same_slots s (after s turn.Seq slot) refl refl opens
  keeps s turn.Snap slot chain opens ready given match = same_slots s (after s turn.Snap slot) refl refl opens
  keeps s turn.Trim slot chain opens ready given match = same_slots s (after s turn.Trim slot) refl refl opens
  keeps s turn.Sweep slot chain opens ready given match = same_slots s (after s turn.Sweep slot) refl refl opens

module _ {C V : Type 0} (raise : ℕ → V → V) (origin : C → V) (group : C → GroupId) (base : ℕ) (ts : List (Txn C V)) (all : AllWithin ts) where
  apply_reads : Raises raise → (s : Core) (i : ℕ) (slot : Slot) → Chain s → Opens group base ts s → missing s (turn.Apply i) [] ≡ None → Holding s.slots i slot
      → (old new : C → V) (guards guards_now passed passed_now : C → ℕ) → DoesOp (line raise origin ts (s.started - base)) (λ x. among slot.groups (group x)) (count ts (slot.seq - (base + 1)) + slot.next) old new guards guards_now passed passed_now
      → ReadsOf raise origin base ts s old guards passed → ReadsOf raise origin base ts (after s (turn.Apply i) None) new guards_now passed_now
  apply_reads laws s i slot chain opens ready is old new guards guards_now passed passed_now does held =
      subst (λ l. Reads raise origin ts (s.started - base) l new guards_now passed_now) (sym written)
      (subst (λ v. Reads raise origin ts (s.started - base) (opens_of base (take i s.slots) ++ (open_of base (advanced v) ∷ opens_of base (drop (suc i) s.slots))) new guards_now passed_now) (sym is) (which (nat_lt (slot.next + 1) slot.ops) refl))
    where
      lt : i < length s.slots
      lt = omega (arith, chain.well_formed.eight, is_below 8 i (both_false (nat_le 8 i) (is_free (get_or s.slots i None)) (passes (nat_le 8 i || is_free (get_or s.slots i None)) EmptySlot None ready).0).0)

      written : opens_of base (set s.slots i (advanced (get_or s.slots i None))) ≡ opens_of base (take i s.slots) ++ (open_of base (advanced (get_or s.slots i None)) ∷ opens_of base (drop (suc i) s.slots))
      written = ap (opens_of base) (split_set s.slots i (advanced (get_or s.slots i None)) lt) ∙ opens_join base (take i s.slots) (drop (suc i) s.slots) (advanced (get_or s.slots i None))

      was : opens_of base s.slots ≡ opens_of base (take i s.slots) ++ (open_of base (Some slot) ∷ opens_of base (drop (suc i) s.slots))
      was = ap (opens_of base) (split_at s.slots i (Some slot) lt is) ∙ opens_join base (take i s.slots) (drop (suc i) s.slots) (Some slot)

      o : Open
      o = record { index = slot.seq - (base + 1); next = slot.next }

      match : Matches group base ts slot
      match = opens.each i slot is

      here : AreOpen ts (s.started - base) (opens_of base (take i s.slots) ++ (Some o ∷ opens_of base (drop (suc i) s.slots)))
      here = subst (λ l. AreOpen ts (s.started - base) l) was opens.open_ones

      left : o.next < length (txn ts o.index).ops
      left = subst (λ n. slot.next < n) match.ops_are (chain.well_formed.unfinished i slot is)

      own : DoesOp (line raise origin ts (s.started - base)) (txn ts o.index).names (count ts o.index + o.next) old new guards guards_now passed passed_now
      own = record {
        given = λ x named. does.given x (sym (match.names_are x) ∙ named);
        guarded = λ x named. does.guarded x (sym (match.names_are x) ∙ named);
        others = λ x named. does.others x (sym (match.names_are x) ∙ named);
        further = does.further;
        for_good = does.for_good;
        all_copied = does.all_copied;
      }

      done : Reads raise origin ts (s.started - base) (opens_of base (take i s.slots) ++ (Some (record { index = o.index; next = suc o.next }) ∷ opens_of base (drop (suc i) s.slots))) new guards_now passed_now
      done = slot_keeps ts raise origin all laws (s.started - base) (opens_of base (take i s.slots)) (opens_of base (drop (suc i) s.slots)) o left here old new guards guards_now passed passed_now own (subst (λ l. Reads raise origin ts (s.started - base) l old guards passed) was held)

      which : (b : Bool) → nat_lt (slot.next + 1) slot.ops ≡ b → Reads raise origin ts (s.started - base) (opens_of base (take i s.slots) ++ (open_of base (cond (nat_lt (slot.next + 1) slot.ops) (Some (record slot { next = slot.next + 1 })) None) ∷ opens_of base (drop (suc i) s.slots))) new guards_now passed_now
      which false full =
          subst (λ b. Reads raise origin ts (s.started - base) (opens_of base (take i s.slots) ++ (open_of base (cond b (Some (record slot { next = slot.next + 1 })) None) ∷ opens_of base (drop (suc i) s.slots))) new guards_now passed_now) (sym full)
          (finish ts raise origin all (s.started - base) (opens_of base (take i s.slots)) (opens_of base (drop (suc i) s.slots)) (record { index = o.index; next = suc o.next }) whole (advances ts (s.started - base) (opens_of base (take i s.slots)) (opens_of base (drop (suc i) s.slots)) o left here) new guards_now passed_now done)
        where
          whole : suc o.next ≡ length (txn ts o.index).ops
          whole = omega (arith, left, less_isnt (slot.next + 1) slot.ops full, match.ops_are)
      which true more =
          let next_is : suc slot.next ≡ slot.next + 1 = omega arith in
          subst (λ b. Reads raise origin ts (s.started - base) (opens_of base (take i s.slots) ++ (open_of base (cond b (Some (record slot { next = slot.next + 1 })) None) ∷ opens_of base (drop (suc i) s.slots))) new guards_now passed_now) (sym more)
          (subst (λ n. Reads raise origin ts (s.started - base) (opens_of base (take i s.slots) ++ (Some (record { index = slot.seq - (base + 1); next = n }) ∷ opens_of base (drop (suc i) s.slots))) new guards_now passed_now) next_is done)

  start_goes : (s : Core) (slot : Slot) → Opens group base ts s → missing s turn.Start slot.groups ≡ None → slot.seq ≡ s.started + 1 → slot.next ≡ 0 → Matches group base ts slot
      → (cells : C → V) (guards passed : C → ℕ) → ((x : C) → passed x ≤ count ts (s.started - base)) → ReadsOf raise origin base ts s cells guards passed → ReadsOf raise origin base ts (after s turn.Start (Some slot)) cells guards passed
  start_goes s slot opens ready seq_is next_is match cells guards passed bound held = by (position is_free s.slots) refl
    where
      three : (is_none (position is_free s.slots) ≡ false) × (conflict (position (meets_slot slot.groups) s.slots) ≡ None)
      three = passes (is_none (position is_free s.slots)) NoSlot _ (passes (nat_le (start_limit s) s.started) NothingToStart _ (passes (is_paused s.mode s.phase) Paused _ ready).1).1

      none : NoConflict ts (txn ts (slot.seq - (base + 1))) (opens_of base s.slots)
      none = no_conflict_of group base ts slot match s.slots opens.each (λ j t is. no_conflict slot.groups s.slots (position (meets_slot slot.groups) s.slots) refl three.1 j t is)

      index_is : slot.seq - (base + 1) ≡ s.started - base
      index_is = omega (arith, opens.low)

      by : (o : Option ℕ) → position is_free s.slots ≡ o → Reads raise origin ts (s.started + 1 - base) (opens_of base (placed s.slots o (Some slot))) cells guards passed
      by None is = absurd (not_both true refl (ap is_none (sym is) ∙ three.0))
      by (Some i) is =
          subst (λ l. Reads raise origin ts (s.started + 1 - base) l cells guards passed) (sym (ap (opens_of base) (split_set s.slots i (Some slot) first.0) ∙ opens_join base (take i s.slots) (drop (suc i) s.slots) (Some slot)))
          (subst (λ n. Reads raise origin ts n (opens_of base (take i s.slots) ++ (open_of base (Some slot) ∷ opens_of base (drop (suc i) s.slots))) cells guards passed) more
          (subst (λ v. Reads raise origin ts (suc (s.started - base)) (opens_of base (take i s.slots) ++ (v ∷ opens_of base (drop (suc i) s.slots))) cells guards passed) new_one
          (start_reads ts raise origin all (s.started - base) (opens_of base (take i s.slots)) (opens_of base (drop (suc i) s.slots)) (subst (λ l. AreOpen ts (s.started - base) l) was opens.open_ones) (subst (λ k. NoConflict ts (txn ts k) (opens_of base (take i s.slots) ++ (None ∷ opens_of base (drop (suc i) s.slots)))) index_is (subst (λ l. NoConflict ts (txn ts (slot.seq - (base + 1))) l) was none)) cells guards passed bound (subst (λ l. Reads raise origin ts (s.started - base) l cells guards passed) was held))))
        where
          first : (i < length s.slots) × (get_or s.slots i None ≡ None)
          first =
              let facts = position-Some is_free s.slots i None is in
              (facts.0, free_is (get_or s.slots i None) facts.1)

          was : opens_of base s.slots ≡ opens_of base (take i s.slots) ++ (None ∷ opens_of base (drop (suc i) s.slots))
          was = ap (opens_of base) (split_at s.slots i None first.0 first.1) ∙ opens_join base (take i s.slots) (drop (suc i) s.slots) None

          more : suc (s.started - base) ≡ s.started + 1 - base
          more = omega (arith, opens.low)

          new_one : Some (record { index = s.started - base; next = 0 }) ≡ open_of base (Some slot)
          new_one = ap (λ k. Some (record { index = k; next = 0 })) (sym index_is) ∙ ap (λ n. Some (record { index = slot.seq - (base + 1); next = n })) (sym next_is)

none_below : (base n started : ℕ) (slots : List (Option Slot)) → ((i : ℕ) (slot : Slot) → Holding slots i slot → n < slot.seq) → NoneBelow (n - base) (opens_of base slots)
none_below base n started [] each = tt
none_below base n started (None ∷ slots) each = none_below base n started slots (λ i slot is. each (suc i) slot is)
none_below base n started (Some slot ∷ slots) each = (omega (arith, each 0 slot refl), none_below base n started slots (λ i t is. each (suc i) t is))

pub history_law : {C V : Type 0} → HistoryLaw C V
history_law = record {
  keeps = λ group base ts s t slot chain opens ready match. keeps group base ts s t slot chain opens ready.none ready.given match;
  apply = λ raise laws origin group base ts all s i slot chain opens ready is old new guards guards_now passed passed_now does held. apply_reads raise origin group base ts all laws s i slot chain opens ready.none is old new guards guards_now passed passed_now does held;
  start = λ raise origin group base ts all s slot chain opens ready match cells guards passed bound held. start_goes raise origin group base ts all s slot opens ready.none ready.given.0 ready.given.1 match cells guards passed bound held;
  synced = λ raise origin group base ts s chain opens cells guards passed held. commit ts raise origin (s.started - base) (target s.committed s.phase - base) (omega (arith, chain.begun)) (opens_of base s.slots) (none_below base (target s.committed s.phase) s.started s.slots (λ i slot is. (chain.open_ones i slot is).above)) cells guards passed held;
}
