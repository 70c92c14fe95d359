-- Every ready turn keeps the chain of numbers.
use Rattle.std.proofs.Common.{◌≡◌, ◌≢◌, ◌⊎◌, inl, inr, ℕ, ◌+◌, ◌<◌, ◌≤◌, max, Bool, true, false, cond, not, ◌||◌, [], length, get_or, set, Option, None, Some, nat_lt, nat_le, nat_eq, refl, sym, ◌∙◌, ap, subst, arith}
use Rattle.std.specs.Prelude.{position}
use Rattle.std.proofs.lemmas.List.{length-set, length-replicate}
use Rattle.std.proofs.lemmas.List.Quantifiers.{position-Some}
use Rattle.fs_names.specs.declared.settings.Mode.{Mode}
use Rattle.fs_names.specs.declared.settings.Mode.TheVariants.{WriteAhead, Parallel}
use Rattle.turn_core.specs.declared.turn.Turn.{Turn}
use Rattle.turn_core.specs.declared.turn.Turn.TheVariants as turn
use Rattle.turn_core.specs.declared.turn.Phase.{Phase}
use Rattle.turn_core.specs.declared.turn.Phase.TheVariants as phase
use Rattle.turn_core.specs.declared.turn.NotReady.TheVariants.{Paused, NothingToStart, NoSlot, EmptySlot, NothingApplied, StillOpen, NotItsPhase}
use Rattle.turn_core.specs.declared.slots.Slot.{Slot}
use Rattle.turn_core.specs.declared.state.Core.{Core}
use Rattle.turn_core.specs.Groups.{meet}
use Rattle.turn_core.specs.Slots.{is_free, meets_slot, taken, advanced, Holding}
use Rattle.turn_core.specs.Phases.{is_parallel, is_pausing, is_map_sync, is_tree_sync, is_seq, is_snap, is_trim, is_before_snap, is_paused, is_saving, target}
use Rattle.turn_core.specs.Table.{start_limit, when, is_none, conflict, commit_missing, missing, placed, after_commit, after, IsWellFormed, IsGiven, front_of}
use Rattle.turn_core.specs.Chain.{IsOpen, AreApart, Chain, TurnsLaw}
use Rattle.turn_core.proofs.Rows.{some_not_none, some_same, not_both, turned, passes, both_false, unequal_is, is_below, not_above}
use Rattle.turn_core.proofs.Places.{Now, set_cases, none_taken, all_free, meet_back, apart_groups, no_conflict, advance_same}

-- a test of a phase that isn't so proves anything
pub isnt_so : {A : Type 0} → false ≡ true → A
isnt_so is = absurd (not_both false is refl)

limit_grows : (b : Bool) (n j j_now k k_now : ℕ) → n ≤ cond b j k → j ≤ j_now → k ≤ k_now → n ≤ cond b j_now k_now
limit_grows true n j j_now k k_now le one two = omega arith
limit_grows false n j j_now k k_now le one two = omega arith

map_before : (p : Phase) → is_map_sync p ≡ true → (is_before_snap p ≡ true) × (is_saving p ≡ true)
map_before phase.Idle is = isnt_so is
map_before phase.Pausing is = isnt_so is
map_before (phase.MapSync n) is = (refl, refl)
map_before (phase.TreeSync n) is = isnt_so is
map_before (phase.Seq n) is = isnt_so is
map_before (phase.Snap n) is = isnt_so is
map_before (phase.Trim n) is = isnt_so is

tree_saving : (p : Phase) → is_tree_sync p ≡ true → is_saving p ≡ true
tree_saving phase.Idle is = isnt_so is
tree_saving phase.Pausing is = isnt_so is
tree_saving (phase.MapSync n) is = refl
tree_saving (phase.TreeSync n) is = refl
tree_saving (phase.Seq n) is = refl
tree_saving (phase.Snap n) is = refl
tree_saving (phase.Trim n) is = isnt_so is

pub seq_before : (p : Phase) → is_seq p ≡ true → (is_before_snap p ≡ true) × (is_saving p ≡ true)
seq_before phase.Idle is = isnt_so is
seq_before phase.Pausing is = isnt_so is
seq_before (phase.MapSync n) is = isnt_so is
seq_before (phase.TreeSync n) is = isnt_so is
seq_before (phase.Seq n) is = (refl, refl)
seq_before (phase.Snap n) is = isnt_so is
seq_before (phase.Trim n) is = isnt_so is

pub snap_saving : (p : Phase) → is_snap p ≡ true → is_saving p ≡ true
snap_saving phase.Idle is = isnt_so is
snap_saving phase.Pausing is = isnt_so is
snap_saving (phase.MapSync n) is = refl
snap_saving (phase.TreeSync n) is = refl
snap_saving (phase.Seq n) is = refl
snap_saving (phase.Snap n) is = refl
snap_saving (phase.Trim n) is = isnt_so is

before_paused : (mode : Mode) (p : Phase) → is_before_snap p ≡ true → is_paused mode p ≡ is_parallel mode
before_paused mode phase.Idle is = isnt_so is
before_paused mode phase.Pausing is = isnt_so is
before_paused mode (phase.MapSync n) is = refl
before_paused mode (phase.TreeSync n) is = isnt_so is
before_paused mode (phase.Seq n) is = refl
before_paused mode (phase.Snap n) is = refl
before_paused mode (phase.Trim n) is = isnt_so is

pausing_paused : (mode : Mode) (p : Phase) → is_pausing p ≡ true → is_paused mode p ≡ true
pausing_paused mode phase.Idle is = isnt_so is
pausing_paused mode phase.Pausing is = refl
pausing_paused mode (phase.MapSync n) is = isnt_so is
pausing_paused mode (phase.TreeSync n) is = isnt_so is
pausing_paused mode (phase.Seq n) is = isnt_so is
pausing_paused mode (phase.Snap n) is = isnt_so is
pausing_paused mode (phase.Trim n) is = isnt_so is

module _ (s : Core) (held : Chain s) where
  -- another phase of the same commit
  with_phase : (p : Phase) → target s.committed p ≡ target s.committed s.phase
      → (is_pausing p ≡ true → s.committed < s.started)
      → (is_saving p ≡ true → s.committed < target s.committed s.phase)
      → (is_trim p ≡ true → target s.committed p ≡ s.committed)
      → (is_snap p ≡ true → is_parallel s.mode ≡ true)
      → (is_tree_sync p ≡ true → is_parallel s.mode ≡ false)
      → (is_parallel s.mode ≡ true → is_before_snap p ≡ true → is_before_snap s.phase ≡ true)
      → Chain (record s { phase = p })
  with_phase p same pausing saving trimming snaps syncs before = record {
    well_formed = record { eight = held.well_formed.eight; unfinished = held.well_formed.unfinished };
    taken = subst (λ n. s.committed ≤ n) (sym same) held.taken;
    begun = subst (λ n. n ≤ s.started) (sym same) held.begun;
    safe = held.safe;
    written = held.written;
    acked_is = held.acked_is;
    open_ones = λ i slot is.
        let old = held.open_ones i slot is in
        record { above = subst (λ n. n < slot.seq) (sym same) old.above; begun = old.begun };
    apart = held.apart;
    pausing = pausing;
    saving = λ is. subst (λ n. s.committed < n) (sym same) (saving is);
    trimming = trimming;
    snaps = snaps;
    syncs = syncs;
    still = λ par is. (same ∙ (held.still par (before par is)).0, (held.still par (before par is)).1);
  }

  well : (core : Core) → core.slots ≡ s.slots → IsWellFormed core
  well core same = record { eight = ap length same ∙ held.well_formed.eight; unfinished = λ i slot is. held.well_formed.unfinished i slot (ap (λ l. get_or l i None) (sym same) ∙ is) }

  opened : (core : Core) → core.committed ≡ s.committed → core.phase ≡ s.phase → s.started ≤ core.started → (slot : Slot) → IsOpen s slot → IsOpen core slot
  opened core committed_is phase_is more slot old = record { above = subst (λ n. n < slot.seq) (ap (λ c. target c s.phase) (sym committed_is) ∙ ap (target core.committed) (sym phase_is)) old.above; begun = omega (arith, more, old.begun) }

  journal_keeps : Chain (after s turn.Journal None)
  journal_keeps = record { well_formed = well _ refl; taken = held.taken; begun = held.begun; safe = limit_grows (is_parallel s.mode) s.started s.journalled (s.journalled + 1) s.synced s.synced held.safe (omega arith) (omega arith); written = omega (arith, held.written); acked_is = held.acked_is; open_ones = λ i slot is. opened _ refl refl (omega arith) slot (held.open_ones i slot is); apart = held.apart; pausing = held.pausing; saving = held.saving; trimming = held.trimming; snaps = held.snaps; syncs = held.syncs; still = held.still }

  sync_keeps : Chain (after s turn.Sync None)
  sync_keeps = record { well_formed = well _ refl; taken = held.taken; begun = held.begun; safe = limit_grows (is_parallel s.mode) s.started s.journalled s.journalled s.synced s.journalled held.safe (omega arith) held.written; written = omega arith; acked_is = most; open_ones = λ i slot is. opened _ refl refl (omega arith) slot (held.open_ones i slot is); apart = held.apart; pausing = held.pausing; saving = held.saving; trimming = held.trimming; snaps = held.snaps; syncs = held.syncs; still = held.still }
    where
      greater : (a b : ℕ) → a ≤ b → max a b ≡ b
      greater a b le = omega arith

      most : max s.acked s.journalled ≡ s.journalled
      most = greater s.acked s.journalled (omega (arith, held.written, held.acked_is))

  sweep_keeps : Chain (after s turn.Sweep None)
  sweep_keeps = record { well_formed = well _ refl; taken = held.taken; begun = held.begun; safe = held.safe; written = held.written; acked_is = held.acked_is; open_ones = λ i slot is. opened _ refl refl (omega arith) slot (held.open_ones i slot is); apart = held.apart; pausing = held.pausing; saving = held.saving; trimming = held.trimming; snaps = held.snaps; syncs = held.syncs; still = held.still }

  map_sync_keeps : is_map_sync s.phase ≡ true → Chain (after s turn.MapSync None)
  map_sync_keeps ready = by (is_parallel s.mode) refl
    where
      by : (b : Bool) → is_parallel s.mode ≡ b → Chain (record s { phase = cond b (phase.Seq (target s.committed s.phase)) (phase.TreeSync (target s.committed s.phase)) })
      by true par = with_phase (phase.Seq (target s.committed s.phase)) refl isnt_so (λ is. held.saving (map_before s.phase ready).1) isnt_so isnt_so isnt_so (λ also is. (map_before s.phase ready).0)
      by false wal = with_phase (phase.TreeSync (target s.committed s.phase)) refl isnt_so (λ is. held.saving (map_before s.phase ready).1) isnt_so isnt_so (λ is. wal) (λ also. isnt_so)

  tree_sync_keeps : is_tree_sync s.phase ≡ true → Chain (after s turn.TreeSync None)
  tree_sync_keeps ready = with_phase (phase.Seq (target s.committed s.phase)) refl isnt_so (λ is. held.saving (tree_saving s.phase ready)) isnt_so isnt_so isnt_so (λ par is. absurd (not_both (is_parallel s.mode) par (held.syncs ready)))

  trim_keeps : is_trim s.phase ≡ true → Chain (after s turn.Trim None)
  trim_keeps is = with_phase phase.Idle (sym (held.trimming is)) isnt_so isnt_so isnt_so isnt_so isnt_so (λ par. isnt_so)

  seq_keeps : is_seq s.phase ≡ true → Chain (after s turn.Seq None)
  seq_keeps ready = by (is_parallel s.mode) refl
    where
      by : (b : Bool) → is_parallel s.mode ≡ b → Chain (record s { committed = cond b s.committed (target s.committed s.phase); phase = cond b (phase.Snap (target s.committed s.phase)) (phase.Trim (target s.committed s.phase)) })
      by true par = with_phase (phase.Snap (target s.committed s.phase)) refl isnt_so (λ is. held.saving (seq_before s.phase ready).1) isnt_so (λ is. par) isnt_so (λ also is. (seq_before s.phase ready).0)
      by false wal = record { well_formed = well _ refl; taken = omega arith; begun = held.begun; safe = held.safe; written = held.written; acked_is = held.acked_is; open_ones = λ i slot is. record { above = (held.open_ones i slot is).above; begun = (held.open_ones i slot is).begun }; apart = held.apart; pausing = isnt_so; saving = isnt_so; trimming = λ is. refl; snaps = isnt_so; syncs = isnt_so; still = λ par. isnt_so }

  snap_keeps : is_snap s.phase ≡ true → Chain (after s turn.Snap None)
  snap_keeps ready = record {
    well_formed = well _ refl;
    taken = omega arith;
    begun = held.begun;
    safe = limit_grows (is_parallel s.mode) s.started s.journalled s.journalled s.synced (max s.synced (target s.committed s.phase)) held.safe (omega arith) (omega arith);
    written = most s.synced (target s.committed s.phase) s.journalled held.written (omega (arith, held.begun, within));
    acked_is = ap (λ n. max n (target s.committed s.phase)) held.acked_is;
    open_ones = λ i slot is. record { above = (held.open_ones i slot is).above; begun = (held.open_ones i slot is).begun };
    apart = held.apart;
    pausing = isnt_so;
    saving = isnt_so;
    trimming = λ is. refl;
    snaps = isnt_so;
    syncs = isnt_so;
    still = λ par. isnt_so;
  }
    where
      within : s.started ≤ s.journalled
      within = subst (λ b. s.started ≤ cond b s.journalled s.synced) (held.snaps ready) held.safe

      most : (a b n : ℕ) → a ≤ n → b ≤ n → max a b ≤ n
      most a b n one two = omega arith

  commit_keeps : (p : Phase) → p ≡ s.phase → commit_missing s p ≡ None → Chain (record s { phase = after_commit s.started p })
  commit_keeps phase.Idle is ready = with_phase phase.Pausing (ap (target s.committed) is) (λ so. more) isnt_so isnt_so isnt_so isnt_so (λ par. isnt_so)
    where
      from_target : target s.committed s.phase ≡ s.committed
      from_target = sym (ap (target s.committed) is)

      strict : (a b : ℕ) → a ≤ b → (b ≡ a → ⊥) → a < b
      strict a b le other = by (three a b le)
        where
          three : (a b : ℕ) → a ≤ b → (a < b) ⊎ (b ≡ a)
          three a b le = grind arith

          by : (a < b) ⊎ (b ≡ a) → a < b
          by (inl lt) = lt
          by (inr same) = absurd (other same)

      more : s.committed < s.started
      more = strict s.committed s.started (subst (λ n. n ≤ s.started) from_target held.begun) (unequal_is s.started s.committed (passes (nat_eq s.started s.committed) NothingApplied None ready).0)
  commit_keeps phase.Pausing is ready = record { well_formed = well _ refl; taken = omega (arith, held.taken, held.begun); begun = omega arith; safe = held.safe; written = held.written; acked_is = held.acked_is; open_ones = λ i slot holding. absurd (empty i slot holding); apart = held.apart; pausing = isnt_so; saving = λ so. held.pausing (sym (ap is_pausing is)); trimming = isnt_so; snaps = isnt_so; syncs = isnt_so; still = λ par so. (refl, empty) }
    where
      none : taken s.slots ≡ 0
      none = not_above (taken s.slots) (passes (nat_lt 0 (taken s.slots)) (StillOpen (taken s.slots)) None ready).0

      empty : (i : ℕ) (slot : Slot) → Holding s.slots i slot → ⊥
      empty i slot holding = none_taken s.slots none i slot holding
  commit_keeps (phase.MapSync n) is ready = absurd (some_not_none _ ready)
  commit_keeps (phase.TreeSync n) is ready = absurd (some_not_none _ ready)
  commit_keeps (phase.Seq n) is ready = absurd (some_not_none _ ready)
  commit_keeps (phase.Snap n) is ready = absurd (some_not_none _ ready)
  commit_keeps (phase.Trim n) is ready = absurd (some_not_none _ ready)

  start_keeps : (slot : Slot) → missing s turn.Start slot.groups ≡ None → slot.seq ≡ s.started + 1 → slot.next ≡ 0 → 0 < slot.ops → Chain (after s turn.Start (Some slot))
  start_keeps slot ready seq_is next_is some = by (position is_free s.slots) refl
    where
      unpaused : is_paused s.mode s.phase ≡ false
      unpaused = (passes (is_paused s.mode s.phase) Paused _ ready).0

      two : (nat_le (start_limit s) s.started ≡ false) × (when (is_none (position is_free s.slots)) NoSlot (conflict (position (meets_slot slot.groups) s.slots)) ≡ None)
      two = passes (nat_le (start_limit s) s.started) NothingToStart _ (passes (is_paused s.mode s.phase) Paused _ ready).1

      three : (is_none (position is_free s.slots) ≡ false) × (conflict (position (meets_slot slot.groups) s.slots) ≡ None)
      three = passes (is_none (position is_free s.slots)) NoSlot _ two.1

      room : s.started < start_limit s
      room = is_below (start_limit s) s.started two.0

      not_before : is_parallel s.mode ≡ true → is_before_snap s.phase ≡ true → ⊥
      not_before par so = not_both (is_paused s.mode s.phase) (before_paused s.mode s.phase so ∙ par) unpaused

      free_of : (j : ℕ) (t : Slot) → Holding s.slots j t → meet slot.groups t.groups ≡ false
      free_of j t holding = no_conflict slot.groups s.slots (position (meets_slot slot.groups) s.slots) refl three.1 j t holding

      by : (o : Option ℕ) → position is_free s.slots ≡ o → Chain (record s { started = s.started + 1; slots = placed s.slots o (Some slot) })
      by None is = absurd (not_both true refl (ap is_none (sym is) ∙ three.0))
      by (Some i) is = record {
        well_formed = record { eight = length-set s.slots i (Some slot) ∙ held.well_formed.eight; unfinished = λ j t holding. left j t (set_cases s.slots i j (Some slot) t lt holding) };
        taken = held.taken;
        begun = omega (arith, held.begun);
        safe = omega (arith, room);
        written = held.written;
        acked_is = held.acked_is;
        open_ones = λ j t holding. begun j t (set_cases s.slots i j (Some slot) t lt holding);
        apart = λ j k a b other one also. paired j k a b other (set_cases s.slots i j (Some slot) a lt one) (set_cases s.slots i k (Some slot) b lt also);
        pausing = λ so. absurd (not_both (is_paused s.mode s.phase) (pausing_paused s.mode s.phase so) unpaused);
        saving = held.saving;
        trimming = held.trimming;
        snaps = held.snaps;
        syncs = held.syncs;
        still = λ par so. absurd (not_before par so);
      }
        where
          lt : i < length s.slots
          lt = (position-Some is_free s.slots i None is).0

          left : (j : ℕ) (t : Slot) → Now s.slots i (Some slot) j t → t.next < t.ops
          left j t (inl (at, is)) = subst (λ u. u.next < u.ops) (some_same slot t is) (omega arith)
          left j t (inr (other, holding)) = held.well_formed.unfinished j t holding

          begun : (j : ℕ) (t : Slot) → Now s.slots i (Some slot) j t → IsOpen (record s { started = s.started + 1; slots = set s.slots i (Some slot) }) t
          begun j t (inl (at, is)) = subst (λ u. IsOpen (record s { started = s.started + 1; slots = set s.slots i (Some slot) }) u) (some_same slot t is) (record { above = omega (arith, held.begun); begun = omega arith })
          begun j t (inr (other, holding)) = opened _ refl refl (omega arith) t (held.open_ones j t holding)

          new_old : (k : ℕ) (t : Slot) → Holding s.slots k t → AreApart slot t
          new_old k t holding =
              let old = held.open_ones k t holding in
              record { groups = free_of k t holding; numbers = λ same. absurd (omega (arith, old.begun)) }

          old_new : (k : ℕ) (t : Slot) → Holding s.slots k t → AreApart t slot
          old_new k t holding =
              let old = held.open_ones k t holding in
              record { groups = meet_back slot.groups t.groups (free_of k t holding); numbers = λ same. absurd (omega (arith, old.begun)) }

          paired : (j k : ℕ) (a b : Slot) → j ≢ k → Now s.slots i (Some slot) j a → Now s.slots i (Some slot) k b → AreApart a b
          paired j k a b other (inl (at, is)) (inl (there, also)) = absurd (other (at ∙ sym there))
          paired j k a b other (inl (at, is)) (inr (else_there, holding)) = subst (λ u. AreApart u b) (some_same slot a is) (new_old k b holding)
          paired j k a b other (inr (else_there, holding)) (inl (there, also)) = subst (λ u. AreApart a u) (some_same slot b also) (old_new j a holding)
          paired j k a b other (inr (one_other, one)) (inr (two_other, two)) = held.apart j k a b other one two

  apply_keeps : (i : ℕ) → missing s (turn.Apply i) [] ≡ None → Chain (after s (turn.Apply i) None)
  apply_keeps i ready = by (get_or s.slots i None) refl
    where
      there : (nat_le 8 i ≡ false) × (is_free (get_or s.slots i None) ≡ false)
      there = both_false (nat_le 8 i) (is_free (get_or s.slots i None)) (passes (nat_le 8 i || is_free (get_or s.slots i None)) EmptySlot None ready).0

      lt : i < length s.slots
      lt = omega (arith, held.well_formed.eight, is_below 8 i there.0)

      by : (o : Option Slot) → get_or s.slots i None ≡ o → Chain (record s { slots = set s.slots i (advanced o) })
      by None is = absurd (not_both true refl (ap is_free (sym is) ∙ there.1))
      by (Some slot) is = record {
        well_formed = record { eight = length-set s.slots i (advanced (Some slot)) ∙ held.well_formed.eight; unfinished = λ j t holding. left j t (set_cases s.slots i j (advanced (Some slot)) t lt holding) };
        taken = held.taken;
        begun = held.begun;
        safe = held.safe;
        written = held.written;
        acked_is = held.acked_is;
        open_ones = λ j t holding. begun j t (set_cases s.slots i j (advanced (Some slot)) t lt holding);
        apart = λ j k a b other one two. still_apart j k a b other (was j a (set_cases s.slots i j (advanced (Some slot)) a lt one)) (was k b (set_cases s.slots i k (advanced (Some slot)) b lt two));
        pausing = held.pausing;
        saving = held.saving;
        trimming = held.trimming;
        snaps = held.snaps;
        syncs = held.syncs;
        still = λ par so. absurd ((held.still par so).1 i slot is);
      }
        where
          -- what was there before, with the same number and groups
          was : (j : ℕ) (t : Slot) → Now s.slots i (advanced (Some slot)) j t → (u : Slot) × Holding s.slots j u × (u.seq ≡ t.seq) × (u.groups ≡ t.groups)
          was j t (inr (other, holding)) = (t, holding, refl, refl)
          was j t (inl (at, now)) = (slot, ap (λ k. get_or s.slots k None) at ∙ is, (advance_same slot t now).0, (advance_same slot t now).1)

          left : (j : ℕ) (t : Slot) → Now s.slots i (advanced (Some slot)) j t → t.next < t.ops
          left j t (inl (at, now)) = (advance_same slot t now).2
          left j t (inr (other, holding)) = held.well_formed.unfinished j t holding

          begun : (j : ℕ) (t : Slot) → Now s.slots i (advanced (Some slot)) j t → IsOpen (record s { slots = set s.slots i (advanced (Some slot)) }) t
          begun j t which = from (was j t which)
            where
              from : (u : Slot) × Holding s.slots j u × (u.seq ≡ t.seq) × (u.groups ≡ t.groups) → IsOpen (record s { slots = set s.slots i (advanced (Some slot)) }) t
              from (u, holding, seq_is, groups_are) =
                  let old = held.open_ones j u holding in
                  record { above = subst (λ n. target s.committed s.phase < n) seq_is old.above; begun = subst (λ n. n ≤ s.started) seq_is old.begun }

          still_apart : (j k : ℕ) (a b : Slot) → j ≢ k → (u : Slot) × Holding s.slots j u × (u.seq ≡ a.seq) × (u.groups ≡ a.groups) → (u : Slot) × Holding s.slots k u × (u.seq ≡ b.seq) × (u.groups ≡ b.groups) → AreApart a b
          still_apart j k a b other (u, one, seq_is, groups_are) (v, two, seq_too, groups_too) =
              let old = held.apart j k u v other one two in
              record { groups = ap (λ l. meet l b.groups) (sym groups_are) ∙ ap (meet u.groups) (sym groups_too) ∙ old.groups; numbers = λ same. old.numbers (seq_is ∙ same ∙ sym seq_too) }

keeps : (s : Core) (t : Turn) (slot : Option Slot) → Chain s → missing s t (front_of slot) ≡ None → IsGiven s t slot → Chain (after s t slot)
keeps s turn.Journal None held ready given = journal_keeps s held
keeps s turn.Journal (Some slot) held ready given = absurd given
keeps s turn.Sync None held ready given = sync_keeps s held
keeps s turn.Sync (Some slot) held ready given = absurd given
keeps s turn.Start None held ready given = absurd given
keeps s turn.Start (Some slot) held ready (seq_is, next_is, some) = start_keeps s held slot ready seq_is next_is some
keeps s (turn.Apply i) None held ready given = apply_keeps s held i ready
keeps s (turn.Apply i) (Some slot) held ready given = absurd given
keeps s turn.Commit None held ready given = commit_keeps s held s.phase refl ready
keeps s turn.Commit (Some slot) held ready given = absurd given
keeps s turn.MapSync None held ready given = map_sync_keeps s held (turned (is_map_sync s.phase) (passes (not (is_map_sync s.phase)) NotItsPhase None ready).0)
keeps s turn.MapSync (Some slot) held ready given = absurd given
keeps s turn.TreeSync None held ready given = tree_sync_keeps s held (turned (is_tree_sync s.phase) (passes (not (is_tree_sync s.phase)) NotItsPhase None ready).0)
keeps s turn.TreeSync (Some slot) held ready given = absurd given
keeps s turn.Seq None held ready given = seq_keeps s held (turned (is_seq s.phase) (passes (not (is_seq s.phase)) NotItsPhase None ready).0)
keeps s turn.Seq (Some slot) held ready given = absurd given
keeps s turn.Snap None held ready given = snap_keeps s held (turned (is_snap s.phase) (passes (not (is_snap s.phase)) NotItsPhase None ready).0)
keeps s turn.Snap (Some slot) held ready given = absurd given
keeps s turn.Trim None held ready given = trim_keeps s held (turned (is_trim s.phase) (passes (not (is_trim s.phase)) NotItsPhase None ready).0)
keeps s turn.Trim (Some slot) held ready given = absurd given
keeps s turn.Sweep None held ready given = sweep_keeps s held
keeps s turn.Sweep (Some slot) held ready given = absurd given

acked_grows : (s : Core) (t : Turn) (slot : Option Slot) → s.acked ≤ (after s t slot).acked
acked_grows s turn.Sync slot = omega arith
acked_grows s turn.Snap slot = omega arith
acked_grows s turn.Journal slot = omega arith
acked_grows s turn.Start slot = omega arith
acked_grows s (turn.Apply i) slot = omega arith
acked_grows s turn.Commit slot = omega arith
acked_grows s turn.MapSync slot = omega arith
acked_grows s turn.TreeSync slot = omega arith
acked_grows s turn.Seq slot = omega arith
acked_grows s turn.Trim slot = omega arith
acked_grows s turn.Sweep slot = omega arith

seq_grows : (b : Bool) (n m : ℕ) → n ≤ m → n ≤ cond b n m
seq_grows true n m le = omega arith
seq_grows false n m le = le

committed_grows : (s : Core) (t : Turn) (slot : Option Slot) → Chain s → s.committed ≤ (after s t slot).committed
committed_grows s turn.Seq slot held = seq_grows (is_parallel s.mode) s.committed (target s.committed s.phase) held.taken
committed_grows s turn.Snap slot held = held.taken
committed_grows s turn.Journal slot held = omega arith
committed_grows s turn.Sync slot held = omega arith
committed_grows s turn.Start slot held = omega arith
committed_grows s (turn.Apply i) slot held = omega arith
committed_grows s turn.Commit slot held = omega arith
committed_grows s turn.MapSync slot held = omega arith
committed_grows s turn.TreeSync slot held = omega arith
committed_grows s turn.Trim slot held = omega arith
committed_grows s turn.Sweep slot held = omega arith

last_limit : (mode : Mode) (last : ℕ) → last ≤ cond (is_parallel mode) last last
last_limit WriteAhead last = omega arith
last_limit Parallel last = omega arith

pub turns_law : TurnsLaw
turns_law = record {
  keeps = λ s t slot held ready. keeps s t slot held ready.none ready.given;
  grows = λ s t slot held ready.
      let now = keeps s t slot held ready.none ready.given in
      record { acked = acked_grows s t slot; journalled = omega (arith, now.acked_is, now.written); committed = committed_grows s t slot held };
  begins = λ mode committed last trash le. record {
    well_formed = record { eight = length-replicate {A = Option Slot} 8 None; unfinished = λ i slot is. absurd (all_free i slot is) };
    taken = omega arith;
    begun = le;
    safe = last_limit mode last;
    written = omega arith;
    acked_is = refl;
    open_ones = λ i slot is. absurd (all_free i slot is);
    apart = λ i j one two other is also. absurd (all_free i one is);
    pausing = isnt_so;
    saving = isnt_so;
    trimming = isnt_so;
    snaps = isnt_so;
    syncs = isnt_so;
    still = λ par. isnt_so;
  };
  groups = λ front held none g. apart_groups front held none g;
}
