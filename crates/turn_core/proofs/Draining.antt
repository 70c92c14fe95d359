-- Draining leaves less to do with each turn, and what holds at its end.
use Rattle.std.proofs.Common.{◌≡◌, ℕ, suc, ◌+◌, ◌-◌, ◌*◌, ◌<◌, ◌≤◌, max, Bool, true, false, cond, not, ◌||◌, List, [], ◌∷◌, length, get_or, set, Option, None, Some, nat_lt, nat_le, nat_eq, refl, sym, ◌∙◌, ap, subst, arith}
use Rattle.std.specs.Prelude.{position, IsSome}
use Rattle.std.proofs.Math.Nat.{suc-mul}
use Rattle.std.proofs.lemmas.List.Quantifiers.{position-Some}
use Rattle.std.proofs.lemmas.List.Sums.{sum_by-set, sum_by-cons}
use Rattle.fs_names.specs.declared.coll.GroupId.{GroupId}
use Rattle.turn_core.specs.declared.turn.Turn.{Turn}
use Rattle.turn_core.specs.declared.turn.Turn.TheVariants as turn
use Rattle.turn_core.specs.declared.turn.Phase.{Phase}
use Rattle.turn_core.specs.declared.turn.Phase.TheVariants as phase
use Rattle.turn_core.specs.declared.turn.NotReady.{NotReady}
use Rattle.turn_core.specs.declared.turn.NotReady.TheVariants.{NothingQueued, NothingToSync, Paused, NothingToStart, NoSlot, EmptySlot, StillOpen, NothingApplied, NotItsPhase}
use Rattle.turn_core.specs.declared.slots.Slot.{Slot}
use Rattle.turn_core.specs.declared.state.Core.{Core}
use Rattle.turn_core.specs.Slots.{is_free, meets_slot, taken, advanced, Holding}
use Rattle.turn_core.specs.Phases.{is_parallel, is_paused, is_map_sync, is_tree_sync, is_seq, is_snap, is_trim, target}
use Rattle.turn_core.specs.Table.{start_limit, when, is_none, conflict, commit_missing, missing, placed, after_commit, after, IsGiven, front_of}
use Rattle.turn_core.specs.Chain.{Chain}
use Rattle.turn_core.specs.Drain.{left_of, ops_left, queued, turns_left, work, HasAtMost, drains, is_journal, IsDrained, DrainLaw}
use Rattle.turn_core.proofs.Rows.{some_not_none, not_both, turned, passes, both_false, equal_is, at_most, is_below}
use Rattle.turn_core.proofs.Places.{held_below, none_passes}
use Rattle.turn_core.proofs.Chains.{isnt_so, seq_before, snap_saving}

advanced_left : (slot : Slot) → slot.next < slot.ops → left_of (advanced (Some slot)) < left_of (Some slot)
advanced_left slot lt = by (nat_lt (slot.next + 1) slot.ops) refl
  where
    by : (b : Bool) → nat_lt (slot.next + 1) slot.ops ≡ b → left_of (cond b (Some (record slot { next = slot.next + 1 })) None) < slot.ops - slot.next
    by true more = omega (arith, lt)
    by false full = omega (arith, lt)

map_turns : (p : Phase) → is_map_sync p ≡ true → turns_left p ≡ 3
map_turns phase.Idle is = isnt_so is
map_turns phase.Pausing is = isnt_so is
map_turns (phase.MapSync n) is = refl
map_turns (phase.TreeSync n) is = isnt_so is
map_turns (phase.Seq n) is = isnt_so is
map_turns (phase.Snap n) is = isnt_so is
map_turns (phase.Trim n) is = isnt_so is

tree_turns : (p : Phase) → is_tree_sync p ≡ true → turns_left p ≡ 2
tree_turns phase.Idle is = isnt_so is
tree_turns phase.Pausing is = isnt_so is
tree_turns (phase.MapSync n) is = isnt_so is
tree_turns (phase.TreeSync n) is = refl
tree_turns (phase.Seq n) is = isnt_so is
tree_turns (phase.Snap n) is = isnt_so is
tree_turns (phase.Trim n) is = isnt_so is

seq_turns : (p : Phase) → is_seq p ≡ true → turns_left p ≡ 1
seq_turns phase.Idle is = isnt_so is
seq_turns phase.Pausing is = isnt_so is
seq_turns (phase.MapSync n) is = isnt_so is
seq_turns (phase.TreeSync n) is = isnt_so is
seq_turns (phase.Seq n) is = refl
seq_turns (phase.Snap n) is = isnt_so is
seq_turns (phase.Trim n) is = isnt_so is

trim_turns : (p : Phase) → is_trim p ≡ true → turns_left p ≡ 6
trim_turns phase.Idle is = isnt_so is
trim_turns phase.Pausing is = isnt_so is
trim_turns (phase.MapSync n) is = isnt_so is
trim_turns (phase.TreeSync n) is = isnt_so is
trim_turns (phase.Seq n) is = isnt_so is
trim_turns (phase.Snap n) is = isnt_so is
trim_turns (phase.Trim n) is = refl

-- the sum over plain numbers: what starts, what is applied, what waits, what is to be synced and committed, and the phase
fewer_phase : (a b : ℕ) (t u : ℕ) → u < t → a + b * 7 + u < a + b * 7 + t
fewer_phase a b t u lt = omega arith

limit_within : (b : Bool) (n j k : ℕ) → n < cond b j k → k ≤ j → n < j
limit_within true n j k lt le = lt
limit_within false n j k lt le = omega arith

limit_under : (b : Bool) (n j k : ℕ) → n ≤ cond b j k → k ≤ j → n ≤ j
limit_under true n j k lt le = lt
limit_under false n j k lt le = omega arith

module _ (most : ℕ) (s : Core) (held : Chain s) where
  started_within : s.started ≤ s.journalled
  started_within = limit_under (is_parallel s.mode) s.started s.journalled s.synced held.safe held.written

  -- another phase with fewer turns left
  lower_phase : (p : Phase) → turns_left p < turns_left s.phase → work most (record s { phase = p }) < work most s
  lower_phase p lt = fewer_phase ((queued s - s.started) * (most + 1) + ops_left s.slots + s.waiting + (queued s - s.synced)) (queued s - s.committed) (turns_left s.phase) (turns_left p) lt

  journal_lowers : nat_eq s.waiting 0 ≡ false → work most (after s turn.Journal None) < work most s
  journal_lowers is = by (all_queued s.journalled s.waiting more)
    where
      positive : (n : ℕ) → nat_eq n 0 ≡ false → 0 < n
      positive n is = grind (arith, is)

      more : 0 < s.waiting
      more = positive s.waiting is

      all_queued : (j w : ℕ) → 0 < w → j + 1 + (w - 1) ≡ j + w
      all_queued j w lt = omega arith

      fewer : (x w y z : ℕ) → 0 < w → x + (w - 1) + y + z + turns_left s.phase < x + w + y + z + turns_left s.phase
      fewer x w y z lt = omega arith

      by : s.journalled + 1 + (s.waiting - 1) ≡ s.journalled + s.waiting → work most (after s turn.Journal None) < work most s
      by same = subst (λ q. (q - s.started) * (most + 1) + ops_left s.slots + (s.waiting - 1) + (q - s.synced) + (q - s.committed) * 7 + turns_left s.phase < work most s) (sym same) (fewer ((queued s - s.started) * (most + 1) + ops_left s.slots) s.waiting (queued s - s.synced) ((queued s - s.committed) * 7) more)

  sync_lowers : nat_le s.journalled s.synced ≡ false → work most (after s turn.Sync None) < work most s
  sync_lowers is = fewer ((queued s - s.started) * (most + 1) + ops_left s.slots + s.waiting) s.journalled s.waiting s.synced ((queued s - s.committed) * 7) (turns_left s.phase) (is_below s.journalled s.synced is)
    where
      fewer : (x j w y z t : ℕ) → y < j → x + (j + w - j) + z + t < x + (j + w - y) + z + t
      fewer x j w y z t lt = omega arith

  start_lowers : (slot : Slot) → missing s turn.Start slot.groups ≡ None → slot.next ≡ 0 → slot.ops ≤ most → work most (after s turn.Start (Some slot)) < work most s
  start_lowers slot ready next_is le = by (position is_free s.slots) refl
    where
      two : (nat_le (start_limit s) s.started ≡ false) × (when (is_none (position is_free s.slots)) NoSlot (conflict (position (meets_slot slot.groups) s.slots)) ≡ None)
      two = passes (nat_le (start_limit s) s.started) NothingToStart _ (passes (is_paused s.mode s.phase) Paused _ ready).1

      free : is_none (position is_free s.slots) ≡ false
      free = (passes (is_none (position is_free s.slots)) NoSlot _ two.1).0

      room : s.started < s.journalled
      room = limit_within (is_parallel s.mode) s.started s.journalled s.synced (is_below (start_limit s) s.started two.0) held.written

      none_left : (v : Option Slot) → is_free v ≡ true → left_of v ≡ 0
      none_left None is = refl
      none_left (Some one) is = isnt_so is

      one_more : (q n : ℕ) → n < q → (q - n) * (most + 1) ≡ (q - (n + 1)) * (most + 1) + (most + 1)
      one_more q n lt = ap (λ k. k * (most + 1)) (next q n lt) ∙ suc-mul (q - (n + 1)) (most + 1)
        where
          next : (q n : ℕ) → n < q → q - n ≡ suc (q - (n + 1))
          next q n lt = omega arith

      fewer : (x x_now o o_now d w y z t : ℕ) → x ≡ x_now + (most + 1) → o_now + 0 ≡ o + d → d ≤ most → x_now + o_now + w + y + z + t < x + o + w + y + z + t
      fewer x x_now o o_now d w y z t one two le = omega arith

      by : (o : Option ℕ) → position is_free s.slots ≡ o → work most (record s { started = s.started + 1; slots = placed s.slots o (Some slot) }) < work most s
      by None is = absurd (not_both true refl (ap is_none (sym is) ∙ free))
      by (Some i) is =
          let found = position-Some is_free s.slots i None is in
          fewer ((queued s - s.started) * (most + 1)) ((queued s - (s.started + 1)) * (most + 1)) (ops_left s.slots) (ops_left (set s.slots i (Some slot))) (slot.ops - slot.next) s.waiting (queued s - s.synced) ((queued s - s.committed) * 7) (turns_left s.phase)
          (one_more (queued s) s.started (omega (arith, room)))
          (ap (λ k. ops_left (set s.slots i (Some slot)) + k) (sym (none_left (get_or s.slots i None) found.1)) ∙ sum_by-set left_of s.slots i (Some slot) None found.0)
          (omega (arith, le))

  apply_lowers : (i : ℕ) → missing s (turn.Apply i) [] ≡ None → work most (after s (turn.Apply i) None) < work most s
  apply_lowers i ready = by (get_or s.slots i None) refl
    where
      there : (nat_le 8 i ≡ false) × (is_free (get_or s.slots i None) ≡ false)
      there = both_false (nat_le 8 i) (is_free (get_or s.slots i None)) (passes (nat_le 8 i || is_free (get_or s.slots i None)) EmptySlot None ready).0

      inside : i < length s.slots
      inside = omega (arith, held.well_formed.eight, is_below 8 i there.0)

      fewer : (x o o_now d d_now w y z t : ℕ) → o_now + d ≡ o + d_now → d_now < d → x + o_now + w + y + z + t < x + o + w + y + z + t
      fewer x o o_now d d_now w y z t same lt = omega arith

      by : (v : Option Slot) → get_or s.slots i None ≡ v → work most (record s { slots = set s.slots i (advanced v) }) < work most s
      by None is = absurd (not_both true refl (ap is_free (sym is) ∙ there.1))
      by (Some slot) is =
          fewer ((queued s - s.started) * (most + 1)) (ops_left s.slots) (ops_left (set s.slots i (advanced (Some slot)))) (left_of (Some slot)) (left_of (advanced (Some slot))) s.waiting (queued s - s.synced) ((queued s - s.committed) * 7) (turns_left s.phase)
          (ap (λ v. ops_left (set s.slots i (advanced (Some slot))) + left_of v) (sym is) ∙ sum_by-set left_of s.slots i (advanced (Some slot)) None inside)
          (advanced_left slot (held.well_formed.unfinished i slot is))

  commit_lowers : (p : Phase) → p ≡ s.phase → commit_missing s p ≡ None → work most (record s { phase = after_commit s.started p }) < work most s
  commit_lowers phase.Idle is ready = lower_phase phase.Pausing (omega (arith, ap turns_left is))
  commit_lowers phase.Pausing is ready = lower_phase (phase.MapSync s.started) (omega (arith, ap turns_left is))
  commit_lowers (phase.MapSync n) is ready = absurd (some_not_none _ ready)
  commit_lowers (phase.TreeSync n) is ready = absurd (some_not_none _ ready)
  commit_lowers (phase.Seq n) is ready = absurd (some_not_none _ ready)
  commit_lowers (phase.Snap n) is ready = absurd (some_not_none _ ready)
  commit_lowers (phase.Trim n) is ready = absurd (some_not_none _ ready)

  map_sync_lowers : is_map_sync s.phase ≡ true → work most (after s turn.MapSync None) < work most s
  map_sync_lowers ready = by (is_parallel s.mode)
    where
      by : (b : Bool) → work most (record s { phase = cond b (phase.Seq (target s.committed s.phase)) (phase.TreeSync (target s.committed s.phase)) }) < work most s
      by true = lower_phase (phase.Seq (target s.committed s.phase)) (omega (arith, map_turns s.phase ready))
      by false = lower_phase (phase.TreeSync (target s.committed s.phase)) (omega (arith, map_turns s.phase ready))

  tree_sync_lowers : is_tree_sync s.phase ≡ true → work most (after s turn.TreeSync None) < work most s
  tree_sync_lowers ready = lower_phase (phase.Seq (target s.committed s.phase)) (omega (arith, tree_turns s.phase ready))

  trim_lowers : is_trim s.phase ≡ true → work most (after s turn.Trim None) < work most s
  trim_lowers ready = lower_phase phase.Idle (omega (arith, trim_turns s.phase ready))

  -- a commit that is done has less to save
  done : (x : ℕ) (q c n t : ℕ) → c < n → n ≤ q → x + (q - n) * 7 + 6 < x + (q - c) * 7 + t
  done x q c n t lt le = omega arith

  target_within : target s.committed s.phase ≤ queued s
  target_within = omega (arith, held.begun, started_within)

  seq_lowers : is_seq s.phase ≡ true → work most (after s turn.Seq None) < work most s
  seq_lowers ready = by (is_parallel s.mode)
    where
      by : (b : Bool) → work most (record s { committed = cond b s.committed (target s.committed s.phase); phase = cond b (phase.Snap (target s.committed s.phase)) (phase.Trim (target s.committed s.phase)) }) < work most s
      by true = lower_phase (phase.Snap (target s.committed s.phase)) (omega (arith, seq_turns s.phase ready))
      by false = done ((queued s - s.started) * (most + 1) + ops_left s.slots + s.waiting + (queued s - s.synced)) (queued s) s.committed (target s.committed s.phase) (turns_left s.phase) (held.saving (seq_before s.phase ready).1) target_within

  snap_lowers : is_snap s.phase ≡ true → work most (after s turn.Snap None) < work most s
  snap_lowers ready = fewer ((queued s - s.started) * (most + 1) + ops_left s.slots + s.waiting) (queued s) s.synced s.committed (target s.committed s.phase) (turns_left s.phase) (held.saving (snap_saving s.phase ready)) target_within
    where
      fewer : (x q y c n t : ℕ) → c < n → n ≤ q → x + (q - max y n) + (q - n) * 7 + 6 < x + (q - y) + (q - c) * 7 + t
      fewer x q y c n t lt le = omega arith

lowers : (most : ℕ) (s : Core) (t : Turn) (slot : Option Slot) → Chain s → missing s t (front_of slot) ≡ None → IsGiven s t slot → drains t ≡ true → HasAtMost most slot → work most (after s t slot) < work most s
lowers most s turn.Journal None held ready given is le = journal_lowers most s held (passes (nat_eq s.waiting 0) NothingQueued None ready).0
lowers most s turn.Journal (Some slot) held ready given is le = absurd given
lowers most s turn.Sync None held ready given is le = sync_lowers most s held (passes (nat_le s.journalled s.synced) NothingToSync None ready).0
lowers most s turn.Sync (Some slot) held ready given is le = absurd given
lowers most s turn.Start None held ready given is le = absurd given
lowers most s turn.Start (Some slot) held ready (seq_is, next_is, some) is le = start_lowers most s held slot ready next_is le
lowers most s (turn.Apply i) None held ready given is le = apply_lowers most s held i ready
lowers most s (turn.Apply i) (Some slot) held ready given is le = absurd given
lowers most s turn.Commit None held ready given is le = commit_lowers most s held s.phase refl ready
lowers most s turn.Commit (Some slot) held ready given is le = absurd given
lowers most s turn.MapSync None held ready given is le = map_sync_lowers most s held (turned (is_map_sync s.phase) (passes (not (is_map_sync s.phase)) NotItsPhase None ready).0)
lowers most s turn.MapSync (Some slot) held ready given is le = absurd given
lowers most s turn.TreeSync None held ready given is le = tree_sync_lowers most s held (turned (is_tree_sync s.phase) (passes (not (is_tree_sync s.phase)) NotItsPhase None ready).0)
lowers most s turn.TreeSync (Some slot) held ready given is le = absurd given
lowers most s turn.Seq None held ready given is le = seq_lowers most s held (turned (is_seq s.phase) (passes (not (is_seq s.phase)) NotItsPhase None ready).0)
lowers most s turn.Seq (Some slot) held ready given is le = absurd given
lowers most s turn.Snap None held ready given is le = snap_lowers most s held (turned (is_snap s.phase) (passes (not (is_snap s.phase)) NotItsPhase None ready).0)
lowers most s turn.Snap (Some slot) held ready given is le = absurd given
lowers most s turn.Trim None held ready given is le = trim_lowers most s held (turned (is_trim s.phase) (passes (not (is_trim s.phase)) NotItsPhase None ready).0)
lowers most s turn.Trim (Some slot) held ready given is le = absurd given
lowers most s turn.Sweep slot held ready given is le = isnt_so is

-- a condition that is missing holds
some_missing : (b : Bool) (why : NotReady) → IsSome (when b why None) → b ≡ true
some_missing true why is = refl
some_missing false why is = isnt_so is

-- where nothing is open, no slot is taken
none_open_taken : (slots : List (Option Slot)) → ((j : ℕ) (t : Slot) → Holding slots j t → ⊥) → taken slots ≡ 0
none_open_taken [] none = refl
none_open_taken (None ∷ slots) none = omega (arith, sum_by-cons (λ o. cond (not (is_free o)) 1 0) None slots, none_open_taken slots (λ j t is. none (suc j) t is))
none_open_taken (Some slot ∷ slots) none = absurd (none 0 slot refl)

module _ (s : Core) (front : List GroupId) (held : Chain s) (ends : (t : Turn) → drains t ≡ true → is_journal t ≡ false → IsSome (missing s t front)) where
  none_open : (place : ℕ) (slot : Slot) → Holding s.slots place slot → ⊥
  none_open place slot holding = by (nat_le 8 place) refl (some_missing (nat_le 8 place || is_free (get_or s.slots place None)) EmptySlot (ends (turn.Apply place) refl refl))
    where
      below : place < 8
      below = subst (λ n. place < n) held.well_formed.eight (held_below s.slots place slot holding)

      by : (b : Bool) → nat_le 8 place ≡ b → (nat_le 8 place || is_free (get_or s.slots place None)) ≡ true → ⊥
      by true is so = absurd (omega (arith, at_most 8 place is, below))
      by false is so = not_both false (ap (λ b. b || is_free (Some slot)) (sym is) ∙ ap (λ v. nat_le 8 place || is_free v) (sym holding) ∙ so) refl

  idle : (p : Phase) → s.phase ≡ p → p ≡ phase.Idle
  idle phase.Idle is = refl
  idle phase.Pausing is = absurd (not_both false (by (subst (λ p. IsSome (commit_missing s p)) is (ends turn.Commit refl refl))) refl)
    where
      by : IsSome (commit_missing s phase.Pausing) → false ≡ true
      by some = ap (nat_lt 0) (sym (none_open_taken s.slots none_open)) ∙ some_missing (nat_lt 0 (taken s.slots)) (StillOpen (taken s.slots)) some
  idle (phase.MapSync n) is = isnt_so (subst (λ p. IsSome (when (not (is_map_sync p)) NotItsPhase None)) is (ends turn.MapSync refl refl))
  idle (phase.TreeSync n) is = isnt_so (subst (λ p. IsSome (when (not (is_tree_sync p)) NotItsPhase None)) is (ends turn.TreeSync refl refl))
  idle (phase.Seq n) is = isnt_so (subst (λ p. IsSome (when (not (is_seq p)) NotItsPhase None)) is (ends turn.Seq refl refl))
  idle (phase.Snap n) is = isnt_so (subst (λ p. IsSome (when (not (is_snap p)) NotItsPhase None)) is (ends turn.Snap refl refl))
  idle (phase.Trim n) is = isnt_so (subst (λ p. IsSome (when (not (is_trim p)) NotItsPhase None)) is (ends turn.Trim refl refl))

  phase_is : s.phase ≡ phase.Idle
  phase_is = idle s.phase refl

  each_free : (v : Option Slot) (i : ℕ) → get_or s.slots i None ≡ v → v ≡ None
  each_free None i is = refl
  each_free (Some slot) i is = absurd (none_open i slot is)

  free_at : (i : ℕ) → get_or s.slots i None ≡ None
  free_at i = each_free (get_or s.slots i None) i refl

  -- a slot is free, and none conflicts
  slots_let : (one two : Option ℕ) → position is_free s.slots ≡ one → position (meets_slot front) s.slots ≡ two → when (is_none one) NoSlot (conflict two) ≡ None
  slots_let None two is also = absurd (not_both true refl (ap is_free (sym (free_at 0)) ∙ none_passes is_free s.slots is 0 (omega (arith, held.well_formed.eight))))
  slots_let (Some i) (Some j) is also = absurd (not_both (meets_slot front (get_or s.slots j None)) (position-Some (meets_slot front) s.slots j None also).1 (ap (meets_slot front) (free_at j)))
  slots_let (Some i) None is also = refl

  limit_reached : start_limit s ≤ s.started
  limit_reached = by (nat_le (start_limit s) s.started) refl
    where
      some : IsSome (when (nat_le (start_limit s) s.started) NothingToStart (when (is_none (position is_free s.slots)) NoSlot (conflict (position (meets_slot front) s.slots))))
      some = subst (λ p. IsSome (when (is_paused s.mode p) Paused (when (nat_le (start_limit s) s.started) NothingToStart (when (is_none (position is_free s.slots)) NoSlot (conflict (position (meets_slot front) s.slots)))))) phase_is (ends turn.Start refl refl)

      by : (b : Bool) → nat_le (start_limit s) s.started ≡ b → start_limit s ≤ s.started
      by true is = at_most (start_limit s) s.started is
      by false is = isnt_so (subst (λ o. IsSome o) (slots_let (position is_free s.slots) (position (meets_slot front) s.slots) refl refl) (subst (λ b. IsSome (when b NothingToStart (when (is_none (position is_free s.slots)) NoSlot (conflict (position (meets_slot front) s.slots))))) is some))

  equal : (a b : ℕ) → a ≤ b → b ≤ a → a ≡ b
  equal a b one two = omega arith

  synced_is : s.synced ≡ s.journalled
  synced_is = equal s.synced s.journalled held.written (at_most s.journalled s.synced (some_missing (nat_le s.journalled s.synced) NothingToSync (ends turn.Sync refl refl)))

  limit_is : (b : Bool) → cond b s.journalled s.synced ≡ s.journalled
  limit_is true = refl
  limit_is false = synced_is

  started_is : s.started ≡ s.journalled
  started_is = equal s.started (start_limit s) held.safe limit_reached ∙ limit_is (is_parallel s.mode)

  committed_is : s.committed ≡ s.journalled
  committed_is = sym (equal_is s.started s.committed (some_missing (nat_eq s.started s.committed) NothingApplied (subst (λ p. IsSome (commit_missing s p)) phase_is (ends turn.Commit refl refl)))) ∙ started_is

  drained : IsDrained s
  drained = record { synced = synced_is; acked = held.acked_is ∙ synced_is; started = started_is; committed = committed_is; idle = phase_is; none_open = none_open }

pub drain_law : DrainLaw
drain_law = record {
  lowers = λ most s t slot held ready is le. lowers most s t slot held ready.none ready.given is le;
  ends = λ s front held ends. drained s front held ends;
}
