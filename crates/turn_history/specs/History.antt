-- The slots of a store, seen in the history of its transactions.
use Rattle.std.specs.Prelude.{◌≡◌, ℕ, ◌+◌, ◌-◌, ◌≤◌, List, [], ◌∷◌, length, Option, Some, None}
use Rattle.fs_names.specs.declared.coll.GroupId.{GroupId}
use Rattle.turn_core.specs.declared.turn.Turn.{Turn}
use Rattle.turn_core.specs.declared.turn.Turn.TheVariants as turn
use Rattle.turn_core.specs.declared.slots.Slot.{Slot}
use Rattle.turn_core.specs.declared.state.Core.{Core}
use Rattle.turn_core.specs.Groups.{among}
use Rattle.turn_core.specs.Slots.{Holding}
use Rattle.turn_core.specs.Phases.{target}
use Rattle.turn_core.specs.Table.{after}
use Rattle.turn_core.specs.Chain.{Chain, IsReady}
use Rattle.replay_laws.specs.Replay.{Raises}
use Rattle.slot_laws.specs.History.{Txn, txn, count, line, AllWithin, Open, AreOpen}
use Rattle.slot_laws.specs.Slots.{Reads, Image, DoesOp}

-- The transactions of a history have the numbers after base.
abbrev pub open_of : ℕ → Option Slot → Option Open
open_of base None = None
open_of base (Some slot) = Some (record { index = slot.seq - (base + 1); next = slot.next })

abbrev pub opens_of : ℕ → List (Option Slot) → List (Option Open)
opens_of base [] = []
opens_of base (slot ∷ slots) = open_of base slot ∷ opens_of base slots

-- the slot's operations and groups are its transaction's
pub record Matches {C V : Type 0} (group : C → GroupId) (base : ℕ) (ts : List (Txn C V)) (slot : Slot) : Type 0 where
  pub ops_are : slot.ops ≡ length (txn ts (slot.seq - (base + 1))).ops
  pub names_are : (x : C) → (txn ts (slot.seq - (base + 1))).names x ≡ among slot.groups (group x)

pub record Opens {C V : Type 0} (group : C → GroupId) (base : ℕ) (ts : List (Txn C V)) (s : Core) : Type 0 where
  pub low : base ≤ s.started
  pub open_ones : AreOpen ts (s.started - base) (opens_of base s.slots)
  pub each : (i : ℕ) (slot : Slot) → Holding s.slots i slot → Matches group base ts slot

abbrev pub MatchesIf : {C V : Type 0} → (C → GroupId) → ℕ → List (Txn C V) → Option Slot → Type 0
MatchesIf group base ts None = Unit {0}
MatchesIf group base ts (Some slot) = Matches group base ts slot

-- the tree as it reads
abbrev pub ReadsOf : {C V : Type 0} → (ℕ → V → V) → (C → V) → ℕ → List (Txn C V) → Core → (C → V) → (C → ℕ) → (C → ℕ) → Type 0
ReadsOf raise origin base ts s = Reads raise origin ts (s.started - base) (opens_of base s.slots)

pub record HistoryLaw (C V : Type 0) : Type 0 where
  pub keeps : (group : C → GroupId) (base : ℕ) (ts : List (Txn C V)) (s : Core) (t : Turn) (slot : Option Slot) → Chain s → Opens group base ts s → IsReady s t slot → MatchesIf group base ts slot → Opens group base ts (after s t slot)
  -- an Apply turn, whose operation does what it owes: the tree reads as the turn says, also where the slot becomes free
  pub apply : (raise : ℕ → V → V) → Raises raise → (origin : C → V) (group : C → GroupId) (base : ℕ) (ts : List (Txn C V)) → AllWithin ts → (s : Core) (i : ℕ) (slot : Slot) → Chain s → Opens group base ts s → IsReady s (turn.Apply i) None → Holding s.slots i slot
      → (old new : C → V) (guards guards_now passed passed_now : C → ℕ) → DoesOp (line raise origin ts (s.started - base)) (λ x. among slot.groups (group x)) (count ts (slot.seq - (base + 1)) + slot.next) old new guards guards_now passed passed_now
      → ReadsOf raise origin base ts s old guards passed → ReadsOf raise origin base ts (after s (turn.Apply i) None) new guards_now passed_now
  -- a Start turn
  pub start : (raise : ℕ → V → V) (origin : C → V) (group : C → GroupId) (base : ℕ) (ts : List (Txn C V)) → AllWithin ts → (s : Core) (slot : Slot) → Chain s → Opens group base ts s → IsReady s turn.Start (Some slot) → Matches group base ts slot
      → (cells : C → V) (guards passed : C → ℕ) → ((x : C) → passed x ≤ count ts (s.started - base)) → ReadsOf raise origin base ts s cells guards passed → ReadsOf raise origin base ts (after s turn.Start (Some slot)) cells guards passed
  -- what reads is an image with the number that a commit took, so TreeSync may make it the only one
  pub synced : (raise : ℕ → V → V) (origin : C → V) (group : C → GroupId) (base : ℕ) (ts : List (Txn C V)) (s : Core) → Chain s → Opens group base ts s → (cells : C → V) (guards passed : C → ℕ) → ReadsOf raise origin base ts s cells guards passed → Image raise origin ts (s.started - base) (target s.committed s.phase - base) cells guards passed
