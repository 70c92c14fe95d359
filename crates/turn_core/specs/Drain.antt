-- Why draining ends, and what holds then.
use Rattle.std.specs.Prelude.{◌≡◌, ℕ, ◌+◌, ◌-◌, ◌*◌, ◌<◌, ◌≤◌, Bool, true, false, List, Option, None, Some, sum_by, IsSome}
use Rattle.fs_names.specs.declared.coll.GroupId.{GroupId}
use Rattle.turn_core.specs.declared.turn.Turn.{Turn}
use Rattle.turn_core.specs.declared.turn.Turn.TheVariants.{Journal, Sweep}
use Rattle.turn_core.specs.declared.turn.Phase.{Phase}
use Rattle.turn_core.specs.declared.turn.Phase.TheVariants.{Idle, Pausing, MapSync, TreeSync, Seq, Snap, Trim}
use Rattle.turn_core.specs.declared.slots.Slot.{Slot}
use Rattle.turn_core.specs.declared.state.Core.{Core}
use Rattle.turn_core.specs.Slots.{Holding}
use Rattle.turn_core.specs.Table.{missing, after}
use Rattle.turn_core.specs.Chain.{Chain, IsReady}

-- how many operations a slot has left, and all slots together
abbrev pub left_of : Option Slot → ℕ
left_of None = 0
left_of (Some slot) = slot.ops - slot.next

abbrev pub ops_left : List (Option Slot) → ℕ
ops_left slots = sum_by left_of slots

-- the last transaction that was queued
abbrev pub queued : Core → ℕ
queued core = core.journalled + core.waiting

-- how many turns a commit has left until it waits for the next one, whose turns count by its number
abbrev pub turns_left : Phase → ℕ
turns_left (Trim n) = 6
turns_left Idle = 5
turns_left Pausing = 4
turns_left (MapSync n) = 3
turns_left (TreeSync n) = 2
turns_left (Seq n) = 1
turns_left (Snap n) = 0

-- what is left to do: to start and apply, to journal, to sync and to commit; no transaction to come has more operations than `most`
abbrev pub work : ℕ → Core → ℕ
work most core = (queued core - core.started) * (most + 1) + ops_left core.slots + core.waiting + (queued core - core.synced) + (queued core - core.committed) * 7 + turns_left core.phase

-- no more operations than this, if there is a slot
abbrev pub HasAtMost : ℕ → Option Slot → Type 0
HasAtMost most None = Unit {0}
HasAtMost most (Some slot) = slot.ops ≤ most

-- a drain does every turn but the sweep
abbrev pub drains : Turn → Bool
drains Sweep = false
drains _ = true

abbrev pub is_journal : Turn → Bool
is_journal Journal = true
is_journal _ = false

-- all that is in the journal is synced, acknowledged, applied and committed, and nothing is open
pub record IsDrained (core : Core) : Type 0 where
  pub synced : core.synced ≡ core.journalled
  pub acked : core.acked ≡ core.journalled
  pub started : core.started ≡ core.journalled
  pub committed : core.committed ≡ core.journalled
  pub idle : core.phase ≡ Idle
  pub none_open : (place : ℕ) (slot : Slot) → Holding core.slots place slot → ⊥

pub record DrainLaw : Type 0 where
  -- every ready turn of a drain leaves less to do
  pub lowers : (most : ℕ) (core : Core) (turn : Turn) (slot : Option Slot) → Chain core → IsReady core turn slot → drains turn ≡ true → HasAtMost most slot → work most (after core turn slot) < work most core
  -- where no turn of a drain is ready, but for a write to the journal, which may find no room, the store is drained
  pub ends : (core : Core) (front : List GroupId) → Chain core → ((turn : Turn) → drains turn ≡ true → is_journal turn ≡ false → IsSome (missing core turn front)) → IsDrained core
