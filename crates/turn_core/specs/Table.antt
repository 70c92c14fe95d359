-- The table of turns: the first condition that a turn misses, and what it does to the numbers.
use Rattle.std.specs.Prelude.{◌≡◌, Result, Ok, Err, ℕ, ◌+◌, ◌-◌, ◌<◌, ◌^◌, max, Bool, true, false, cond, not, ◌||◌, ◌==◌, nat_lt, nat_le, List, [], length, replicate, get_or, set, Option, Some, None, position}
use Rattle.fs_names.specs.declared.coll.GroupId.{GroupId}
use Rattle.fs_names.specs.declared.settings.Mode.{Mode}
use Rattle.turn_core.specs.declared.turn.Turn.{Turn}
use Rattle.turn_core.specs.declared.turn.Turn.TheVariants as turn
use Rattle.turn_core.specs.declared.turn.Phase.{Phase}
use Rattle.turn_core.specs.declared.turn.Phase.TheVariants as phase
use Rattle.turn_core.specs.declared.turn.NotReady.{NotReady}
use Rattle.turn_core.specs.declared.turn.NotReady.TheVariants.{NothingQueued, NothingToSync, Paused, NothingToStart, NoSlot, Conflict, EmptySlot, NothingApplied, StillOpen, CommitRunning, NotItsPhase, NothingToSweep}
use Rattle.turn_core.specs.declared.slots.Slot.{Slot}
use Rattle.turn_core.specs.declared.state.Core.{Core}
use Rattle.turn_core.specs.Slots.{is_free, meets_slot, taken, advanced, Holding}
use Rattle.turn_core.specs.Phases.{is_parallel, is_paused, is_map_sync, is_tree_sync, is_seq, is_snap, is_trim, target}

-- the last transaction that may start: a synced one, in parallel mode a journalled one
abbrev pub start_limit : Core → ℕ
start_limit core = cond (is_parallel core.mode) core.journalled core.synced

-- one condition of a row, and those after it
abbrev pub when : Bool → NotReady → Option NotReady → Option NotReady
when is_missing why rest = cond is_missing (Some why) rest

abbrev pub is_none : Option ℕ → Bool
is_none None = true
is_none (Some place) = false

abbrev pub conflict : Option ℕ → Option NotReady
conflict None = None
conflict (Some place) = Some (Conflict place)

abbrev pub commit_missing : Core → Phase → Option NotReady
commit_missing core phase.Idle = when (core.started == core.committed) NothingApplied None
commit_missing core phase.Pausing = when (nat_lt 0 (taken core.slots)) (StillOpen (taken core.slots)) None
commit_missing core (phase.MapSync n) = Some CommitRunning
commit_missing core (phase.TreeSync n) = Some CommitRunning
commit_missing core (phase.Seq n) = Some CommitRunning
commit_missing core (phase.Snap n) = Some CommitRunning
commit_missing core (phase.Trim n) = Some CommitRunning

-- the first missing condition of a turn, where front has the groups of the next transaction to start
abbrev pub missing : Core → Turn → List GroupId → Option NotReady
missing core turn.Journal front = when (core.waiting == 0) NothingQueued None
missing core turn.Sync front = when (nat_le core.journalled core.synced) NothingToSync None
missing core turn.Start front = when (is_paused core.mode core.phase) Paused (when (nat_le (start_limit core) core.started) NothingToStart (when (is_none (position is_free core.slots)) NoSlot (conflict (position (meets_slot front) core.slots))))
missing core (turn.Apply place) front = when (nat_le 8 place || is_free (get_or core.slots place None)) EmptySlot None
missing core turn.Commit front = commit_missing core core.phase
missing core turn.MapSync front = when (not (is_map_sync core.phase)) NotItsPhase None
missing core turn.TreeSync front = when (not (is_tree_sync core.phase)) NotItsPhase None
missing core turn.Seq front = when (not (is_seq core.phase)) NotItsPhase None
missing core turn.Snap front = when (not (is_snap core.phase)) NotItsPhase None
missing core turn.Trim front = when (not (is_trim core.phase)) NotItsPhase None
missing core turn.Sweep front = when (core.trash == 0) NothingToSweep None

-- the answer where this is missing
abbrev pub answer_of : Option NotReady → Result (Unit {0}) NotReady
answer_of None = Ok tt
answer_of (Some why) = Err why

-- the slots with one more taken
abbrev pub placed : List (Option Slot) → Option ℕ → Option Slot → List (Option Slot)
placed slots None slot = slots
placed slots (Some place) slot = set slots place slot

-- Idle becomes Pausing, and Pausing takes the greatest started number
abbrev pub after_commit : ℕ → Phase → Phase
after_commit started phase.Pausing = phase.MapSync started
after_commit started _ = phase.Pausing

-- what a turn does; a Start is given its slot
abbrev pub after : Core → Turn → Option Slot → Core
after core turn.Journal slot = record core { waiting = core.waiting - 1; journalled = core.journalled + 1 }
after core turn.Sync slot = record core { synced = core.journalled; acked = max core.acked core.journalled }
after core turn.Start slot = record core { started = core.started + 1; slots = placed core.slots (position is_free core.slots) slot }
after core (turn.Apply place) slot = record core { slots = set core.slots place (advanced (get_or core.slots place None)) }
after core turn.Commit slot = record core { phase = after_commit core.started core.phase }
after core turn.MapSync slot = record core { phase = cond (is_parallel core.mode) (phase.Seq (target core.committed core.phase)) (phase.TreeSync (target core.committed core.phase)) }
after core turn.TreeSync slot = record core { phase = phase.Seq (target core.committed core.phase) }
after core turn.Seq slot = record core { committed = cond (is_parallel core.mode) core.committed (target core.committed core.phase); phase = cond (is_parallel core.mode) (phase.Snap (target core.committed core.phase)) (phase.Trim (target core.committed core.phase)) }
after core turn.Snap slot = record core { committed = target core.committed core.phase; acked = max core.acked (target core.committed core.phase); synced = max core.synced (target core.committed core.phase); phase = phase.Trim (target core.committed core.phase) }
after core turn.Trim slot = record core { phase = phase.Idle }
after core turn.Sweep slot = record core { trash = core.trash - 1 }

-- eight slots, and an operation left in each taken one
pub record IsWellFormed (core : Core) : Type 0 where
  pub eight : length core.slots ≡ 8
  pub unfinished : (place : ℕ) (slot : Slot) → Holding core.slots place slot → slot.next < slot.ops

-- what a turn is given: at Start the slot of the next transaction, with nothing done, and at Journal a number that is left
abbrev pub IsGiven : Core → Turn → Option Slot → Type 0
IsGiven core turn.Start None = ⊥
IsGiven core turn.Start (Some slot) = (slot.seq ≡ core.started + 1) × (slot.next ≡ 0) × (0 < slot.ops)
IsGiven core turn.Journal None = core.journalled < 2 ^ 64 - 1
IsGiven core _ None = Unit {0}
IsGiven core _ (Some slot) = ⊥

abbrev pub front_of : Option Slot → List GroupId
front_of None = []
front_of (Some slot) = slot.groups

-- the numbers after mount
abbrev pub mounted : Mode → ℕ → ℕ → ℕ → Core
mounted mode committed last trash = record { mode = mode; waiting = 0; journalled = last; synced = last; acked = last; started = last; committed = committed; slots = replicate 8 None; phase = phase.Idle; trash = trash }
