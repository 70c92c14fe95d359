-- The chain of a store's numbers, which every turn keeps in both modes.
use Rattle.std.specs.Prelude.{◌≡◌, ◌≢◌, ◌⊎◌, ℕ, ◌<◌, ◌≤◌, true, false, List, Option, None}
use Rattle.fs_names.specs.declared.coll.GroupId.{GroupId}
use Rattle.fs_names.specs.declared.settings.Mode.{Mode}
use Rattle.turn_core.specs.declared.turn.Turn.{Turn}
use Rattle.turn_core.specs.declared.slots.Slot.{Slot}
use Rattle.turn_core.specs.declared.state.Core.{Core}
use Rattle.turn_core.specs.Groups.{among, meet}
use Rattle.turn_core.specs.Slots.{Holding}
use Rattle.turn_core.specs.Phases.{is_parallel, is_pausing, is_tree_sync, is_snap, is_trim, is_before_snap, is_saving, target}
use Rattle.turn_core.specs.Table.{start_limit, missing, after, IsWellFormed, IsGiven, front_of, mounted}

-- an open transaction has a number above the one that the commit took, up to the started one
pub record IsOpen (core : Core) (slot : Slot) : Type 0 where
  pub above : target core.committed core.phase < slot.seq
  pub begun : slot.seq ≤ core.started

-- no group in common, and not one number
pub record AreApart (one two : Slot) : Type 0 where
  pub groups : meet one.groups two.groups ≡ false
  pub numbers : one.seq ≢ two.seq

-- committed ≤ the number that the commit took ≤ started ≤ the start limit, and synced ≤ journalled
pub record Chain (core : Core) : Type 0 where
  pub well_formed : IsWellFormed core
  pub taken : core.committed ≤ target core.committed core.phase
  pub begun : target core.committed core.phase ≤ core.started
  pub safe : core.started ≤ start_limit core
  pub written : core.synced ≤ core.journalled
  pub acked_is : core.acked ≡ core.synced
  pub open_ones : (place : ℕ) (slot : Slot) → Holding core.slots place slot → IsOpen core slot
  pub apart : (i j : ℕ) (one two : Slot) → i ≢ j → Holding core.slots i one → Holding core.slots j two → AreApart one two
  -- a commit saves something new
  pub pausing : is_pausing core.phase ≡ true → core.committed < core.started
  pub saving : is_saving core.phase ≡ true → core.committed < target core.committed core.phase
  pub trimming : is_trim core.phase ≡ true → target core.committed core.phase ≡ core.committed
  -- snapshots in parallel mode alone, whole syncs in write-ahead mode alone
  pub snaps : is_snap core.phase ≡ true → is_parallel core.mode ≡ true
  pub syncs : is_tree_sync core.phase ≡ true → is_parallel core.mode ≡ false
  -- in parallel mode, until the snapshot is there, nothing is open and nothing was started above the number
  pub still : is_parallel core.mode ≡ true → is_before_snap core.phase ≡ true → (target core.committed core.phase ≡ core.started) × ((place : ℕ) (slot : Slot) → Holding core.slots place slot → ⊥)

-- a turn that is ready, with what it is given
pub record IsReady (core : Core) (turn : Turn) (slot : Option Slot) : Type 0 where
  pub none : missing core turn (front_of slot) ≡ None
  pub given : IsGiven core turn slot

-- what was acknowledged stays so and is in the journal, and what was committed stays so
pub record Grows (old new : Core) : Type 0 where
  pub acked : old.acked ≤ new.acked
  pub journalled : new.acked ≤ new.journalled
  pub committed : old.committed ≤ new.committed

pub record TurnsLaw : Type 0 where
  pub keeps : (core : Core) (turn : Turn) (slot : Option Slot) → Chain core → IsReady core turn slot → Chain (after core turn slot)
  pub grows : (core : Core) (turn : Turn) (slot : Option Slot) → Chain core → IsReady core turn slot → Grows core (after core turn slot)
  pub begins : (mode : Mode) (committed last trash : ℕ) → committed ≤ last → Chain (mounted mode committed last trash)
  -- where groups don't meet, no group stands in both
  pub groups : (front held : List GroupId) → meet front held ≡ false → (group : GroupId) → (among front group ≡ false) ⊎ (among held group ≡ false)
