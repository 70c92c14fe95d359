-- A store, as contracts see it.
use Rattle.std.specs.Prelude.{◌≡◌, ℕ, ◌+◌, ◌-◌, List, [], map, length, Option, None}
use Rattle.fs_model.specs.declared.op.Op.{Op}
use Rattle.fs_model.specs.declared.op.Txn.{Txn}
use Rattle.tree_api.specs.Disk.{Disk as Files}
use Rattle.dev_api.specs.DeviceState.{DeviceState}
use Rattle.ring_journal.specs.State.{State, Holds as RingHolds}
use Rattle.store_turns.specs.declared.numbers.Numbers.{Numbers}
use Rattle.store_files.specs.declared.reading.Identity.{Identity}
use Rattle.store_turns.specs.State.{Fits}
use Rattle.store_queue.specs.Waiting.{Waiting, with_txn as queue_with}
use Rattle.apply_ops.specs.Next.{IsReady}
use Rattle.file_store.specs.declared.fault.First.{First}

pub record Store : Type 0 where
  -- which store it is, and its settings
  pub identity : Identity
  pub numbers : Numbers
  -- the journal's ring
  pub ring : State
  -- the transactions that wait, and the collections after them
  pub queue : Waiting
  -- the first fault of the tree or the device, or want of memory, that a drain met
  pub first : Option First

-- no fault was met
abbrev pub Works : Store → Type 0
Works s = s.first ≡ None

-- one in which no fault was met
abbrev pub working : Identity → Numbers → State → Waiting → Store
working identity numbers ring queue = record { identity = identity; numbers = numbers; ring = ring; queue = queue; first = None }

-- The numbers fit the ring and the queue, and the ring is this store's.
pub record IsCounted (s : Store) : Type 0 where
  pub fits : Fits s.numbers s.ring
  pub fsid : s.ring.head.fsid ≡ s.identity.fsid
  pub last : s.queue.last ≡ s.numbers.journalled + length s.queue.txns
  pub size : s.queue.size ≡ s.ring.head.size - 8192

-- they do, unless a fault was met
abbrev pub IsSound : Store → Type 0
IsSound s = Works s → IsCounted s

-- it is the tree that the store was mounted on, changed since by this store alone
abbrev pub IsItsTree : Store → Type 0 → Files → Type 0
IsItsTree s told t = told → Works s → IsReady s.identity.settings t

-- and the device
pub record IsItsDevice (s : Store) (told : Type 0) (d : DeviceState) : Type 0 where
  pub extent : Works s → d.size ≡ s.ring.head.size
  pub ring : told → Works s → RingHolds s.ring d.disk

-- the operations of each transaction that waits
abbrev pub waiting_in : Store → List (List Op)
waiting_in s = map (λ txn. txn.ops) s.queue.txns

-- with one transaction more, which has this number
abbrev pub with_txn : Store → Txn → ℕ → Store
with_txn s txn seq = record s { queue = queue_with s.queue txn seq }

-- All that waited is journalled, applied and committed.
pub record IsDrained (old new : Store) : Type 0 where
  pub identity : new.identity ≡ old.identity
  pub numbers : new.numbers ≡ record { journalled = old.queue.last; committed = old.queue.last }
  pub queue : new.queue ≡ record old.queue { txns = [] }
  pub works : Works new
  pub size : new.ring.head.size ≡ old.ring.head.size
