-- What the faults of the crates below are to a store.
use Rattle.std.specs.Prelude.{◌≡◌, ℕ, length, Some, Result, Ok, Err}
use Rattle.index_fault.specs.declared.IndexFault.{IndexFault}
use Rattle.index_fault.specs.declared.IndexFault.TheVariants as index
use Rattle.store_turns.specs.declared.numbers.StoreFault.{StoreFault}
use Rattle.store_turns.specs.declared.numbers.StoreFault.TheVariants as store
use Rattle.queue_rules.specs.declared.fault.QueueFault.{QueueFault as Unqueued}
use Rattle.queue_rules.specs.declared.fault.QueueFault.TheVariants as unqueued
use Rattle.file_store.specs.declared.fault.First.{First}
use Rattle.file_store.specs.declared.fault.First.TheVariants as first
use Rattle.file_store.specs.declared.fault.QueueFault.{QueueFault}
use Rattle.file_store.specs.declared.fault.QueueFault.TheVariants as queue
use Rattle.file_store.specs.declared.fault.TurnFault.{TurnFault}
use Rattle.file_store.specs.declared.fault.TurnFault.TheVariants as turn
use Rattle.file_store.specs.declared.fault.ReadFault.{ReadFault}
use Rattle.file_store.specs.declared.fault.ReadFault.TheVariants as reading
use Rattle.fs_model.specs.declared.op.Txn.{Txn}
use Rattle.queue_rules.specs.Outcome.{Outcome, outcome}
use Rattle.file_store.specs.Store.{Store, Works}

abbrev pub of_turn : StoreFault → TurnFault
of_turn (store.Damaged path) = turn.Damaged path
of_turn store.Tree = turn.Tree
of_turn store.Device = turn.Device
of_turn store.Memory = turn.Memory

abbrev pub of_index : IndexFault → ReadFault
of_index index.Memory = reading.Memory
of_index index.Tree = reading.Tree
of_index (index.Damaged path) = reading.Damaged path

-- what a sweep of the trash met
abbrev pub of_sweep : IndexFault → TurnFault
of_sweep index.Memory = turn.Memory
of_sweep index.Tree = turn.Tree
of_sweep (index.Damaged path) = turn.Damaged path

abbrev pub of_queue : Unqueued → QueueFault
of_queue (unqueued.Txn op why) = queue.Txn op why
of_queue (unqueued.NotBuilt op) = queue.NotBuilt op
of_queue (unqueued.TooLarge need size) = queue.TooLarge need size
of_queue unqueued.QueueFull = queue.QueueFull
of_queue unqueued.NumbersSpent = queue.NumbersSpent
of_queue unqueued.Memory = queue.Memory

-- the fault of a drain that was begun
abbrev pub IsTurned : TurnFault → Type 0
IsTurned (turn.Broken f) = ⊥
IsTurned turn.Tree = Unit {0}
IsTurned turn.Device = Unit {0}
IsTurned (turn.Damaged path) = Unit {0}
IsTurned turn.Memory = Unit {0}

-- which fault a drain that gave up leaves in the store
abbrev pub first_of : TurnFault → First
first_of (turn.Broken f) = f
first_of turn.Tree = first.Tree
first_of turn.Device = first.Device
first_of (turn.Damaged path) = first.Damaged
first_of turn.Memory = first.Memory

-- The store answers `Broken` with its first fault just where it has one, and is as it was then.
abbrev pub BreaksAt : Store → Store → TurnFault → Type 0
BreaksAt old new (turn.Broken f) = (old.first ≡ Some f) × (new ≡ old)
BreaksAt old new fault = Works old × (new.first ≡ Some (first_of fault))

-- the fault of a sweep
abbrev pub IsSweeps : TurnFault → Type 0
IsSweeps (turn.Broken f) = ⊥
IsSweeps turn.Tree = Unit {0}
IsSweeps turn.Device = ⊥
IsSweeps (turn.Damaged path) = Unit {0}
IsSweeps turn.Memory = Unit {0}

-- A close answers `Broken` just where the store has a first fault.
abbrev pub ClosesBroken : Store → TurnFault → Type 0
ClosesBroken s (turn.Broken f) = s.first ≡ Some f
ClosesBroken s fault = Works s

-- What is answered to a transaction: `Broken` just where the store has a first fault, and else what the queue has room for. Want of memory
-- is free.
abbrev pub QueueTells : Store → Outcome → Result ℕ QueueFault → Type 0
QueueTells s o (Ok seq) = Works s × (o ≡ Ok seq)
QueueTells s o (Err (queue.Broken f)) = s.first ≡ Some f
QueueTells s o (Err (queue.Txn op why)) = Works s × (o ≡ Err (unqueued.Txn op why))
QueueTells s o (Err (queue.NotBuilt op)) = Works s × (o ≡ Err (unqueued.NotBuilt op))
QueueTells s o (Err (queue.TooLarge need size)) = Works s × (o ≡ Err (unqueued.TooLarge need size))
QueueTells s o (Err queue.QueueFull) = Works s × (o ≡ Err unqueued.QueueFull)
QueueTells s o (Err queue.NumbersSpent) = Works s × (o ≡ Err unqueued.NumbersSpent)
QueueTells s o (Err queue.Memory) = Works s

-- what the queue has room for
abbrev pub outcome_of : Store → Txn → Outcome
outcome_of s txn = outcome s.queue.colls s.queue.size (length s.queue.txns) s.queue.last txn

abbrev pub ReadsBroken : Store → ReadFault → Type 0
ReadsBroken s (reading.Broken f) = s.first ≡ Some f
ReadsBroken s fault = Works s
