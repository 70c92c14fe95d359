-- What a tree in memory tells.
use Rattle.std.specs.Prelude.{◌≡◌, ◌↔◌, Contains, Result, Ok, Err, OnOk, OnErr}
use Rattle.fault_count.specs.Counted.{one_more}
use Rattle.fault_count.specs.Plan.{Plan}
use Rattle.tree_api.specs.Disk.{Disk}
use Rattle.tree_memory.specs.History.{History, State, next, disk}
use Rattle.std.specs.declared.alloc.AllocError.{AllocError}
use Rattle.tree_memory.specs.Log.{run}
use Rattle.tree_memory.specs.declared.event.Event.{Event}
use Rattle.tree_memory.specs.Told.{state}
use Rattle.tree_memory.specs.declared.memory.MemoryTree.{MemoryTree}

-- its histories, from what it was at first and what its calls did
abbrev pub state_of : MemoryTree → State
state_of m = state m.origin m.log.items m.synced

abbrev pub history_of : MemoryTree → History
history_of m = (state_of m).now

-- its calls so far, and those that are to fail
abbrev pub plan_of : MemoryTree → Plan
plan_of m = m.plan

abbrev pub disk_of : MemoryTree → Disk
disk_of m = disk (state_of m) m.plan.faults m.syncs m.looks

-- the next call is one that fails
abbrev pub Fails : Plan → Type 0
Fails plan = Contains plan.fail (one_more plan.calls)

-- a call took its number, and was refused exactly where it was to be
pub record IsNumbered (old new : Plan) (refused : Type 0) : Type 0 where
  pub number : new.calls ≡ one_more old.calls
  pub same : new.fail ≡ old.fail
  pub named : refused ↔ Fails old

-- after a call that is answered, this history follows; after another, nothing has changed
pub record Follows {T E : Type 0} (h : History) (old new : State) (result : Result T E) : Type 0 where
  pub ok : OnOk result (new ≡ next h old)
  pub err : OnErr result (new ≡ old)

-- a call did this event, where memory was found for it
abbrev pub Did : {T E : Type 0} → Result Event AllocError → State → State → Result T E → Type 0
Did (Ok e) old new result = Follows (run e old.now) old new result
Did (Err x) old new result = OnOk result ⊥ × OnErr result (new ≡ old)
