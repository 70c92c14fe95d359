-- What a script's store holds, and what a crash leaves of it.
use Rattle.std.specs.Prelude.{◌≡◌, ◌++◌}
use Rattle.tree_api.specs.Disk.{Disk as Files}
use Rattle.dev_api.specs.DeviceState.{DeviceState}
use Rattle.store_history.specs.History.{History, end_of}
use Rattle.fs_script.specs.declared.statement.Statement.{Statement}
use Rattle.store_queue.specs.Waiting.{Waiting}
use Rattle.file_store.specs.Store.{Store}
use Rattle.file_store.specs.Holds.{Holds, Leaves, with_waiting}
use Rattle.script_store.specs.declared.store.ScriptStore.{ScriptStore}
use Rattle.script_store.specs.Script.{OpLists, session_on, drained_in}

-- the store on this tree and this device holds the history
abbrev pub HoldsOn : History → ScriptStore → Files → DeviceState → Type 0
HoldsOn h s t d = Holds h s.store t d.disk

-- with these transactions behind
abbrev pub more : History → OpLists → History
more h txns = record h { txns = h.txns ++ txns }

-- the history, and then what a statement does on the tree
abbrev pub with_drained : History → ScriptStore → Statement → History
with_drained h s statement = more h (drained_in (session_on h s) statement)

-- a crash leaves all of it
abbrev pub LeavesDrained : History → ScriptStore → Statement → Files → DeviceState → Type 0
LeavesDrained h s statement t d = Leaves (with_drained h s statement) (end_of (with_drained h s statement)) s.store t d.disk

-- a crash leaves the whole history, and maybe some of the transactions that wait
abbrev pub LeavesSome : History → ScriptStore → Files → DeviceState → Type 0
LeavesSome h s t d = Leaves (with_waiting h s.store) (end_of h) s.store t d.disk

-- another queue, and all else the same
abbrev pub with_queue : Store → Waiting → Store
with_queue s queue = record s { queue = queue }

-- it is the store that was mounted, on a ring as large
pub record IsSame (old new : Store) : Type 0 where
  pub identity : new.identity ≡ old.identity
  pub size : new.ring.head.size ≡ old.ring.head.size
