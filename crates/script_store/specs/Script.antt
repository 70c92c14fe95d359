-- A store as a script works on it.
use Rattle.std.specs.Prelude.{◌≡◌, ℕ, Bool, true, false, List, [], map, Option, Result, Ok, Err}
use Rattle.std.specs.List.{flat_map}
use Rattle.fs_model.specs.declared.op.Op.{Op}
use Rattle.fs_model.specs.declared.op.Txn.{Txn}
use Rattle.fs_script.specs.declared.answer.Answer.{Answer}
use Rattle.fs_script.specs.declared.answer.Answer.TheVariants as answers
use Rattle.fs_script.specs.declared.statement.Statement.{Statement}
use Rattle.fs_script.specs.declared.statement.Statement.TheVariants.{Drain, Read, Stat, Attrs, Omap, List as ListIn, Colls}
use Rattle.fs_script.specs.Printed.{answer_text}
use Rattle.fs_session.specs.Answers.{Session, step}
use Rattle.store_history.specs.History.{History, end_of, at}
use Rattle.file_store.specs.declared.fault.QueueFault.{QueueFault}
use Rattle.file_store.specs.declared.fault.QueueFault.TheVariants.{Broken, Txn as Refused, NotBuilt, TooLarge, QueueFull, NumbersSpent, Memory}
use Rattle.file_store.specs.Store.{Store}
use Rattle.script_store.specs.declared.store.ScriptStore.{ScriptStore}

-- The session of a store with this transaction open: the objects are the history's after its last transaction.
abbrev pub session_of : History → Store → Option (List Op) → Session
session_of h s opened = record {
  objects = at h (end_of h);
  waiting = s.queue.txns;
  opened = opened;
  last = s.queue.last;
  acked = s.numbers.journalled;
  size = s.queue.size;
}

-- the session that statements see
abbrev pub session_on : History → ScriptStore → Session
session_on h s = session_of h s.store s.opened

-- This is answered to a transaction that was queued, or refused. Nothing is, for want of memory, nor by a store that is broken.
abbrev pub IsAnswerOf : Result ℕ QueueFault → Answer → Type 0
IsAnswerOf (Ok seq) answer = answer ≡ answers.Queued seq
IsAnswerOf (Err (Broken first)) answer = ⊥
IsAnswerOf (Err (Refused op why)) answer = answer ≡ answers.RefusedOp op why
IsAnswerOf (Err (NotBuilt op)) answer = answer ≡ answers.NotBuilt
IsAnswerOf (Err (TooLarge need size)) answer = answer ≡ answers.TooLarge need size
IsAnswerOf (Err QueueFull) answer = answer ≡ answers.QueueFull
IsAnswerOf (Err NumbersSpent) answer = answer ≡ answers.NumbersSpent
IsAnswerOf (Err Memory) answer = ⊥

-- the statement needs no device
abbrev pub IsWork : Statement → Type 0
IsWork Drain = ⊥
IsWork _ = Unit {0}

-- the statement reads the tree
abbrev pub is_reading : Statement → Bool
is_reading (Read c o from len) = true
is_reading (Stat c o) = true
is_reading (Attrs c o) = true
is_reading (Omap c o) = true
is_reading (ListIn c cursor max) = true
is_reading Colls = true
is_reading _ = false

-- the lines that a statement's answers print
abbrev pub step_text : Session → Statement → List ℕ
step_text s statement = flat_map answer_text (step s statement).answers

-- the operations of each of some transactions
abbrev pub OpLists : Type 0
OpLists = List (List Op)

abbrev pub ops_of : List Txn → OpLists
ops_of = map (λ txn. txn.ops)

-- the transactions that a statement does on the tree
abbrev pub drained_in : Session → Statement → OpLists
drained_in s Drain = ops_of s.waiting
drained_in s _ = []
