-- What the statements of a script answer, from the objects of a store on.
use Rattle.std.specs.Prelude.{◌≡◌, ℕ, ◌+◌, List, [], ◌∷◌, ◌++◌, length, take, drop, map as map_list, Option, None, Some, Ok, Err}
use Rattle.std.specs.List.{flat_map}
use Rattle.std.specs.FinMap as map
use Rattle.fs_names.specs.declared.oid.Oid.{Oid}
use Rattle.fs_model.specs.declared.op.Op.{Op}
use Rattle.fs_model.specs.declared.op.Txn.{Txn}
use Rattle.fs_model.specs.declared.pair.Pair.{Pair}
use Rattle.fs_model.specs.Objects.{ByteMap, Object, Objects, look}
use Rattle.fs_model.specs.Colls.{CollSet, colls_of}
use Rattle.fs_model.specs.Rows.{fold_ops}
use Rattle.fs_model.specs.Check.{colls_after}
use Rattle.fs_model.specs.declared.page.Page.{Page}
use Rattle.fs_model.specs.Listing.{listing}
use Rattle.queue_rules.specs.declared.fault.QueueFault.TheVariants as queue
use Rattle.queue_rules.specs.Outcome.{Outcome, outcome}
use Rattle.hash_order.specs.declared.cursor.Cursor.{Cursor}
use Rattle.hash_order.specs.declared.cursor.Cursor.TheVariants.{Start, At}
use Rattle.fs_script.specs.declared.statement.Statement.{Statement}
use Rattle.fs_script.specs.declared.statement.Statement.TheVariants.{Do, Begin, End, Drain, Read, Stat, Attrs, Omap, List as ListIn, Colls, Acked}
use Rattle.fs_script.specs.declared.statement.Line.{Line}
use Rattle.fs_script.specs.declared.answer.Answer.{Answer}
use Rattle.fs_script.specs.declared.answer.Answer.TheVariants.{Queued, RefusedOp, NotBuilt, TooLarge, QueueFull, NumbersSpent, Drained, Bytes, Size, Attrs as AttrsOut, Omap as OmapOut, Listed, Colls as CollsOut, Acked as AckedOut, Missing}
use Rattle.fs_script.specs.Printed.{answer_text}

-- a store, as the statements of a script see it
pub record Session : Type 0 where
  -- after all that was drained
  pub objects : Objects
  -- the transactions queued since
  pub waiting : List Txn
  -- the operations since a `begin` that has no `end` yet
  pub opened : Option (List Op)
  -- the number of the last one queued
  pub last : ℕ
  -- the number of the last one acknowledged
  pub acked : ℕ
  -- the bytes that the journal's ring has for entries
  pub size : ℕ

-- a session without waiting transactions
abbrev pub started : Objects → ℕ → ℕ → Session
started O last size = record { objects = O; waiting = []; opened = None; last = last; acked = last; size = size }

-- a store without collections, before its first transaction
abbrev pub new_session : ℕ → Session
new_session size = started map.empty 0 size

-- what was acknowledged and what waits make all that was queued
abbrev pub IsCounted : Session → Type 0
IsCounted s = s.acked + length s.waiting ≡ s.last

abbrev pub waiting_ops : Session → List Op
waiting_ops s = flat_map (λ txn. txn.ops) s.waiting

-- the collections after all that is queued
abbrev pub colls_queued : Session → CollSet
colls_queued s = colls_after (colls_of s.objects) (waiting_ops s)

-- what a statement does: the session after it, its answers, and the operations of each transaction that it gives a number
pub record Step : Type 0 where
  pub session : Session
  pub answers : List Answer
  pub queued : List (List Op)

abbrev pub silent : Session → Step
silent s = record { session = s; answers = []; queued = [] }

abbrev pub answering : Session → Answer → Step
answering s answer = record { session = s; answers = answer ∷ []; queued = [] }

-- transactions

-- Only a transaction that is given a number waits. Want of memory is no outcome.
abbrev pub queued_if : Outcome → Session → Txn → Step
queued_if (Ok seq) s txn =
    record { session = record s { waiting = s.waiting ++ txn ∷ []; last = seq }; answers = Queued seq ∷ []; queued = txn.ops ∷ [] }
queued_if (Err (queue.Txn op why)) s txn = answering s (RefusedOp op why)
queued_if (Err (queue.NotBuilt op)) s txn = answering s NotBuilt
queued_if (Err (queue.TooLarge need size)) s txn = answering s (TooLarge need size)
queued_if (Err queue.QueueFull) s txn = answering s QueueFull
queued_if (Err queue.NumbersSpent) s txn = answering s NumbersSpent
queued_if (Err queue.Memory) s txn = silent s

-- what becomes of a transaction behind all that is queued
abbrev pub outcome_in : Session → Txn → Outcome
outcome_in s txn = outcome (colls_queued s) s.size (length s.waiting) s.last txn

abbrev pub queue_step : Session → Txn → Step
queue_step s txn = queued_if (outcome_in s txn) s txn

abbrev pub txn_of : List Op → Txn
txn_of ops = record { ops = ops }

-- an operation is one of the open transaction, or a transaction of its own
abbrev pub op_step : Option (List Op) → Session → Op → Step
op_step None s op = queue_step s (txn_of (op ∷ []))
op_step (Some ops) s op = silent (record s { opened = Some (ops ++ op ∷ []) })

abbrev pub begin_step : Session → Step
begin_step s = silent (record s { opened = Some [] })

abbrev pub end_step : Option (List Op) → Session → Step
end_step None s = silent s
end_step (Some ops) s = queue_step (record s { opened = None }) (txn_of ops)

abbrev pub after_drain : Session → Session
after_drain s =
    record s { objects = fold_ops s.objects (waiting_ops s); waiting = []; acked = s.last }

-- readings

-- an answer of what is there
abbrev pub found : {A : Type 0} → Option A → (A → Answer) → Answer
found None answer = Missing
found (Some x) answer = answer x

-- the bytes from `at` up to the end or to `at + len`
abbrev pub bytes_answer : Option Object → ℕ → ℕ → Answer
bytes_answer object at len = found object (λ x. Bytes (take len (drop at x.bytes)))

abbrev pub size_answer : Option Object → Answer
size_answer object = found object (λ x. Size (length x.bytes))

-- pairs by name, in byte order
abbrev pub pairs_of : ByteMap → List Pair
pairs_of pairs = map_list (λ entry. record { key = entry.0; value = entry.1 }) (map.entries pairs)

abbrev pub attrs_answer : Option Object → Answer
attrs_answer object = found object (λ x. AttrsOut (pairs_of x.attrs))

abbrev pub omap_answer : Option Object → Answer
omap_answer object = found object (λ x. OmapOut x.header (pairs_of x.omap))

abbrev pub cursor_oid : Cursor → Option Oid
cursor_oid Start = None
cursor_oid (At oid) = Some oid

abbrev pub page_answer : Option Page → Answer
page_answer page = found page (λ x. Listed x.oids x.next)

-- collections are kept by the bytes of their texts
abbrev pub colls_answer : Objects → Answer
colls_answer O = CollsOut (map.keys O)

-- statements and lines

unfoldable pub step : Session → Statement → Step
step s (Do op) = op_step s.opened s op
step s Begin = begin_step s
step s End = end_step s.opened s
step s Drain = answering (after_drain s) (Drained s.last s.last)
step s (Read c o at len) = answering s (bytes_answer (look s.objects c o) at len)
step s (Stat c o) = answering s (size_answer (look s.objects c o))
step s (Attrs c o) = answering s (attrs_answer (look s.objects c o))
step s (Omap c o) = answering s (omap_answer (look s.objects c o))
step s (ListIn c cursor max) = answering s (page_answer (listing s.objects c (cursor_oid cursor) max))
step s Colls = answering s (colls_answer s.objects)
step s Acked = answering s (AckedOut s.acked)

-- one step after another
abbrev pub followed_by : Step → Step → Step
followed_by first second =
    record { session = second.session; answers = first.answers ++ second.answers; queued = first.queued ++ second.queued }

unfoldable pub run_lines : Session → List Line → Step
run_lines s [] = silent s
run_lines s (line ∷ lines) = followed_by (step s line.statement) (run_lines (step s line.statement).session lines)

abbrev pub session_after : Session → List Line → Session
session_after s lines = (run_lines s lines).session

-- the answers to the lines, one after another
abbrev pub answers : Session → List Line → List Answer
answers s lines = (run_lines s lines).answers

-- the operations of each transaction that the lines queue
abbrev pub queued_by : Session → List Line → List (List Op)
queued_by s lines = (run_lines s lines).queued

abbrev pub answers_text : Session → List Line → List ℕ
answers_text s lines = flat_map answer_text (answers s lines)
