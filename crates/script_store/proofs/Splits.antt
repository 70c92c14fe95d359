-- What lines write to the journal, and what waits behind them.
use Rattle.std.proofs.Common.{◌≡◌, List, [], ◌∷◌, ◌++◌, length, refl, sym, ◌∙◌, ap, append_assoc}
use mathlib.Core.List.{append-nil}
use Rattle.std.specs.Prelude.{Option, None, Some, Ok, Err}
use Rattle.std.proofs.lemmas.List.{map-append, length-map}
use Rattle.fs_model.specs.declared.op.Op.{Op}
use Rattle.fs_model.specs.declared.op.Txn.{Txn}
use Rattle.queue_rules.specs.declared.fault.QueueFault.TheVariants as queue
use Rattle.queue_rules.specs.Outcome.{Outcome}
use Rattle.fs_script.specs.declared.statement.Line.{Line}
use Rattle.fs_script.specs.declared.statement.Statement.{Statement}
use Rattle.fs_script.specs.declared.statement.Statement.TheVariants.{Do, End, Drain}
use Rattle.fs_session.specs.Answers.{Session, Step, step, run_lines, session_after, queued_by, outcome_in, queued_if, op_step, end_step, txn_of}
use Rattle.fs_session.proofs.Sessions.{run_lines-append}
use Rattle.script_store.specs.Script.{OpLists, ops_of, drained_in}

-- one line more

pub one-after : (s : Session) (done : List Line) (line : Line) → session_after s (done ++ line ∷ []) ≡ (step (session_after s done) line.statement).session
unfolding run_lines
one-after s done line = ap (λ (r : Step). r.session) (run_lines-append s done (line ∷ []))

pub one-queued : (s : Session) (done : List Line) (line : Line) → queued_by s (done ++ line ∷ []) ≡ queued_by s done ++ (step (session_after s done) line.statement).queued
unfolding run_lines
one-queued s done line =
    ap (λ (r : Step). r.queued) (run_lines-append s done (line ∷ []))
    ∙ ap (λ (l : OpLists). queued_by s done ++ l) (append-nil (step (session_after s done) line.statement).queued)

-- these transactions are in the journal, of all that the lines queue
abbrev pub IsSplit : Session → List Line → OpLists → Type 0
IsSplit s lines drained = queued_by s lines ≡ drained ++ ops_of (session_after s lines).waiting

queued-split : (s : Session) (txn : Txn) (o : Outcome) → ops_of s.waiting ++ (queued_if o s txn).queued ≡ ops_of (queued_if o s txn).session.waiting
queued-split s txn (Ok seq) = sym (map-append (λ (t : Txn). t.ops) s.waiting (txn ∷ []))
queued-split s txn (Err (queue.Txn op why)) = append-nil (ops_of s.waiting)
queued-split s txn (Err (queue.NotBuilt op)) = append-nil (ops_of s.waiting)
queued-split s txn (Err (queue.TooLarge need size)) = append-nil (ops_of s.waiting)
queued-split s txn (Err queue.QueueFull) = append-nil (ops_of s.waiting)
queued-split s txn (Err queue.NumbersSpent) = append-nil (ops_of s.waiting)
queued-split s txn (Err queue.Memory) = append-nil (ops_of s.waiting)

op-split : (opened : Option (List Op)) (s : Session) (op : Op) → ops_of s.waiting ++ (op_step opened s op).queued ≡ ops_of (op_step opened s op).session.waiting
op-split None s op = queued-split s (txn_of (op ∷ [])) (outcome_in s (txn_of (op ∷ [])))
op-split (Some ops) s op = append-nil (ops_of s.waiting)

end-split : (opened : Option (List Op)) (s : Session) → ops_of s.waiting ++ (end_step opened s).queued ≡ ops_of (end_step opened s).session.waiting
end-split None s = append-nil (ops_of s.waiting)
end-split (Some ops) s = let t : Session = record s { opened = None } in queued-split t (txn_of ops) (outcome_in t (txn_of ops))

step-split : (s : Session) (st : Statement) → ops_of s.waiting ++ (step s st).queued ≡ drained_in s st ++ ops_of (step s st).session.waiting
unfolding step
step-split s (Do op) = op-split s.opened s op
step-split s End = end-split s.opened s
step-split s Drain = refl
step-split s _ = append-nil (ops_of s.waiting)

pub split_more : (s : Session) (done : List Line) (line : Line) (drained : OpLists) → IsSplit s done drained → IsSplit s (done ++ line ∷ []) (drained ++ drained_in (session_after s done) line.statement)
split_more s done line drained split =
    let t : Session = session_after s done in
    let st : Statement = line.statement in
    one-queued s done line
    ∙ ap (λ (l : OpLists). l ++ (step t st).queued) split
    ∙ append_assoc drained (ops_of t.waiting) ((step t st).queued)
    ∙ ap (λ (l : OpLists). drained ++ l) (step-split t st)
    ∙ sym (append_assoc drained (drained_in t st) (ops_of (step t st).session.waiting))
    ∙ ap (λ (u : Session). (drained ++ drained_in t st) ++ ops_of u.waiting) (sym (one-after s done line))

pub ops-counted : (txns : List Txn) → length (ops_of txns) ≡ length txns
ops-counted txns = length-map txns (λ (t : Txn). t.ops)
