-- What a queue tells, in the words of sessions.
use Rattle.std.proofs.Common.{◌≡◌, ℕ, List, [], ◌∷◌, ◌++◌, length, refl, sym, ◌∙◌, ap, subst}
use Rattle.std.specs.Prelude.{None, Some, Result, Ok, Err, IfOk, OnOk, OnErr, ◌≢◌}
use Rattle.fs_model.specs.declared.op.Txn.{Txn}
use Rattle.std.specs.List.{flat_map}
use Rattle.fs_model.specs.declared.op.Op.{Op}
use Rattle.fs_model.specs.Colls.{CollSet, colls_of}
use Rattle.fs_model.specs.Check.{colls_after}
use Rattle.fs_script.specs.declared.answer.Answer.{Answer}
use Rattle.queue_rules.specs.Outcome.{Outcome, outcome}
use Rattle.fs_session.specs.Answers.{Session, outcome_in, queued_if, queue_step}
use Rattle.store_history.specs.History.{History, end_of, at}
use Rattle.tree_places.specs.Line.{ops_of as flat}
use Rattle.store_queue.specs.Waiting.{Waiting}
use Rattle.file_store.specs.declared.fault.First.{First}
use Rattle.file_store.specs.declared.fault.QueueFault.{QueueFault}
use Rattle.file_store.specs.declared.fault.QueueFault.TheVariants.{Broken, Txn as Refused, NotBuilt, TooLarge, QueueFull, NumbersSpent, Memory}
use Rattle.file_store.specs.Store.{Store, Works, with_txn}
use Rattle.file_store.specs.Holds.{Waits}
use Rattle.file_store.specs.Faults.{QueueTells, outcome_of}
use Rattle.script_store.specs.Script.{session_of, ops_of, IsAnswerOf}
use Rattle.script_store.specs.Held.{with_queue}

some_first : (first : First) → Some first ≡ None → ⊥
some_first first e = absurd (cc)

-- a store that works isn't broken
pub unbroken : (s : Store) (o : Outcome) (r : Result ℕ QueueFault) → Works s → QueueTells s o r → (first : First) → r ≢ Err (Broken first)
unbroken s o (Ok seq) works tells first is = absurd (cc)
unbroken s o (Err (Broken f)) works tells first is = some_first f (sym tells ∙ works)
unbroken s o (Err (Refused op why)) works tells first is = absurd (cc)
unbroken s o (Err (NotBuilt op)) works tells first is = absurd (cc)
unbroken s o (Err (TooLarge need size)) works tells first is = absurd (cc)
unbroken s o (Err QueueFull) works tells first is = absurd (cc)
unbroken s o (Err NumbersSpent) works tells first is = absurd (cc)
unbroken s o (Err Memory) works tells first is = absurd (cc)

pub flat_waiting : (txns : List Txn) → flat_map (λ txn. txn.ops) txns ≡ flat (ops_of txns)
flat_waiting [] = refl
flat_waiting (txn ∷ txns) = ap (λ (l : List Op). txn.ops ++ l) (flat_waiting txns)

-- a session's collections are the queue's
same_outcome : (h : History) (s : Store) (txn : Txn) → Waits h s → outcome_of s txn ≡ outcome_in (session_of h s None) txn
same_outcome h s txn waits =
    ap (λ (colls : CollSet). outcome colls s.queue.size (length s.queue.txns) s.queue.last txn)
    (waits.colls_are ∙ sym (ap (colls_after (colls_of (at h (end_of h)))) (flat_waiting s.queue.txns)))

module _ (h : History) (s : Store) (txn : Txn) where
  abbrev answers_of : Outcome → List Answer
  answers_of o = (queued_if o (session_of h s None) txn).answers

  abbrev session_to : Outcome → Session
  session_to o = (queued_if o (session_of h s None) txn).session

  -- what is answered, by what the queue has room for
  told_answers : (o : Outcome) (r : Result ℕ QueueFault) (b : Answer) → QueueTells s o r → IsAnswerOf r b → ◌≡◌ {A = List Answer} (b ∷ []) (answers_of o)
  told_answers o (Ok seq) b tells is = ap (λ (x : Answer). x ∷ []) is ∙ sym (ap answers_of tells.1)
  told_answers o (Err (Broken f)) b tells is = absurd is
  told_answers o (Err (Refused op why)) b tells is = ap (λ (x : Answer). x ∷ []) is ∙ sym (ap answers_of tells.1)
  told_answers o (Err (NotBuilt op)) b tells is = ap (λ (x : Answer). x ∷ []) is ∙ sym (ap answers_of tells.1)
  told_answers o (Err (TooLarge need size)) b tells is = ap (λ (x : Answer). x ∷ []) is ∙ sym (ap answers_of tells.1)
  told_answers o (Err QueueFull) b tells is = ap (λ (x : Answer). x ∷ []) is ∙ sym (ap answers_of tells.1)
  told_answers o (Err NumbersSpent) b tells is = ap (λ (x : Answer). x ∷ []) is ∙ sym (ap answers_of tells.1)
  told_answers o (Err Memory) b tells is = absurd is

  pub queue_answers : (r : Result ℕ QueueFault) (b : Answer) → QueueTells s (outcome_of s txn) r → IsAnswerOf r b → Waits h s
      → ◌≡◌ {A = List Answer} (b ∷ []) (queue_step (session_of h s None) txn).answers
  queue_answers r b tells is waits = told_answers (outcome_of s txn) r b tells is ∙ ap answers_of (same_outcome h s txn waits)

  -- the store behind it
  told_after : (o : Outcome) (s2 : Store) (r : Result ℕ QueueFault) (b : Answer) → QueueTells s o r → IsAnswerOf r b → IfOk r (λ seq. s2 ≡ with_txn s txn seq)
      → OnErr r (s2 ≡ s) → session_of h s2 None ≡ session_to o
  told_after o s2 (Ok seq) b tells is after err = ap (λ (x : Store). session_of h x None) after ∙ sym (ap session_to tells.1)
  told_after o s2 (Err (Broken f)) b tells is after err = absurd is
  told_after o s2 (Err (Refused op why)) b tells is after err = ap (λ (x : Store). session_of h x None) err ∙ sym (ap session_to tells.1)
  told_after o s2 (Err (NotBuilt op)) b tells is after err = ap (λ (x : Store). session_of h x None) err ∙ sym (ap session_to tells.1)
  told_after o s2 (Err (TooLarge need size)) b tells is after err = ap (λ (x : Store). session_of h x None) err ∙ sym (ap session_to tells.1)
  told_after o s2 (Err QueueFull) b tells is after err = ap (λ (x : Store). session_of h x None) err ∙ sym (ap session_to tells.1)
  told_after o s2 (Err NumbersSpent) b tells is after err = ap (λ (x : Store). session_of h x None) err ∙ sym (ap session_to tells.1)
  told_after o s2 (Err Memory) b tells is after err = absurd is

  pub queue_after : (s2 : Store) (r : Result ℕ QueueFault) (b : Answer) → QueueTells s (outcome_of s txn) r → IsAnswerOf r b → IfOk r (λ seq. s2 ≡ with_txn s txn seq)
      → OnErr r (s2 ≡ s) → Waits h s → session_of h s2 None ≡ (queue_step (session_of h s None) txn).session
  queue_after s2 r b tells is after err waits = told_after (outcome_of s txn) s2 r b tells is after err ∙ ap session_to (same_outcome h s txn waits)

  pub queue_waits : (s2 : Store) (r : Result ℕ QueueFault) → ((g : History) → Waits g s → OnOk r (Waits g s2)) → OnErr r (s2 ≡ s) → Waits h s → Waits h s2
  queue_waits s2 (Ok seq) more err waits = more h waits
  queue_waits s2 (Err fault) more err waits = subst (Waits h) (sym err) waits

requeued : (s s2 : Store) (queue : Waiting) → s2 ≡ with_queue s queue → s2 ≡ with_queue s s2.queue
requeued s s2 queue is = is ∙ sym (ap (λ (x : Store). with_queue s x.queue) is)

-- queueing changes nothing but the queue
pub queue_rest : (s s2 : Store) (txn : Txn) (r : Result ℕ QueueFault) → IfOk r (λ seq. s2 ≡ with_txn s txn seq) → OnErr r (s2 ≡ s) → s2 ≡ with_queue s s2.queue
queue_rest s s2 txn (Ok seq) after err = requeued s s2 (with_txn s txn seq).queue after
queue_rest s s2 txn (Err fault) after err = requeued s s2 s.queue err
