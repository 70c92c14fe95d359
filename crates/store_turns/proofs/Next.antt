-- The transaction that waits at a place.
use Rattle.std.proofs.Common.{◌≡◌, ℕ, ◌+◌, ◌<◌, get_or, List, ◌∷◌, drop, length, sym, ◌∙◌, ap, subst, arith, Ok}
use Rattle.std.proofs.lemmas.List.{drop_more}
use Rattle.fs_model.specs.declared.op.Op.{Op}
use Rattle.txn_codec.specs.Reading.{decoded}
use Rattle.store_history.specs.History.{History, IsTxn}
use Rattle.store_history.specs.Journal.{IsNext}
use Rattle.store_turns.specs.declared.numbers.Queued.{Queued}
use Rattle.store_turns.specs.Waiting.{IsAt, IsDue, AreDue}

pub here_at : (ws : List Queued) (i : ℕ) (q d : Queued) → i < length ws → q ≡ get_or ws i d → IsAt ws i q
here_at ws i q d lt e = drop_more ws i d lt ∙ ap (λ (x : Queued). x ∷ drop (i + 1) ws) (sym e)

pub due_at : (h : History) (n i m : ℕ) (ws : List Queued) (q : Queued) (payload : List ℕ) (ops : List Op) → AreDue h n ws → i < length ws → IsAt ws i q → payload ≡ q.payload → ops ≡ q.txn.ops → m ≡ n + i → IsDue h m payload ops
due_at h n i m ws q payload ops due lt at e k mi =
    let one = due.each i q at in
    record { room = omega (arith, due.room, lt, mi); spells = ap decoded e ∙ one.0 ∙ ap Ok (sym k); is = subst (λ (j : ℕ). IsTxn h (j + 1) ops) (sym mi) (one.1 ∙ sym k) }

-- the entry that is due is the ring's next one
pub next_of : (h : History) (m : ℕ) (payload : List ℕ) (ops : List Op) → IsDue h m payload ops → IsNext h m (m + 1) payload
next_of h m payload ops due = record { number = omega arith; room = due.room; ops = ops; spells = due.spells; is = due.is }

pub due_as : (h : History) (n m : ℕ) (payload : List ℕ) (ops : List Op) → n ≡ m → IsDue h n payload ops → IsDue h m payload ops
due_as h n m payload ops e due = subst (λ (k : ℕ). IsDue h k payload ops) e due
