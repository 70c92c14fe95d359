-- Transactions that wait, with their payloads.
use Rattle.std.specs.Prelude.{◌≡◌, ℕ, ◌+◌, ◌≤◌, ◌<◌, ◌^◌, List, ◌∷◌, drop, length, Ok}
use Rattle.fs_model.specs.declared.op.Op.{Op}
use Rattle.txn_codec.specs.Reading.{decoded}
use Rattle.ring_frame.specs.Frame.{need}
use Rattle.store_history.specs.History.{History, end_of, IsTxn}
use Rattle.store_turns.specs.declared.numbers.Queued.{Queued}

-- the payload spells these operations, which are the history's transaction behind number n
pub record IsDue (h : History) (n : ℕ) (payload : List ℕ) (ops : List Op) : Type 0 where
  pub room : n < end_of h
  pub spells : decoded payload ≡ Ok ops
  pub is : IsTxn h (n + 1) ops

abbrev pub IsAt : List Queued → ℕ → Queued → Type 0
IsAt ws i q = drop i ws ≡ q ∷ drop (i + 1) ws

-- they are the history's transactions behind number n
pub record AreDue (h : History) (n : ℕ) (ws : List Queued) : Type 0 where
  pub room : n + length ws ≤ end_of h
  pub each : (i : ℕ) (q : Queued) → IsAt ws i q → (decoded q.payload ≡ Ok q.txn.ops) × IsTxn h (n + i + 1) q.txn.ops

-- the operations of each meet this
abbrev pub AllMeet : (List Op → Type 0) → List Queued → Type 0
AllMeet fits ws = (i : ℕ) (q : Queued) → IsAt ws i q → fits q.txn.ops

-- an empty ring of this size takes each
abbrev pub AllFit : ℕ → List Queued → Type 0
AllFit size ws = (i : ℕ) (q : Queued) → IsAt ws i q → (length q.payload < 2 ^ 32) × (need (length q.payload) ≤ size)
