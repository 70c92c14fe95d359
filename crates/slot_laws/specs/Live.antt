-- What reads where several transactions are open: each started transaction whole, but of an open one the operations done.
use Rattle.std.specs.Prelude.{◌≡◌, ℕ, zero, suc, ◌≤◌, cond, ◌==◌, List, [], ◌∷◌, ◌++◌, length, take, Option, Some, None}
use Rattle.replay_laws.specs.Replay.{Act, fold}
use Rattle.slot_laws.specs.History.{Txn, txn, AllWithin, flat, Open, AreOpen, place}

-- how many operations of the transaction at i are done, of so many
abbrev pub done_of : List (Option Open) → ℕ → ℕ → ℕ
done_of [] i all = all
done_of (None ∷ slots) i all = done_of slots i all
done_of (Some o ∷ slots) i all = cond (o.index == i) o.next (done_of slots i all)

-- the operations done, in the order of the journal
abbrev pub live : {C V : Type 0} → List (Txn C V) → List (Option Open) → ℕ → List (C → Act C V)
live ts slots zero = []
live ts slots (suc n) = live ts slots n ++ take (done_of slots n (length (txn ts n).ops)) (txn ts n).ops

pub record LiveLaw (C V : Type 0) : Type 0 where
  -- they give each cell what the operations before its place gave it
  pub is_place : (raise : ℕ → V → V) (origin : C → V) (ts : List (Txn C V)) → AllWithin ts → (started : ℕ)
      → started ≤ length ts → (slots : List (Option Open)) → AreOpen ts started slots → (x : C)
      → fold raise (live ts slots started) origin x ≡ fold raise (take (place ts started slots x) (flat (take started ts))) origin x
