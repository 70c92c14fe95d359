-- The transactions of a store, by absolute numbers.
use Rattle.std.specs.Prelude.{◌≡◌, ℕ, ◌+◌, ◌-◌, List, [], take, drop, length, get_or}
use Rattle.fs_model.specs.declared.op.Op.{Op}
use Rattle.fs_model.specs.Objects.{Objects}
use Rattle.fs_model.specs.Rows.{fold_txns}

-- the objects after the transaction with the number base, and the transactions that follow it
pub record History : Type 0 where
  pub base : ℕ
  pub origin : Objects
  pub txns : List (List Op)

-- the number of the last one
abbrev pub end_of : History → ℕ
end_of h = h.base + length h.txns

-- the transactions with numbers above lo, up to hi
abbrev pub part : History → ℕ → ℕ → List (List Op)
part h lo hi = take (hi - lo) (drop (lo - h.base) h.txns)

-- the objects after the transaction with this number
abbrev pub at : History → ℕ → Objects
at h n = fold_txns h.origin (take (n - h.base) h.txns)

-- the transaction with this number
abbrev pub IsTxn : History → ℕ → List Op → Type 0
IsTxn h n ops = get_or h.txns (n - (h.base + 1)) [] ≡ ops

-- the history that a replay goes through
abbrev pub replay_of : ℕ → Objects → List (List Op) → History
replay_of n before txns = record { base = n; origin = before; txns = txns }
