-- Guards stand for positions, and positions for places in the flat list of operations.
use Rattle.std.specs.Prelude.{◌≡◌, ◌⊎◌, ◌↔◌, ℕ, zero, suc, ◌+◌, ◌-◌, ◌<◌, Bool, true, false, not, ◌||◌, ◌&&◌, List, length}
use Rattle.slot_laws.specs.History.{Txn, txn, count}

-- how many operations a closed guard of this position leaves out
abbrev pub left_out : {C V : Type 0} → List (Txn C V) → ℕ → ℕ → ℕ
left_out ts i k = suc (count ts i + k)

abbrev pub Earlier : ℕ → ℕ → ℕ → ℕ → Type 0
Earlier i k j l = (i < j) ⊎ (i ≡ j) × (k < l)

-- whether a collection is there after t operations, of which some make it and some take it away
abbrev pub is_there : (ℕ → Bool) → (ℕ → Bool) → Bool → ℕ → Bool
is_there makes drops first zero = first
is_there makes drops first (suc t) = makes t || (not (drops t) && is_there makes drops first t)

pub record PositionsLaw (C V : Type 0) : Type 0 where
  -- positions and places are in one order
  pub order : (ts : List (Txn C V)) (i k j l : ℕ) → k < length (txn ts i).ops → l < length (txn ts j).ops
      → (count ts i + k < count ts j + l) ↔ Earlier i k j l
  -- a guard of a committed transaction leaves nothing out
  pub committed : (ts : List (Txn C V)) (i k n : ℕ) → i < n → k < length (txn ts i).ops
      → left_out ts i k - count ts n ≡ 0
  -- a collection that was taken away is not there until it is made again
  pub missing : (makes drops : ℕ → Bool) (first : Bool) (r t : ℕ) → r < t → drops r ≡ true → makes r ≡ false
      → ((m : ℕ) → r < m → m < t → makes m ≡ false) → is_there makes drops first t ≡ false
