-- Counts of faults.
use Rattle.std.specs.Prelude.{ℕ, ◌+◌, ◌-◌, ◌^◌, ◌≤◌, min}

-- one more, where the count does not stand at its last value
abbrev pub one_more : ℕ → ℕ
one_more count = min (count + 1) (2 ^ 64 - 1)

-- a fault was counted between these two, or the count stands at its last value
abbrev pub Counted : ℕ → ℕ → Type 0
Counted before now = one_more before ≤ now
