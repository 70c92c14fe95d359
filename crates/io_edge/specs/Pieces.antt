-- What reads and writes of a stream do.
use Rattle.std.specs.Prelude.{◌≡◌, ℕ, ◌<◌, ◌≤◌, List, ◌++◌, length, take, drop}
use Rattle.io_edge.specs.Flow.{Inflow, Outflow}

-- the next n bytes were read to the front of a piece, the rest of which is as it was
pub record Gives (before now : Inflow) (n : ℕ) (piece filled : List ℕ) : Type 0 where
  pub count : n ≤ length before.left
  pub front : filled ≡ take n before.left ++ drop n piece
  pub left : now.left ≡ drop n before.left

-- some more bytes were read, maybe none or all of them
abbrev pub IsLater : Inflow → Inflow → Type 0
IsLater before now = (n : ℕ) × (now.left ≡ drop n before.left)

-- more than `limit` bytes were read
pub record IsPast (limit : ℕ) (before now : Inflow) : Type 0 where
  pub count : ℕ
  pub past : limit < count
  pub within : count ≤ length before.left
  pub rest : now.left ≡ drop count before.left

-- this text was written
pub record Writes (before now : Outflow) (text : List ℕ) : Type 0 where
  pub more : now.written ≡ before.written ++ text

-- the first bytes of a text were written, maybe none or all of them
pub record WritesFront (before now : Outflow) (text : List ℕ) : Type 0 where
  pub count : ℕ
  pub within : count ≤ length text
  pub front : Writes before now (take count text)
