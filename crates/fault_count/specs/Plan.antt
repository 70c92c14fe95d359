-- The calls of an object in memory, some of which are to fail.
use Rattle.std.specs.Prelude.{ℕ, List}

pub record Plan : Type 0 where
  -- the numbers of the calls that fail, the first call being 1
  pub fail : List ℕ
  -- the number of the last call, 0 at first
  pub calls : ℕ
  -- how many faults were counted
  pub faults : ℕ
