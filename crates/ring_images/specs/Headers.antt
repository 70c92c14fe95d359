-- The sizes that a ring's device may have.
use Rattle.std.specs.Prelude.{◌≡◌, ℕ, ◌%◌, ◌≤◌, ◌^◌}
use Rattle.ring_frame.specs.Frame.{block_size}

-- a device may have this size
pub record IsSize (size : ℕ) : Type 0 where
  pub blocks : size % block_size ≡ 0
  pub least : 16384 ≤ size
  pub most : size ≤ 2 ^ 40
