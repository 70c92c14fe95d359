-- What a name, a key or a namespace may be.
use Rattle.std.specs.Prelude.{◌<◌, ◌≤◌, ℕ, List, length}
use Rattle.std.specs.List.{All}

-- at most 1,024 bytes
pub record IsName (bytes : List ℕ) : Type 0 where
  pub short : length bytes ≤ 1024
  pub small : All (λ b. b < 256) bytes
