-- A tree that applies whole transactions, each at once, and remembers how many it has.
use Rattle.std.specs.Prelude.{◌≡◌, ℕ, ◌≤◌}
use Rattle.fs_model.specs.Objects.{Objects}
use Rattle.store_history.specs.History.{History, at}

pub record Stepping : Type 0 where
  pub number : ℕ
  pub applied : ℕ
  pub objects : Objects

-- its number is n, it has applied at least the transactions up to lo and at most those up to hi, and has their objects
pub record IsStepping (h : History) (n lo hi : ℕ) (t : Stepping) : Type 0 where
  pub number_is : t.number ≡ n
  pub low : lo ≤ t.applied
  pub high : t.applied ≤ hi
  pub objects_are : t.objects ≡ at h t.applied
