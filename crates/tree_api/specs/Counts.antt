-- What a call counts.
use Rattle.std.specs.Prelude.{◌≡◌, ◌≤◌, ◌+◌, ℕ}
use Rattle.fault_count.specs.Counted.{Counted}
use Rattle.tree_api.specs.Disk.{Disk}

-- No count falls. It is refused only where the tree has counted a fault; so many looks and whole syncs are made at most.
pub record Counts (refused : Type 0) (most_looks most_syncs : ℕ) (old new : Disk) : Type 0 where
  pub faults : old.faults ≤ new.faults
  pub cause : refused → Counted old.faults new.faults
  pub looks : old.looks ≤ new.looks
  pub few_looks : new.looks ≤ old.looks + most_looks
  pub syncs : old.syncs ≤ new.syncs
  pub few_syncs : new.syncs ≤ old.syncs + most_syncs
  pub checkpoints : new.checkpoints ≡ old.checkpoints
