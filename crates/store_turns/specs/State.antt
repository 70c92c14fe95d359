-- What a store keeps, in the words of its two sides.
use Rattle.std.specs.Prelude.{◌≡◌, ℕ, List}
use Rattle.tree_api.specs.Tree.{Tree}
use Rattle.tree_api.specs.Disk.{Disk as Files}
use Rattle.dev_api.specs.Disk.{Disk}
use Rattle.ring_journal.specs.State.{State}
use Rattle.store_history.specs.History.{History}
use Rattle.store_history.specs.Images.{Images}
use Rattle.store_history.specs.Kept.{Counts, Kept}
use Rattle.store_turns.specs.declared.numbers.Numbers.{Numbers}
use Rattle.store_turns.specs.declared.numbers.How.TheVariants.{Live}
use Rattle.store_turns.specs.Theory.{Reads}

-- The numbers fit the ring, and where it has no entry all its room is free.
pub record Fits (core : Numbers) (s : State) : Type 0 where
  pub counts : Counts core.committed core.journalled s
  pub emptied : s.count ≡ 0 → s.used ≡ 0

-- both sides hold this history
abbrev pub Holding : Images Tree → Reads → List ℕ → History → Numbers → Files → State → Disk → Type 0
Holding image reads fsid h core t s d = Kept image (reads Live) fsid h core.committed core.journalled t.may t.tree s d
