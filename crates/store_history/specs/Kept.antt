-- What a store keeps between two transactions, all of which are applied.
use Rattle.std.specs.Prelude.{◌≡◌, ℕ, ◌+◌, ◌≤◌, ◌<◌, ◌^◌, List}
use Rattle.dev_api.specs.Disk.{Disk}
use Rattle.ring_journal.specs.State.{State}
use Rattle.store_history.specs.History.{History, end_of}
use Rattle.store_history.specs.Journal.{RingSide}
use Rattle.store_history.specs.Images.{Images}

-- What holds of the numbers, whatever is told: the journal begins behind what is committed and ends with what was entered.
pub record Counts (committed journalled : ℕ) (s : State) : Type 0 where
  pub chain : committed ≤ journalled
  pub small : journalled < 2 ^ 63
  pub start : s.head.seq ≡ committed + 1
  pub count : s.head.seq + s.count ≡ journalled + 1
  -- a commit raises the committed number, and writes one header
  pub rises : s.head.generation ≤ 2 ^ 63 + committed

-- What the two sides hold of one history, where both are told. `may` are the tree's images, `tree` is as it reads, and
-- `live h n` says that it reads as after the transaction n.
pub record Kept {Tree : Type 0} (image : Images Tree) (live : History → ℕ → Tree → Type 0) (fsid : List ℕ) (h : History) (committed journalled : ℕ) (may : Tree → Type 0) (tree : Tree) (s : State) (d : Disk) : Type 0 where
  pub small : end_of h < 2 ^ 63
  -- the tree: its number is the committed one, and nothing is past what was entered
  pub images : (t : Tree) → may t → image h committed committed journalled t
  pub reads : live h journalled tree
  -- the ring: it holds what the number doesn't cover, and all of it is synced
  pub ring : RingSide fsid h committed journalled journalled s d
