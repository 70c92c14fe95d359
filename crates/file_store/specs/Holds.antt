-- What a store holds: the objects that it was mounted with, and the transactions since.
use Rattle.std.specs.Prelude.{◌≡◌, ℕ, List, None}
use Rattle.tree_api.specs.Tree.{Tree}
use Rattle.tree_api.specs.Disk.{Disk as Files, Everywhere}
use Rattle.dev_api.specs.Disk.{Disk}
use Rattle.lfn_index.specs.Directory.{entry}
use Rattle.op_effects.specs.Ready.{trash}
use Rattle.store_history.specs.History.{History, end_of, at}
use Rattle.store_history.specs.Journal.{EachImage}
use Rattle.store_history.specs.Pair.{PairsStand, Closed}
use Rattle.store_turns.specs.State.{Holding}
use Rattle.store_turns.specs.declared.numbers.How.TheVariants.{Live}
use Rattle.tree_places.specs.Images.{StoreImage, reads}
use Rattle.history_tails.specs.Tails.{with_more, IsTailOf, WaitBehind}
use Rattle.file_store.specs.Store.{Store, Works, waiting_in}

-- the history with the transactions that wait
abbrev pub with_waiting : History → Store → History
with_waiting h s = with_more h (waiting_in s)

-- They may be done in turn behind the history, and the collections are those after them.
abbrev pub Waits : History → Store → Type 0
Waits h s = WaitBehind h (waiting_in s) s.queue.colls

-- The tree reads as the history's objects after its last transaction.
pub record Reads (h : History) (s : Store) (t : Files) : Type 0 where
  pub works : Works s
  pub long : History
  pub tail : IsTailOf h long
  pub end : end_of h ≡ s.numbers.journalled
  pub shown : reads s.identity.settings Live long s.numbers.journalled t.tree

-- Both sides hold the history, which ends with what is journalled. What waits comes behind it.
pub record Holds (h : History) (s : Store) (t : Files) (d : Disk) : Type 0 where
  pub works : Works s
  pub long : History
  pub tail : IsTailOf h long
  pub end : end_of h ≡ s.numbers.journalled
  pub on : Holding (StoreImage s.identity) (reads s.identity.settings) s.identity.fsid long s.numbers t s.ring d
  pub waits : Waits h s

-- Each pair that a crash may leave of the two stands for the history's objects after its own last number, which is no less
-- than this one.
abbrev pub Leaves : History → ℕ → Store → Files → Disk → Type 0
Leaves h acked s t d = PairsStand (StoreImage s.identity) s.identity.fsid h acked t.may d

-- Nothing stands in the trash, and each image is what reads.
pub record IsSwept (t : Files) : Type 0 where
  pub empty : (step : List ℕ) → t.tree.at (entry trash step) ≡ None
  pub settled : Everywhere t (λ u. u ≡ t.tree)

-- Each of them is a closed store of the history's objects: nothing is left to replay.
abbrev pub LeavesClosed : History → Store → Files → Disk → Type 0
LeavesClosed h s t d = (u : Tree) → t.may u → EachImage (λ c. Closed (StoreImage s.identity) s.identity.fsid u c (at h (end_of h))) d
