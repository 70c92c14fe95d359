-- What a replay starts from.
use Rattle.std.specs.Prelude.{ℕ, ◌+◌, List, length}
use Rattle.fs_model.specs.declared.op.Op.{Op}
use Rattle.fs_model.specs.Objects.{Objects}
use Rattle.tree_api.specs.Tree.{Tree}
use Rattle.tree_api.specs.Disk.{Disk as Files, Everywhere}
use Rattle.dev_api.specs.Disk.{Disk}
use Rattle.ring_frame.specs.Frame.{Entry}
use Rattle.ring_images.specs.Held.{synced}
use Rattle.ring_journal.specs.State.{State}
use Rattle.store_history.specs.History.{History, replay_of}
use Rattle.store_history.specs.Images.{Images}
use Rattle.store_history.specs.Journal.{Spells, above}

-- the entries of a loaded ring above n spell these transactions
abbrev pub SpellsAbove : ℕ → State → Disk → List (List Op) → Type 0
SpellsAbove n ring d txns = Spells (above n ring.head.seq (synced d)) txns

-- the entries above n, the first entry having the number `first`, spell transactions, and each image of the tree is on
-- its way through these
abbrev pub WhereSpelled : Images Tree → ℕ → ℕ → List Entry → Files → (History → Type 0) → Type 0
WhereSpelled image n first es old P = (before : Objects) (txns : List (List Op)) → Spells (above n first es) txns
    → Everywhere old (image (replay_of n before txns) n n (n + length txns)) → P (replay_of n before txns)
