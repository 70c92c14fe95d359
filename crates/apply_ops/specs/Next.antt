-- The next operation of a transaction, and the next transaction.
use Rattle.std.specs.Prelude.{◌≡◌, ◌+◌, ◌-◌, ℕ, List, slice_get, Some, Result, OnOk}
use Rattle.fs_names.specs.declared.settings.Settings.{Settings}
use Rattle.fs_model.specs.declared.op.Op.{Op}
use Rattle.tree_api.specs.Disk.{Disk, Everywhere, Keeps}
use Rattle.op_effects.specs.Ready.{Ready}
use Rattle.store_files.specs.Stores.{IsStore}
use Rattle.store_history.specs.History.{History}
use Rattle.store_turns.specs.declared.numbers.How.{How}
use Rattle.tree_places.specs.Images.{IsOwn, Image, reads}
use Rattle.tree_places.specs.Underway.{IsTurn, Underway}

-- any operation may be done, and what is the store's own stands
pub record IsReady (set : Settings) (d : Disk) : Type 0 where
  pub ready : Ready set d
  pub own : IsOwn d.tree

-- whichever store each image was it is at any moment
abbrev pub StaysStore : Disk → Disk → Type 0
StaysStore old new = (fsid : List ℕ) (set : Settings) → Everywhere old (λ t. IsStore t fsid set) → Keeps (λ t. IsStore t fsid set) old new

-- a place in a history: that of the operation at i of the transaction seq, with which images go along from lo to hi
pub record Spot : Type 0 where
  pub how : How
  pub h : History
  pub n : ℕ
  pub lo : ℕ
  pub hi : ℕ
  pub seq : ℕ
  pub ops : List Op
  pub i : ℕ

-- the operation is there, and those before it are done
pub record IsNext (set : Settings) (s : Spot) (op : Op) (d : Disk) : Type 0 where
  pub turn : IsTurn s.how s.h s.lo s.hi s.seq s.ops
  pub here : slice_get s.ops s.i ≡ Some op
  pub now : Underway set s.how s.h s.n s.lo s.hi s.seq s.i d d

-- each image is past what it was past, from one disk to another
abbrev pub SpotKept : Settings → Spot → Disk → Disk → Type 0
SpotKept set s old new = Keeps (Image set s.h s.n s.lo s.hi) old new

-- and the operation is done
abbrev pub SpotDone : Settings → Spot → Disk → Disk → Type 0
SpotDone set s old new = Underway set s.how s.h s.n s.lo s.hi s.seq (s.i + 1) old new

-- the operations are the transaction seq, which no image has to be past, and the tree reads as after the one before
abbrev pub WhereDue : Settings → ℕ → List Op → Disk → (How → History → ℕ → ℕ → ℕ → Type 0) → Type 0
WhereDue set seq ops old P = (how : How) (h : History) (n lo hi : ℕ) → IsTurn how h lo hi seq ops → Everywhere old (Image set h n lo hi)
    → reads set how h (seq - 1) old.tree → P how h n lo hi

-- each image is past what it was past
abbrev pub TxnKept : Settings → ℕ → List Op → Disk → Disk → Type 0
TxnKept set seq ops old new = WhereDue set seq ops old (λ how h n lo hi. Keeps (Image set h n lo hi) old new)

-- where all went well, what reads is past the transaction
abbrev pub TxnDone : {T E : Type 0} → Settings → ℕ → List Op → Result T E → Disk → Disk → Type 0
TxnDone set seq ops result old new = WhereDue set seq ops old (λ how h n lo hi. OnOk result (reads set how h seq new.tree))
