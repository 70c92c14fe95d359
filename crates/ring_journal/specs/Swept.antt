-- Free blocks that are cleared from an offset on.
use Rattle.std.specs.Prelude.{◌≡◌, ℕ, ◌+◌, ◌≤◌, Bool, true, List, length, take, drop, Result, IfOk, OnOk}
use Rattle.dev_api.specs.Disk.{Disk}
use Rattle.dev_api.specs.DeviceState.{DeviceState}
use Rattle.dev_api.specs.Run.{KeepsSince}
use Rattle.ring_frame.specs.Frame.{Entry, block_size}
use Rattle.ring_frame.specs.Heads.{Head}
use Rattle.ring_images.specs.Readable.{sizes}
use Rattle.ring_images.specs.Turned.{turned, ring_from}
use Rattle.ring_images.specs.Held.{Leaves}
use Rattle.ring_images.specs.Cleaning.{Cleared}
use Rattle.ring_journal.specs.State.{IsSettled}

-- a ring that begins at this place is clean behind its entries up to an offset
pub record Sweeps (h : Head) (start size : ℕ) (heads : List ℕ) (es : List Entry) (from : ℕ) (d : Disk) : Type 0 where
  pub start_is : h.start ≡ start
  pub behind : sizes es ≤ from
  pub clean : Cleared h size heads es from d

-- it is clean up to an offset now, and behind it reads as before
pub record Swept (h : Head) (size : ℕ) (heads : List ℕ) (es : List Entry) (to : ℕ) (old now : Disk) : Type 0 where
  pub clean : Cleared h size heads es to now
  pub rest : drop to (turned h.start now.reads) ≡ drop to (turned h.start old.reads)

-- ---- what a call owes each ring that is clean so far

-- a fact of each
abbrev pub ForEachSwept : ℕ → ℕ → ℕ → Disk → (Head → List ℕ → List Entry → Type 0) → Type 0
ForEachSwept start size from d P = (h : Head) (heads : List ℕ) (es : List Entry) → Sweeps h start size heads es from d → P h heads es

-- no image has lost an entry or has another
abbrev pub KeepsSwept : ℕ → ℕ → ℕ → DeviceState → DeviceState → Type 0
KeepsSwept start size from before now = ForEachSwept start size from before.disk (λ h heads es. KeepsSince (Leaves h es es) before now)

-- a block that begins with these bytes was cleared
abbrev pub ClearsBlock : {T E : Type 0} → Result T E → ℕ → ℕ → ℕ → List ℕ → Disk → Disk → Type 0
ClearsBlock result start size offset front old now =
    ForEachSwept start size offset old (λ h heads es. front ≡ take 8 (ring_from start offset old.reads)
    → OnOk result (Swept h size heads es (offset + block_size) old now))

-- the blocks of a piece that reads as these bytes
abbrev pub ReadsAs : ℕ → ℕ → List ℕ → Disk → Type 0
ReadsAs start offset bytes d = bytes ≡ take (length bytes) (ring_from start offset d.reads)

abbrev pub ClearsPiece : {T E : Type 0} → Result T E → ℕ → ℕ → ℕ → List ℕ → Disk → Disk → Type 0
ClearsPiece result start size offset bytes old now =
    ForEachSwept start size offset old (λ h heads es. ReadsAs start offset bytes old → OnOk result (Cleared h size heads es (offset + length bytes) now))

abbrev pub KeepsPiece : ℕ → ℕ → ℕ → List ℕ → DeviceState → DeviceState → Type 0
KeepsPiece start size offset bytes before now =
    ForEachSwept start size offset before.disk (λ h heads es. ReadsAs start offset bytes before.disk → KeepsSince (Leaves h es es) before now)

-- all blocks up to an offset, with a sync, unless they are known to be clean
abbrev pub ClearedSynced : Head → ℕ → List ℕ → List Entry → ℕ → Disk → Type 0
ClearedSynced h size heads es to d = Cleared h size heads es to d × IsSettled d

abbrev pub ClearsFree : {T E : Type 0} → Result T E → ℕ → ℕ → ℕ → ℕ → Bool → Disk → Disk → Type 0
ClearsFree result start size from to clean old now =
    ForEachSwept start size from old (λ h heads es. IsSettled old → (clean ≡ true → Cleared h size heads es to old)
    → OnOk result (ClearedSynced h size heads es to now))

-- the blocks up to an offset, or up to the one that is answered
abbrev pub ClearsTo : {T E : Type 0} → Result T E → ℕ → ℕ → ℕ → ℕ → Disk → Disk → Type 0
ClearsTo result start size from to old now = ForEachSwept start size from old (λ h heads es. OnOk result (Cleared h size heads es to now))

abbrev pub ClearsNext : {E : Type 0} → Result ℕ E → ℕ → ℕ → ℕ → Disk → Disk → Type 0
ClearsNext result start size from old now =
    ForEachSwept start size from old (λ h heads es. IfOk result (λ end. Cleared h size heads es end now))

-- and with a sync
abbrev pub ClearsSynced : {T E : Type 0} → Result T E → ℕ → ℕ → ℕ → ℕ → Disk → Disk → Type 0
ClearsSynced result start size from to old now =
    ForEachSwept start size from old (λ h heads es. OnOk result (ClearedSynced h size heads es to now))
