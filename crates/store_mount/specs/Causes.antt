-- Why a mount gives up: what is so of the tree and of the device's bytes as they read.
use Rattle.std.specs.Prelude.{◌≡◌, ℕ, ◌+◌, ◌-◌, ◌≤◌, ◌<◌, List, [], ◌∷◌, take, drop, Some, None, Ok}
use Rattle.fs_model.specs.declared.op.Op.{Op}
use Rattle.txn_codec.specs.Reading.{decoded}
use Rattle.tree_api.specs.Tree.{Tree}
use Rattle.ring_frame.specs.Frame.{Entry}
use Rattle.ring_frame.specs.Heads.{Head, head_of}
use Rattle.ring_images.specs.Held.{readable}
use Rattle.ring_journal.specs.declared.blob.Stored.{Stored}
use Rattle.ring_journal.specs.State.{IsOtherRing, IsSpent, IsUnspent, told_first}
use Rattle.store_history.specs.Journal.{Spells, above}
use Rattle.store_mount.specs.declared.fault.MountFault.{MountFault}
use Rattle.store_mount.specs.declared.fault.MountFault.TheVariants.{NoHeader, WrongFsid, Spent, BadSeq, JournalGap, Damaged, BadEntry, Tree as OfTree, Device, Memory}

-- each of these transactions can be done
abbrev pub AreFit : (List Op → Type 0) → List (List Op) → Type 0
AreFit fits [] = Unit {0}
AreFit fits (ops ∷ txns) = fits ops × AreFit fits txns

-- it comes before any entry is done again
abbrev pub IsFoundFirst : MountFault → Type 0
IsFoundFirst NoHeader = Unit {0}
IsFoundFirst (WrongFsid tree ring) = Unit {0}
IsFoundFirst Spent = Unit {0}
IsFoundFirst BadSeq = Unit {0}
IsFoundFirst (JournalGap start committed) = Unit {0}
IsFoundFirst (Damaged path) = Unit {0}
IsFoundFirst (BadEntry seq) = ⊥
IsFoundFirst OfTree = ⊥
IsFoundFirst Device = ⊥
IsFoundFirst Memory = ⊥

-- it says nothing of what the store holds
abbrev pub IsOutside : MountFault → Type 0
IsOutside OfTree = Unit {0}
IsOutside Device = Unit {0}
IsOutside Memory = Unit {0}
IsOutside NoHeader = ⊥
IsOutside (WrongFsid tree ring) = ⊥
IsOutside Spent = ⊥
IsOutside BadSeq = ⊥
IsOutside (JournalGap start committed) = ⊥
IsOutside (Damaged path) = ⊥
IsOutside (BadEntry seq) = ⊥

-- the bytes have a ring that may be loaded for the fsid
pub record Loads (bytes fsid : List ℕ) : Type 0 where
  pub head : Head
  pub header : head_of bytes ≡ Some head
  pub fsid_is : head.fsid ≡ fsid
  pub unspent : IsUnspent head

-- such a ring begins further than one behind the committed number
pub record IsGap (number : Tree → ℕ → Type 0) (fsid : List ℕ) (t : Tree) (bytes : List ℕ) (start committed : ℕ) : Type 0 where
  pub loads : Loads bytes fsid
  pub start_is : start ≡ loads.head.seq
  pub number_is : number t committed
  pub gap : committed + 1 < start

-- such a ring leaves no gap, but no transactions may be done on the tree
pub record IsDamaged (number : Tree → ℕ → Type 0) (laid : Tree → Type 0) (fsid : List ℕ) (t : Tree) (bytes : List ℕ) : Type 0 where
  pub loads : Loads bytes fsid
  pub committed : ℕ
  pub number_is : number t committed
  pub no_gap : loads.head.seq ≤ committed + 1
  pub not_laid : laid t → ⊥

-- Of these entries, the first of which has the number `first`, the one with the number seq is above n and spells no
-- transaction that can be done, and those before it that are above n do.
pub record IsBadEntry (fits : List Op → Type 0) (n first : ℕ) (es : List Entry) (seq : ℕ) : Type 0 where
  pub place : ℕ
  pub stored : Stored
  pub told : told_first (drop place es) ≡ Some stored
  pub number : seq ≡ first + place
  pub above : n < seq
  pub spells_none : (ops : List Op) → decoded stored.payload ≡ Ok ops → fits ops → ⊥
  pub before : (txns : List (List Op)) × Spells (drop (n + 1 - first) (take place es)) txns × AreFit fits txns

-- transactions may be done, but of such a ring's entries above the committed number this is the first that spells none
-- that can be done
pub record HasBadEntry (fits : List Op → Type 0) (number : Tree → ℕ → Type 0) (laid : Tree → Type 0) (fsid : List ℕ) (t : Tree) (bytes : List ℕ) (seq : ℕ) : Type 0 where
  pub loads : Loads bytes fsid
  pub committed : ℕ
  pub number_is : number t committed
  pub no_gap : loads.head.seq ≤ committed + 1
  pub is_laid : laid t
  pub bad : IsBadEntry fits committed loads.head.seq (readable bytes) seq

-- why the bytes have no ring that may be loaded for the fsid
abbrev pub RefusesRing : List ℕ → List ℕ → MountFault → Type 0
RefusesRing bytes fsid NoHeader = head_of bytes ≡ None
RefusesRing bytes fsid (WrongFsid tree ring) = (tree ≡ fsid) × IsOtherRing bytes fsid ring
RefusesRing bytes fsid Spent = IsSpent bytes fsid
RefusesRing bytes fsid Device = Unit {0}
RefusesRing bytes fsid Memory = Unit {0}
RefusesRing bytes fsid OfTree = ⊥
RefusesRing bytes fsid BadSeq = ⊥
RefusesRing bytes fsid (JournalGap start committed) = ⊥
RefusesRing bytes fsid (Damaged path) = ⊥
RefusesRing bytes fsid (BadEntry seq) = ⊥

-- why the tree has no committed number
abbrev pub RefusesNumber : (Tree → ℕ → Type 0) → Tree → MountFault → Type 0
RefusesNumber number t BadSeq = (n : ℕ) → number t n → ⊥
RefusesNumber number t OfTree = Unit {0}
RefusesNumber number t Memory = Unit {0}
RefusesNumber number t Device = ⊥
RefusesNumber number t NoHeader = ⊥
RefusesNumber number t (WrongFsid tree ring) = ⊥
RefusesNumber number t Spent = ⊥
RefusesNumber number t (JournalGap start committed) = ⊥
RefusesNumber number t (Damaged path) = ⊥
RefusesNumber number t (BadEntry seq) = ⊥

-- why no transactions may be done on the tree
abbrev pub RefusesLook : (Tree → Type 0) → Tree → MountFault → Type 0
RefusesLook laid t (Damaged path) = laid t → ⊥
RefusesLook laid t OfTree = Unit {0}
RefusesLook laid t Memory = Unit {0}
RefusesLook laid t Device = ⊥
RefusesLook laid t NoHeader = ⊥
RefusesLook laid t (WrongFsid tree ring) = ⊥
RefusesLook laid t Spent = ⊥
RefusesLook laid t BadSeq = ⊥
RefusesLook laid t (JournalGap start committed) = ⊥
RefusesLook laid t (BadEntry seq) = ⊥

-- why an entry was not done again
abbrev pub RefusesEntry : (List Op → Type 0) → ℕ → Stored → MountFault → Type 0
RefusesEntry fits n stored (BadEntry seq) = (seq ≡ stored.seq) × (n < stored.seq) × ((ops : List Op) → decoded stored.payload ≡ Ok ops → fits ops → ⊥)
RefusesEntry fits n stored (Damaged path) = Unit {0}
RefusesEntry fits n stored OfTree = Unit {0}
RefusesEntry fits n stored Memory = Unit {0}
RefusesEntry fits n stored Device = ⊥
RefusesEntry fits n stored NoHeader = ⊥
RefusesEntry fits n stored (WrongFsid tree ring) = ⊥
RefusesEntry fits n stored Spent = ⊥
RefusesEntry fits n stored BadSeq = ⊥
RefusesEntry fits n stored (JournalGap start committed) = ⊥

-- why these entries, the first of which has the number `first`, are not all done again above n
abbrev pub RefusesReplay : (List Op → Type 0) → ℕ → ℕ → List Entry → MountFault → Type 0
RefusesReplay fits n first es (BadEntry seq) = IsBadEntry fits n first es seq
RefusesReplay fits n first es (Damaged path) = Unit {0}
RefusesReplay fits n first es OfTree = Unit {0}
RefusesReplay fits n first es Memory = Unit {0}
RefusesReplay fits n first es Device = Unit {0}
RefusesReplay fits n first es NoHeader = ⊥
RefusesReplay fits n first es (WrongFsid tree ring) = ⊥
RefusesReplay fits n first es Spent = ⊥
RefusesReplay fits n first es BadSeq = ⊥
RefusesReplay fits n first es (JournalGap start committed) = ⊥

-- why the two can't be mounted: just one of these is so, or they can
abbrev pub Explains : (List Op → Type 0) → (Tree → ℕ → Type 0) → (Tree → Type 0) → List ℕ → Tree → List ℕ → MountFault → Type 0
Explains fits number laid fsid t bytes NoHeader = head_of bytes ≡ None
Explains fits number laid fsid t bytes (WrongFsid tree ring) = (tree ≡ fsid) × IsOtherRing bytes fsid ring
Explains fits number laid fsid t bytes Spent = IsSpent bytes fsid
Explains fits number laid fsid t bytes BadSeq = Loads bytes fsid × ((n : ℕ) → number t n → ⊥)
Explains fits number laid fsid t bytes (JournalGap start committed) = IsGap number fsid t bytes start committed
Explains fits number laid fsid t bytes (Damaged path) = IsDamaged number laid fsid t bytes
Explains fits number laid fsid t bytes (BadEntry seq) = HasBadEntry fits number laid fsid t bytes seq
Explains fits number laid fsid t bytes OfTree = Unit {0}
Explains fits number laid fsid t bytes Device = Unit {0}
Explains fits number laid fsid t bytes Memory = Unit {0}

-- they can, with this committed number
pub record CanMount (fits : List Op → Type 0) (number : Tree → ℕ → Type 0) (laid : Tree → Type 0) (fsid : List ℕ) (t : Tree) (bytes : List ℕ) (committed : ℕ) : Type 0 where
  pub loads : Loads bytes fsid
  pub number_is : number t committed
  pub no_gap : loads.head.seq ≤ committed + 1
  pub is_laid : laid t
  pub txns : List (List Op)
  pub spelled : Spells (above committed loads.head.seq (readable bytes)) txns
  pub fit : AreFit fits txns
