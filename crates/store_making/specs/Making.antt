-- What making a store answers, and what it leaves.
use Rattle.std.specs.Prelude.{◌≡◌, ◌⊎◌, ℕ, List, [], None, Result, Ok, Err}
use Rattle.std.specs.FinMap as fin
use Rattle.fs_names.specs.declared.settings.Settings.{Settings}
use Rattle.tree_api.specs.Tree.{Tree}
use Rattle.dev_api.specs.Disk.{Disk}
use Rattle.ring_images.specs.Headers.{IsSize}
use Rattle.ring_images.specs.Held.{EachSound, Leaves}
use Rattle.ring_journal.specs.declared.fault.RingFault.{RingFault}
use Rattle.ring_journal.specs.declared.fault.RingFault.TheVariants as ring
use Rattle.ring_journal.specs.State.{first_head}
use Rattle.store_files.specs.News.{IsNew}
use Rattle.store_files.specs.Stores.{HasVersion, version_path}
use Rattle.store_files.specs.Steps.{AllIn, rest_items}
use Rattle.store_files.specs.declared.fault.MakeFault.{MakeFault as FilesFault}
use Rattle.store_files.specs.declared.fault.MakeFault.TheVariants as files
use Rattle.store_history.specs.Pair.{Closed}
use Rattle.tree_places.specs.Images.{StoreImage}
use Rattle.store_making.specs.declared.fault.MakeFault.{MakeFault}
use Rattle.store_making.specs.declared.fault.MakeFault.TheVariants.{NotEmpty, DeviceSize, Tree as TreeFailed, Device, Memory}

abbrev pub of_files : FilesFault → MakeFault
of_files files.NotEmpty = NotEmpty
of_files files.Tree = TreeFailed
of_files files.Memory = Memory

-- the device refused, or else memory was wanting: no other fault comes of making a ring
abbrev pub of_ring : RingFault → MakeFault
of_ring ring.Dev = Device
of_ring _ = Memory

-- a device of another size than a ring's is refused, and none else for its size
abbrev pub TellsSize : {T : Type 0} → ℕ → Result T MakeFault → Type 0
TellsSize size (Ok x) = IsSize size
TellsSize size (Err (DeviceSize n)) = (n ≡ size) × (IsSize size → ⊥)
TellsSize size (Err NotEmpty) = IsSize size
TellsSize size (Err TreeFailed) = IsSize size
TellsSize size (Err Device) = IsSize size
TellsSize size (Err Memory) = IsSize size

-- a store is made in a new tree alone, and no new tree is refused as one that isn't empty
abbrev pub TellsNew : {T : Type 0} → Tree → Result T MakeFault → Type 0
TellsNew t (Ok x) = IsNew t
TellsNew t (Err NotEmpty) = IsNew t → ⊥
TellsNew t (Err (DeviceSize n)) = Unit {0}
TellsNew t (Err TreeFailed) = Unit {0}
TellsNew t (Err Device) = Unit {0}
TellsNew t (Err Memory) = Unit {0}

-- nothing was begun
abbrev pub IsRefusal : MakeFault → Type 0
IsRefusal NotEmpty = Unit {0}
IsRefusal (DeviceSize n) = Unit {0}
IsRefusal TreeFailed = ⊥
IsRefusal Device = ⊥
IsRefusal Memory = ⊥

-- each sound image of the device is the ring that was made, and no entry is in it
abbrev pub IsMade : List ℕ → ℕ → Disk → Type 0
IsMade fsid size d = Leaves (first_head fsid size) [] [] d

-- no version stands, or all is there, the ring too
abbrev pub VersionLast : List ℕ → Settings → ℕ → Disk → Tree → Type 0
VersionLast fsid set size d t = (t.at version_path ≡ None) ⊎ (AllIn (rest_items fsid set) t × IsMade fsid size d)

-- with each sound image of the device the tree makes a closed store without objects
abbrev pub MakesEmpty : List ℕ → Settings → Tree → Disk → Type 0
MakesEmpty fsid set t d = EachSound (λ c. Closed (StoreImage (record { fsid = fsid; settings = set })) fsid t c fin.empty) d

-- it is no store of this version yet, or all is there
abbrev pub Unmade : List ℕ → Settings → ℕ → Tree → Disk → Type 0
Unmade fsid set size t d = HasVersion t 1 → MakesEmpty fsid set t d × IsMade fsid size d
