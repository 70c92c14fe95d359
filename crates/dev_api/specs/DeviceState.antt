-- What a device shows, and how calls change it.
use Rattle.std.specs.Prelude.{◌≡◌, ℕ, List}
use Rattle.dev_api.specs.Disk.{Disk, Goes, wrote_in_part, reading}

pub record DeviceState : Type 0 where
  -- its content
  pub disk : Disk
  -- all contents that it has had, the newest first
  pub past : List Disk
  -- how often it has failed
  pub faults : ℕ
  -- its bytes
  pub size : ℕ

-- its content has gone on to this one
abbrev pub GoesTo : DeviceState → DeviceState → Disk → Type 0
GoesTo before now next = Goes before.disk now.disk before.past now.past next

-- a write was refused, so it counts as asked, and the device may read as anything
abbrev pub WritesInPart : DeviceState → DeviceState → ℕ → List ℕ → Type 0
WritesInPart before now at bytes = (r : List ℕ) × GoesTo before now (wrote_in_part before.disk at bytes r)

-- a sync was refused, and the device may read as anything
abbrev pub ReadsAnew : DeviceState → DeviceState → Type 0
ReadsAnew before now = (r : List ℕ) × GoesTo before now (reading before.disk r)

-- it has the content of before, and no other in between
abbrev pub Stays : DeviceState → DeviceState → Type 0
Stays before now = (now.disk ≡ before.disk) × (now.past ≡ before.past)
