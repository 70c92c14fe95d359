-- What a call sees of an outside object, and what it writes.
use Rattle.std.specs.Prelude.{◌⊎◌, ℕ, List, ◌++◌, take}
use Rattle.tree_api.specs.Disk.{Disk as Files}
use Rattle.tree_api.specs.declared.tree.FileTree.{Ghosts as OfTree}
use Rattle.fault_count.specs.Counted.{Counted}
use Rattle.dev_api.specs.Disk.{Disk}
use Rattle.dev_api.specs.DeviceState.{DeviceState}
use Rattle.ring_images.specs.Held.{IsSound}
use Rattle.dev_api.specs.declared.device.Device.{Ghosts as OfDevice}
use Rattle.io_edge.specs.declared.sink.Sink.{Ghosts as OfSink}
use Rattle.io_edge.specs.declared.source.Source.{Ghosts as OfSource}
use Rattle.io_edge.specs.Flow.{Inflow, Outflow, SinkFails}
use Rattle.io_edge.specs.Pieces.{Writes}

-- whether the object tells its content when the call ends, and what it shows when the call begins and when it ends
pub record Seen (Shown : Type 0) : Type 1 where
  pub told : Type 0
  pub old : Shown
  pub new : Shown

abbrev pub moves : {Shown : Type 0} → Type 0 → Shown → Shown → Seen Shown
moves told old new = record { told = told; old = old; new = new }

-- the two objects that a store lies on
pub record Sides : Type 1 where
  pub tree : Files
  pub device : DeviceState

-- whether both tell their content when the call ends, and what they show when it begins and when it ends
pub record SeenSides : Type 1 where
  pub told : Type 0
  pub old : Sides
  pub new : Sides

abbrev pub sides : Files → DeviceState → Sides
sides tree device = record { tree = tree; device = device }

abbrev pub turns : Type 0 → Sides → Sides → SeenSides
turns told old new = record { told = told; old = old; new = new }

-- by the words of its trait

abbrev pub store_seen : {T D : Type 0} → OfTree T → OfDevice D → T → T → D → D → SeenSides
store_seen g d old new dev now = turns (g.tells new × d.tells now) (sides (g.disk old) (d.state dev)) (sides (g.disk new) (d.state now))

abbrev pub source_seen : {S : Type 0} → OfSource S → S → S → Seen Inflow
source_seen g old new = moves (g.tells new) (g.inflow old) (g.inflow new)

abbrev pub sink_seen : {K : Type 0} → OfSink K → K → K → Seen Outflow
sink_seen g old new = moves (g.tells new) (g.out old) (g.out new)

-- the tree counted a fault in between, or its count stands at its end
abbrev pub TreeFails : SeenSides → Type 0
TreeFails w = Counted w.old.tree.faults w.new.tree.faults

abbrev pub DeviceFails : SeenSides → Type 0
DeviceFails w = Counted w.old.device.faults w.new.device.faults

-- what the disk reads may be what a store left
abbrev pub ReadsSound : Disk → Type 0
ReadsSound d = IsSound d d.reads

-- all that a run works on
pub record Scene : Type 1 where
  pub store : SeenSides
  pub source : Seen Inflow
  pub sink : Seen Outflow

abbrev pub scene : SeenSides → Seen Inflow → Seen Outflow → Scene
scene store source sink = record { store = store; source = source; sink = sink }

-- the text was written
abbrev pub Says : Seen Outflow → List ℕ → Type 0
Says sink text = sink.told → Writes sink.old sink.new text

-- the text was written, and a beginning of the next
abbrev pub SaysPart : Seen Outflow → List ℕ → List ℕ → Type 0
SaysPart sink text next = sink.told → (n : ℕ) × Writes sink.old sink.new (text ++ take n next)

abbrev pub SinkFailed : Seen Outflow → Type 0
SinkFailed sink = SinkFails sink.old sink.new

-- The text was written and then the last line, of which a failing sink may have taken less.
abbrev pub EndsWith : Seen Outflow → List ℕ → List ℕ → Type 0
EndsWith sink text line = Says sink (text ++ line) ⊎ (SinkFailed sink × SaysPart sink text line)
