-- What is seen of a device on a file.
use Rattle.std.specs.Prelude.{ℕ, List}
use Rattle.dev_file.specs.Calls.{Call}
use Rattle.dev_file.specs.declared.device.FileDevice.{FileDevice}
use Rattle.dev_file.specs.declared.calls.Calls as calls
use Rattle.dev_file.specs.declared.start.Start.{Ghosts}

module _ {C S : Type 0} {g : calls.Ghosts C} {start : Ghosts S} where
  -- the record of its calls
  abbrev pub history_of : FileDevice C S g start → List Call
  history_of d = g.history d.calls

  abbrev pub faults_of : FileDevice C S g start → ℕ
  faults_of d = d.faults

  abbrev pub size_of : FileDevice C S g start → ℕ
  size_of d = d.size
