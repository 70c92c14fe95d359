-- What the faults of a store that works are to a script.
use Rattle.std.specs.Prelude.{◌≡◌}
use Rattle.file_store.specs.declared.fault.TurnFault.{TurnFault}
use Rattle.file_store.specs.declared.fault.TurnFault.TheVariants as turn
use Rattle.file_store.specs.declared.fault.ReadFault.{ReadFault}
use Rattle.file_store.specs.declared.fault.ReadFault.TheVariants as reading
use Rattle.script_store.specs.declared.fault.StepFault.{StepFault}
use Rattle.script_store.specs.declared.fault.StepFault.TheVariants as stepping

-- the fault of a reading is handed on as this
abbrev pub IsOfReading : ReadFault → StepFault → Type 0
IsOfReading (reading.Broken first) fault = ⊥
IsOfReading reading.Tree fault = fault ≡ stepping.Tree
IsOfReading (reading.Damaged path) fault = fault ≡ stepping.Damaged path
IsOfReading reading.Memory fault = fault ≡ stepping.Memory

-- and that of a drain as this
abbrev pub IsOfTurn : TurnFault → StepFault → Type 0
IsOfTurn (turn.Broken first) fault = ⊥
IsOfTurn turn.Tree fault = fault ≡ stepping.Tree
IsOfTurn turn.Device fault = fault ≡ stepping.Device
IsOfTurn (turn.Damaged path) fault = fault ≡ stepping.Damaged path
IsOfTurn turn.Memory fault = fault ≡ stepping.Memory
