-- What faults tell.
use Rattle.std.proofs.Common.{◌≡◌, refl, sym, ◌∙◌, subst}
use Rattle.std.specs.Prelude.{Some, None, ◌≢◌}
use Rattle.tree_api.specs.Tree.{Path}
use Rattle.file_store.specs.declared.fault.First.{First}
use Rattle.file_store.specs.declared.fault.TurnFault.{TurnFault}
use Rattle.file_store.specs.declared.fault.TurnFault.TheVariants as turn
use Rattle.file_store.specs.declared.fault.ReadFault.{ReadFault}
use Rattle.file_store.specs.declared.fault.ReadFault.TheVariants as reading
use Rattle.file_store.specs.Store.{Store, Works}
use Rattle.file_store.specs.Faults.{BreaksAt, ReadsBroken}
use Rattle.script_store.specs.declared.fault.StepFault.{StepFault}
use Rattle.script_store.specs.declared.fault.StepFault.TheVariants as stepping
use Rattle.script_store.specs.Faults.{IsOfReading, IsOfTurn}

some_first : (first : First) → Some first ≡ None → ⊥
some_first first e = absurd (cc)

-- a store that works isn't broken

pub reading_works : (s : Store) (fault : ReadFault) → Works s → ReadsBroken s fault → (first : First) → fault ≢ reading.Broken first
reading_works s fault works broken first is = some_first first (sym (subst (ReadsBroken s) is broken) ∙ works)

pub turn_works : (s s2 : Store) (fault : TurnFault) → Works s → BreaksAt s s2 fault → (first : First) → fault ≢ turn.Broken first
turn_works s s2 fault works broken first is = some_first first (sym (subst (BreaksAt s s2) is broken).0 ∙ works)

-- what is handed on is the same fault

pub reading_tree : (fault : ReadFault) (to : StepFault) → IsOfReading fault to → to ≡ stepping.Tree → fault ≡ reading.Tree
reading_tree (reading.Broken first) to of is = absurd of
reading_tree reading.Tree to of is = refl
reading_tree (reading.Damaged path) to of is = absurd (cc)
reading_tree reading.Memory to of is = absurd (cc)

pub reading_device : (fault : ReadFault) (to : StepFault) → IsOfReading fault to → to ≡ stepping.Device → ⊥
reading_device (reading.Broken first) to of is = of
reading_device reading.Tree to of is = absurd (cc)
reading_device (reading.Damaged path) to of is = absurd (cc)
reading_device reading.Memory to of is = absurd (cc)

pub reading_undamaged : (fault : ReadFault) (to : StepFault) (path : Path) → IsOfReading fault to → fault ≢ reading.Damaged path → to ≢ stepping.Damaged path
reading_undamaged (reading.Broken first) to path of un is = of
reading_undamaged reading.Tree to path of un is = absurd (cc)
reading_undamaged (reading.Damaged found) to path of un is = un (same found path (sym of ∙ is))
  where
    same : (a b : Path) → ◌≡◌ {A = StepFault} (stepping.Damaged a) (stepping.Damaged b) → ◌≡◌ {A = ReadFault} (reading.Damaged a) (reading.Damaged b)
    same a b e = cc
reading_undamaged reading.Memory to path of un is = absurd (cc)

pub turn_tree : (fault : TurnFault) (to : StepFault) → IsOfTurn fault to → to ≡ stepping.Tree → fault ≡ turn.Tree
turn_tree (turn.Broken first) to of is = absurd of
turn_tree turn.Tree to of is = refl
turn_tree turn.Device to of is = absurd (cc)
turn_tree (turn.Damaged path) to of is = absurd (cc)
turn_tree turn.Memory to of is = absurd (cc)

pub turn_device : (fault : TurnFault) (to : StepFault) → IsOfTurn fault to → to ≡ stepping.Device → fault ≡ turn.Device
turn_device (turn.Broken first) to of is = absurd of
turn_device turn.Tree to of is = absurd (cc)
turn_device turn.Device to of is = refl
turn_device (turn.Damaged path) to of is = absurd (cc)
turn_device turn.Memory to of is = absurd (cc)

pub turn_undamaged : (fault : TurnFault) (to : StepFault) (path : Path) → IsOfTurn fault to → fault ≢ turn.Damaged path → to ≢ stepping.Damaged path
turn_undamaged (turn.Broken first) to path of un is = of
turn_undamaged turn.Tree to path of un is = absurd (cc)
turn_undamaged turn.Device to path of un is = absurd (cc)
turn_undamaged (turn.Damaged found) to path of un is = un (same found path (sym of ∙ is))
  where
    same : (a b : Path) → ◌≡◌ {A = StepFault} (stepping.Damaged a) (stepping.Damaged b) → ◌≡◌ {A = TurnFault} (turn.Damaged a) (turn.Damaged b)
    same a b e = cc
turn_undamaged turn.Memory to path of un is = absurd (cc)
