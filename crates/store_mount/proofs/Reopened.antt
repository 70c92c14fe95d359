-- The ring of a mount, from its load to its new epoch.
use Rattle.std.proofs.Common.{◌≡◌, ℕ, ◌+◌, ◌≤◌, List, refl, sym, subst}
use Rattle.fs_model.specs.declared.op.Op.{Op}
use Rattle.dev_api.specs.Disk.{Disk}
use Rattle.ring_frame.specs.Frame.{Entry}
use Rattle.ring_frame.specs.Heads.{Head}
use Rattle.ring_images.specs.Held.{readable, EachSound}
use Rattle.ring_images.proofs.Crash.{each_settled}
use Rattle.ring_journal.specs.State.{State, Loaded}
use Rattle.store_history.specs.Journal.{Spells, above, IsAbove}

-- what was loaded has just its transactions
pub loaded_above : (s : State) (d : Disk) (m : ℕ) → Loaded s d → s.head.seq ≤ m + 1 → (txns : List (List Op)) → Spells (above m s.head.seq (readable d.stable)) txns → EachSound (IsAbove s.head.fsid m txns) d
loaded_above s d m l gap txns spells =
    subst (EachSound (IsAbove s.head.fsid m txns)) (sym l.2.is)
    (each_settled (IsAbove s.head.fsid m txns) d.stable (record { head = s.head; header = l.2.header; fsid_is = refl; no_gap = gap; spelled = spells }))

-- what is said of the ring after the replay, said of it as it was loaded
pub as_loaded : (F : Head → List Entry → Type 0) (h h2 : Head) (d d2 : Disk) → h2 ≡ h → d2 ≡ d → F h2 (readable d2.stable) → F h (readable d.stable)
as_loaded F h h2 d d2 e k x = subst (λ (i : Head). F i (readable d.stable)) e (subst (λ (i : Disk). F h2 (readable i.stable)) k x)
