-- Transactions of operations in the slots of a store.
use Rattle.std.specs.Prelude.{◌≡◌, ℕ, ◌+◌, ◌-◌, List, [], length, get_or}
use Rattle.fs_model.specs.declared.op.Op.{Op}
use Rattle.fs_model.specs.Named.{groups_of}
use Rattle.turn_core.specs.declared.slots.Slot.{Slot}
use Rattle.fs_cells.specs.Standing.{group_at, history_of}
use Rattle.turn_history.specs.History.{Matches}

-- a slot with the groups and the number of operations of its transaction matches it
abbrev pub SlotMatches : Type 0
SlotMatches = (base : ℕ) (txns : List (List Op)) (slot : Slot) → slot.ops ≡ length (get_or txns (slot.seq - (base + 1)) [])
    → slot.groups ≡ groups_of (get_or txns (slot.seq - (base + 1)) []) → Matches group_at base (history_of txns) slot
