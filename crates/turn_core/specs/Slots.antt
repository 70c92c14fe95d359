-- The slots for started transactions.
use Rattle.std.specs.Prelude.{◌≡◌, ℕ, ◌+◌, ◌<◌, Bool, true, false, cond, not, nat_lt, List, get_or, Option, Some, None, count_by}
use Rattle.fs_names.specs.declared.coll.GroupId.{GroupId}
use Rattle.turn_core.specs.declared.slots.Slot.{Slot}
use Rattle.turn_core.specs.Groups.{meet}

abbrev pub is_free : Option Slot → Bool
is_free None = true
is_free (Some slot) = false

-- the slot is taken, and its transaction names one of these groups
abbrev pub meets_slot : List GroupId → Option Slot → Bool
meets_slot front None = false
meets_slot front (Some slot) = meet front slot.groups

-- how many slots are taken
abbrev pub taken : List (Option Slot) → ℕ
taken slots = count_by (λ slot. not (is_free slot)) slots

-- a slot after its next operation: free after the last one
abbrev pub advanced : Option Slot → Option Slot
advanced None = None
advanced (Some slot) = cond (nat_lt (slot.next + 1) slot.ops) (Some (record slot { next = slot.next + 1 })) None

-- an operation is left, if the slot is taken
abbrev pub HasNext : Option Slot → Type 0
HasNext None = Unit {0}
HasNext (Some slot) = slot.next < slot.ops

-- the slot at this place holds this transaction
abbrev pub Holding : List (Option Slot) → ℕ → Slot → Type 0
Holding slots place slot = get_or slots place None ≡ Some slot
