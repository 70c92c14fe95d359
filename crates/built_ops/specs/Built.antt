-- Operations that a store of files does so far. Copies, moves and what concerns the omap are still to come.
use Rattle.std.specs.Prelude.{◌≡◌, ◌≤◌, ℕ, Bool, true, false, not, List, length, slice_get, Option, Some}
use Rattle.std.specs.List.{position}
use Rattle.fs_model.specs.declared.op.Op.{Op}
use Rattle.fs_model.specs.declared.op.Op.TheVariants.{Clone, CloneRange, MoveRename, OmapClear, OmapSet, OmapRemove, OmapRange}
use Rattle.fs_model.specs.Check.{IsWithinLimits}

abbrev pub is_built : Op → Bool
is_built (Clone c o c2 o2) = false
is_built (CloneRange c o c2 o2 from len to) = false
is_built (MoveRename c o c2 o2) = false
is_built (OmapClear c o) = false
is_built (OmapSet c o header pairs) = false
is_built (OmapRemove c o keys) = false
is_built (OmapRange c o from to) = false
is_built _ = true

-- the lowest place of an operation that isn't built
abbrev pub unbuilt_in : List Op → Option ℕ
unbuilt_in = position (λ op. not (is_built op))

-- each operation is built, and has no fault of its own
abbrev pub AllFit : List Op → Type 0
AllFit ops = (i : ℕ) (op : Op) → slice_get ops i ≡ Some op → IsWithinLimits op × (is_built op ≡ true)

-- a transaction of these operations can be done
pub record CanDo (ops : List Op) : Type 0 where
  pub each : AllFit ops
  pub few : length ops ≤ 4096
