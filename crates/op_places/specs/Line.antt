-- A line of operations, which a store does one after the other.
use Rattle.std.specs.Prelude.{◌≡◌, ℕ, zero, suc, Bool, false, cond, not, ◌&&◌, ◌||◌, List, [], ◌∷◌, map, take}
use Rattle.std.specs.Ordering.{eq_by_cmp}
use Rattle.fs_names.specs.declared.coll.Coll.{Coll}
use Rattle.fs_names.specs.Order.{coll_cmp}
use Rattle.fs_model.specs.declared.op.Op.{Op}
use Rattle.fs_model.specs.declared.op.Op.TheVariants.{MkColl, RmColl}
use Rattle.fs_model.specs.Objects.{Objects}
use Rattle.fs_model.specs.Rows.{fold_ops}
use Rattle.replay_laws.specs.Replay.{Source, Case}
use Rattle.fs_cells.specs.declared.cell.Cell.{Cell}
use Rattle.fs_cells.specs.Values.{Value, raise, cells_of}
use Rattle.fs_cells.specs.Actions.{act_of}
use Rattle.fs_cells.specs.Laws.{AreAllowed}
use Rattle.tree_stands.specs.Shown.{Counts}

-- what the operations do to the cells of the objects
abbrev pub line_of : Objects → List Op → Case Cell Value
line_of O ops = record { raise = raise; ops = map act_of ops; before = cells_of O; start = cells_of O; skips = λ x. 0 }

-- the objects after the first k of them
abbrev pub after_ops : Objects → List Op → ℕ → Objects
after_ops O ops k = fold_ops O (take k ops)

-- the operation makes this collection, and takes it away
abbrev pub makes : Coll → Op → Bool
makes c (MkColl d) = eq_by_cmp coll_cmp c d
makes c _ = false

abbrev pub takes : Coll → Op → Bool
takes c (RmColl d) = eq_by_cmp coll_cmp c d
takes c _ = false

-- whether the collection is there after the operation
abbrev pub there_by : Coll → Op → Bool → Bool
there_by c op there = makes c op || (not (takes c op) && there)

-- it makes and takes away none
abbrev pub KeepsColls : Op → Type 0
KeepsColls op = (c : Coll) → (makes c op ≡ false) × (takes c op ≡ false)

abbrev pub one_past : ℕ → Bool → ℕ
one_past zero first = cond first 1 0
one_past (suc n) first = suc (suc n)

-- one past the last operation that takes the collection away, 0 where none does
abbrev pub gone_in : Coll → List Op → ℕ
gone_in c [] = 0
gone_in c (op ∷ ops) = one_past (gone_in c ops) (takes c op)

-- what guards count where none is set: the cells of a missing collection are past its last removal
abbrev pub counts_of : List Op → Counts
counts_of ops = record { of_file = λ n text. 0; of_dir = λ c text. 0; gone = λ c. gone_in c ops }

-- the operation copies nothing
abbrev pub CopiesNone : Op → Type 0
CopiesNone op = (x y : Cell) → Source (act_of op x) y → ⊥

abbrev pub NoneCopies : List Op → Type 0
NoneCopies [] = Unit {0}
NoneCopies (op ∷ ops) = CopiesNone op × NoneCopies ops

-- each is allowed after those before it, and none copies
pub record IsPlain (O : Objects) (ops : List Op) : Type 0 where
  pub allowed : AreAllowed O ops
  pub built : NoneCopies ops
