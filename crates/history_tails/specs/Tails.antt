-- A history with more transactions, and the end of one.
use Rattle.std.specs.Prelude.{◌≡◌, ℕ, ◌-◌, ◌≤◌, List, [], ◌++◌, drop}
use Rattle.fs_model.specs.declared.op.Op.{Op}
use Rattle.fs_model.specs.Objects.{Objects}
use Rattle.fs_model.specs.Colls.{CollSet, colls_of}
use Rattle.fs_model.specs.Check.{colls_after}
use Rattle.fs_cells.specs.Standing.{AllAllowed}
use Rattle.store_history.specs.History.{History, end_of, at}
use Rattle.tree_places.specs.Line.{ops_of}

-- no transactions yet, after the objects at this number
abbrev pub begun : ℕ → Objects → History
begun n O = record { base = n; origin = O; txns = [] }

-- with these transactions behind
abbrev pub with_more : History → List (List Op) → History
with_more h txns = record { base = h.base; origin = h.origin; txns = h.txns ++ txns }

-- The longer history ends as the other does: it has the same objects where that begins, and the same transactions since.
pub record IsTailOf (h long : History) : Type 0 where
  pub base : long.base ≤ h.base
  pub origin : at long h.base ≡ h.origin
  pub txns : drop (h.base - long.base) long.txns ≡ h.txns
  pub end : end_of long ≡ end_of h

-- The transactions may be done in turn behind the history, and the collections are those after them.
pub record WaitBehind (h : History) (txns : List (List Op)) (colls : CollSet) : Type 0 where
  pub allowed : AllAllowed (at h (end_of h)) txns
  pub colls_are : colls ≡ colls_after (colls_of (at h (end_of h))) (ops_of txns)
