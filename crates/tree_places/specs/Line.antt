-- How far a tree has gone in a store's history, whose transactions are done one after the other.
use Rattle.std.specs.Prelude.{ℕ, ◌-◌, List, [], ◌∷◌, ◌++◌, length, take}
use Rattle.fs_names.specs.declared.settings.Settings.{Settings}
use Rattle.fs_model.specs.declared.op.Op.{Op}
use Rattle.tree_api.specs.Tree.{Tree}
use Rattle.store_history.specs.History.{History}
use Rattle.op_places.specs.Line.{IsPlain}
use Rattle.op_places.specs.Places.{PastOps}

-- the operations of transactions, in order
abbrev pub ops_of : List (List Op) → List Op
ops_of [] = []
ops_of (ops ∷ txns) = ops ++ ops_of txns

-- those of the history's transactions up to a number, and how many they are
abbrev pub ops_to : History → ℕ → List Op
ops_to h number = ops_of (take (number - h.base) h.txns)

abbrev pub count_to : History → ℕ → ℕ
count_to h number = length (ops_to h number)

-- Each operation of the history is allowed, and none copies. Each part of the tree is past the first k of them, and past none
-- but those of the transactions up to hi.
pub record At (set : Settings) (h : History) (k hi : ℕ) (t : Tree) : Type 0 where
  pub plain : IsPlain h.origin (ops_of h.txns)
  pub past : PastOps set h.origin (ops_to h hi) k t

-- each part is past the transactions up to lo, and past none above hi
abbrev pub Past : Settings → History → ℕ → ℕ → Tree → Type 0
Past set h lo hi t = At set h (count_to h lo) hi t

-- with one transaction more
abbrev pub with_txn : History → List Op → History
with_txn h ops = record { base = h.base; origin = h.origin; txns = h.txns ++ ops ∷ [] }
