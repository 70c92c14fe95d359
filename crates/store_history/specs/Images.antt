-- How far a tree has gone in a history.
use Rattle.std.specs.Prelude.{◌≡◌, ℕ, ◌+◌, ◌≤◌, ◌<◌, List, length}
use Rattle.fs_model.specs.Objects.{Objects}
use Rattle.fs_model.specs.declared.op.Op.{Op}
use Rattle.fs_model.specs.Rows.{fold_txns}
use Rattle.store_history.specs.History.{History, end_of, part, at, replay_of}

-- `image h n lo hi t`: the committed number of t is n, and each part of t is past the transactions up to lo and past none
-- above hi.
abbrev pub Images : Type 0 → Type 1
Images Tree = History → ℕ → ℕ → ℕ → Tree → Type 0

-- What the pair of a tree and a journal asks of such a relation.
pub record ImageLaws {Tree : Type 0} (image : Images Tree) : Type 0 where
  -- one more transaction may start
  pub more : (h : History) (n lo hi : ℕ) (t : Tree) → hi < end_of h → image h n lo hi t → image h n lo (hi + 1) t
  -- the transactions up to the committed number are forgotten, and those that a journal has besides come behind
  pub rebase : (h : History) (n lo hi end : ℕ) (t : Tree) → h.base ≤ n → n ≤ lo → lo ≤ hi → hi ≤ end → end ≤ end_of h
      → image h n lo hi t → image (replay_of n (at h n) (part h n end)) n n end t
  -- whatever a tree began with, the same transactions take it to one end
  pub once : (n : ℕ) (before before2 : Objects) (txns : List (List Op)) (t : Tree)
      → image (replay_of n before txns) n n (n + length txns) t → image (replay_of n before2 txns) n n (n + length txns) t
      → fold_txns before txns ≡ fold_txns before2 txns
  -- a tree has one committed number
  pub one_number : (h g : History) (n m lo lo2 hi hi2 : ℕ) (t : Tree) → image h n lo hi t → image g m lo2 hi2 t → n ≡ m
