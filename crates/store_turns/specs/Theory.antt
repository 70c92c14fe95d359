-- What the tree's side of a store owes: only this of the theory of replay is used.
use Rattle.std.specs.Prelude.{◌≡◌, ℕ, ◌+◌, ◌≤◌, List, length}
use Rattle.fs_model.specs.Objects.{Objects}
use Rattle.fs_model.specs.declared.op.Op.{Op}
use Rattle.tree_api.specs.Tree.{Tree}
use Rattle.store_history.specs.History.{History, end_of, replay_of}
use Rattle.store_history.specs.Images.{Images, ImageLaws}
use Rattle.store_turns.specs.declared.numbers.How.{How}
use Rattle.store_turns.specs.declared.numbers.How.TheVariants.{Live, Replay}

-- how a tree reads
abbrev pub Reads : Type 1
Reads = How → History → ℕ → Tree → Type 0

pub record Theory (image : Images Tree) (reads : Reads) (number : Tree → ℕ → Type 0) (laid : Tree → Type 0) : Type 0 where
  pub laws : ImageLaws image
  -- where all up to m is applied, what reads is past m
  pub whole : (h : History) (n lo m : ℕ) (t : Tree) → lo ≤ m → image h n lo m t → reads Live h m t → image h n m m t
  -- a replay begins on any image
  pub begins : (n : ℕ) (before : Objects) (txns : List (List Op)) (t : Tree) → image (replay_of n before txns) n n (n + length txns) t → reads Replay (replay_of n before txns) n t
  -- and ends in what reads live
  pub ends : (h : History) (t : Tree) → reads Replay h (end_of h) t → reads Live h (end_of h) t
  pub number_is : (h : History) (n lo hi : ℕ) (t : Tree) → image h n lo hi t → number t n
  pub one_number : (n m : ℕ) (t : Tree) → number t n → number t m → n ≡ m
  pub laid_is : (h : History) (n lo hi : ℕ) (t : Tree) → image h n lo hi t → laid t
