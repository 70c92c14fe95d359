-- A file that is replaced whole, by way of one that is built elsewhere.
use Rattle.std.specs.Prelude.{◌≡◌, ◌≢◌, ◌⊎◌, ℕ, Some, None}
use Rattle.tree_api.specs.Tree.{Path, Version, Tree, IsFree, look}
use Rattle.tree_api.specs.Disk.{Disk}

-- What stands at `to` is as it was or this, and what stands at p stays free or a file. All other names and their nodes stay.
pub record Replaces (p to : Path) (v : Version) (old new : Tree) : Type 0 where
  pub snaps : new.snap ≡ old.snap
  pub others : (q : Path) → q ≢ p → q ≢ to → new.at q ≡ old.at q
  pub nodes : (q : Path) (m : ℕ) → q ≢ p → q ≢ to → old.at q ≡ Some m → new.node m ≡ old.node m
  pub target : (look new to ≡ look old to) ⊎ (look new to ≡ Some v)
  pub place : IsFree old p → IsFree new p

-- p is free now, and all else is as it was
pub record Cleared (p : Path) (old new : Tree) : Type 0 where
  pub free : new.at p ≡ None
  pub others : (q : Path) → q ≢ p → new.at q ≡ old.at q
  pub nodes : new.node ≡ old.node
  pub snaps : new.snap ≡ old.snap

-- at p stands a new node with this, in each image as it reads, and other names are as they were
pub record Filled (p : Path) (v : Version) (old new : Disk) : Type 0 where
  pub n : ℕ
  pub here : new.tree.at p ≡ Some n
  pub others : (q : Path) → q ≢ p → new.tree.at q ≡ old.tree.at q
  pub nodes : (q : Path) (m : ℕ) → q ≢ p → old.tree.at q ≡ Some m → new.tree.node m ≡ old.tree.node m
  pub holds : new.tree.node n ≡ v
  pub names : (c : Tree) → new.may c → c.at ≡ new.tree.at
  pub stable : (c : Tree) → new.may c → c.node n ≡ v
