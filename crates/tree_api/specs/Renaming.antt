-- Changes of names, whole maps at a time, that keep which node is which.
use Rattle.std.specs.Prelude.{◌≡◌, ◌⊎◌, ℕ, Some}
use Rattle.tree_api.specs.Tree.{Path, Tree, Gone}

-- the names are the same, and so is each node that has one
pub record SameNamed (old new : Tree) : Type 0 where
  pub at : new.at ≡ old.at
  pub nodes : (q : Path) (m : ℕ) → old.at q ≡ Some m → new.node m ≡ old.node m

-- Names and named nodes are as they were, or all names together are such; and the nodes that aren't its own stay.
pub record Renamed (Such : Tree → Type 0) (Own : ℕ → Type 0) (old new : Tree) : Type 0 where
  pub snaps : new.snap ≡ old.snap
  pub others : (m : ℕ) → (Own m → ⊥) → new.node m ≡ old.node m
  pub names : SameNamed old new ⊎ Such new

abbrev pub NoNode : ℕ → Type 0
NoNode m = ⊥

-- a path's name goes, of those that read in t
abbrev pub Without : Path → Tree → Tree → Type 0
Without p t c = Gone p t.at c.at

abbrev pub Removes : Path → Tree → Tree → Tree → Type 0
Removes p t = Renamed (Without p t) NoNode
