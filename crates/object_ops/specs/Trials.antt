-- What tests see of a store.
use Rattle.std.specs.Prelude.{◌≡◌, ◌⊎◌, ℕ, List, codes, slice_get, Some, None}
use Rattle.tree_api.specs.declared.tree.Entry.{Entry}
use Rattle.tree_api.specs.Tree.{Path, Tree}
use Rattle.lfn_index.specs.Directory.{entry}

-- its step is `aside` or this text
abbrev pub IsKnown : List ℕ → Entry → Type 0
IsKnown text e = (step : List ℕ) → slice_get e.step 0 ≡ Some step → (step ≡ codes "aside") ⊎ (step ≡ text)

-- no other entry stands in the directory
abbrev pub HasOnly : Tree → Path → List ℕ → Type 0
HasOnly t dir text = (step : List ℕ) (n : ℕ) → t.at (entry dir step) ≡ Some n → (step ≡ codes "aside") ⊎ (step ≡ text)

-- none does
abbrev pub IsBare : Tree → Path → Type 0
IsBare t dir = (step : List ℕ) → t.at (entry dir step) ≡ None
