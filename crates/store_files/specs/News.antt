-- A tree where a store may be made, and what making one answers.
use Rattle.std.specs.Prelude.{◌≡◌, ℕ, None, Result, Ok, Err}
use Rattle.tree_api.specs.Tree.{Tree}
use Rattle.store_files.specs.Steps.{IsBare}
use Rattle.store_files.specs.declared.fault.MakeFault.{MakeFault}
use Rattle.store_files.specs.declared.fault.MakeFault.TheVariants.{NotEmpty, Tree as TreeFailed, Memory}

-- nothing stands but the root, and no snapshot is kept
abbrev pub IsNew : Tree → Type 0
IsNew t = IsBare t × ((k : ℕ) → t.snap k ≡ None)

-- a store is made in a new tree alone, and no new tree is refused as one that isn't empty
abbrev pub Fits : {T : Type 0} → Tree → Result T MakeFault → Type 0
Fits t (Ok x) = IsNew t
Fits t (Err NotEmpty) = IsNew t → ⊥
Fits t (Err TreeFailed) = Unit {0}
Fits t (Err Memory) = Unit {0}
