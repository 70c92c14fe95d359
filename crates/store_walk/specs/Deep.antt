-- How deep directories lie.
use Rattle.std.specs.Prelude.{◌≡◌, ◌++◌, ℕ, length}
use Rattle.tree_api.specs.Tree.{Path, Tree, IsFile}
use Rattle.tree_api.specs.declared.tree.Entry.{Entry}
use Rattle.op_effects.specs.Clear.{DirBelow}

-- none lies so many levels below the path
abbrev pub IsBounded : ℕ → Path → Tree → Type 0
IsBounded n p t = (q : Path) → DirBelow n p t q → ⊥

-- the entry is one step, and a file stands there
abbrev pub IsFileEntry : Path → Tree → Entry → Type 0
IsFileEntry dir t e = (length e.step ≡ 1) × IsFile t (dir ++ e.step)
