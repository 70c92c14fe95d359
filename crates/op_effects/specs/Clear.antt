-- That nothing stands in the way of an operation.
use Rattle.std.specs.Prelude.{◌≡◌, ◌++◌, ℕ, List, length}
use Rattle.fs_names.specs.declared.coll.Coll.{Coll}
use Rattle.fs_names.specs.Reading.{CollFits}
use Rattle.tree_api.specs.Tree.{Path, Tree, IsDir, IsFile, IsFree}
use Rattle.lfn_index.specs.Directory.{entry}
use Rattle.tree_stands.specs.Trees.{dir_of}
use Rattle.op_effects.specs.Ready.{trash}

-- a directory so many levels below a path
abbrev pub DirBelow : ℕ → Path → Tree → Path → Type 0
DirBelow n p t q = (rest : Path) × (q ≡ p ++ rest) × (length rest ≡ n) × IsDir t q

-- none lies more than eight levels below it
abbrev pub IsShallow : Path → Tree → Type 0
IsShallow p t = (q : Path) → DirBelow 9 p t q → ⊥

-- no file stands in a collection's place, no directory stands in a collection, and no collection is too deep, nor a tree in
-- the trash
pub record IsClear (t : Tree) : Type 0 where
  pub free : (c : Coll) → CollFits c → IsFile t (dir_of c) → ⊥
  pub flat : (c : Coll) → CollFits c → (step : List ℕ) → IsFree t (entry (dir_of c) step)
  pub colls : (c : Coll) → CollFits c → IsShallow (dir_of c) t
  pub trees : (step : List ℕ) → IsShallow (entry trash step) t

-- what is free or a file stays so
abbrev pub KeepsFree : Tree → Tree → Type 0
KeepsFree e f = (q : Path) → IsFree e q → IsFree f q

-- and nothing comes in the way
abbrev pub KeepsClear : Tree → Tree → Type 0
KeepsClear e f = IsClear e → IsClear f
