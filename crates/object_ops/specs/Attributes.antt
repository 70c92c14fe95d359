-- What the steps of setting and dropping an object's attributes tell each other.
use Rattle.std.specs.Prelude.{◌≡◌, ℕ, List, Contains, Some, None}
use Rattle.std.specs.List.{fold}
use Rattle.fs_model.specs.declared.pair.Pair.{Pair}
use Rattle.tree_api.specs.declared.path.AttrName.{AttrName}
use Rattle.tree_api.specs.Tree.{Path, Version, Tree}
use Rattle.tree_api.specs.Passing.{Within}
use Rattle.object_file.specs.Attrs.{IsOurs}
use Rattle.object_file.specs.Inner.{Settles}
use Rattle.tree_stands.specs.Files.{set_pair}

-- the file at p is on its way from a to b, which setting these pairs in their order would make of it
pub record Setting (p : Path) (n : ℕ) (a b : Version) (rest : List Pair) (t : Tree) : Type 0 where
  pub here : t.at p ≡ Some n
  pub within : Within a b (t.node n)
  pub comes : fold set_pair (t.node n) rest ≡ b

-- the file at p is on its way from a to b, which has no attribute of the object
pub record Dropping (p : Path) (n : ℕ) (a b : Version) (t : Tree) : Type 0 where
  pub here : t.at p ≡ Some n
  pub within : Within a b (t.node n)
  pub none : (k : List ℕ) → IsOurs k → b.attr k ≡ None

-- this attribute is as in b, where it is the object's, and what was so stays so
abbrev pub Drops : Version → List ℕ → Version → Version → Type 0
Drops b name v w = Settles b v w × (IsOurs name → w.attr name ≡ b.attr name)

-- and each of these
abbrev pub DropsAll : Version → List AttrName → Version → Version → Type 0
DropsAll b names v w = Settles b v w × ((name : AttrName) → Contains names name → IsOurs name.bytes → w.attr name.bytes ≡ b.attr name.bytes)
