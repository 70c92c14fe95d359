-- Where a collection and an object are.
use Rattle.std.specs.Prelude.{◌≡◌, ℕ, Option, None, Some}
use Rattle.fs_names.specs.declared.coll.Coll.{Coll}
use Rattle.fs_names.specs.declared.oid.Oid.{Oid}
use Rattle.fs_model.specs.Objects.{Object, Objects, look}
use Rattle.tree_api.specs.Tree.{Path, Tree, IsDir}
use Rattle.tree_stands.specs.Trees.{dir_of}
use Rattle.tree_shows.specs.Shows.{IsFileOf}

-- the collection's directory, none where the collection is missing
abbrev pub IsDirOf : Tree → Coll → Option Path → Type 0
IsDirOf t c None = t.at (dir_of c) ≡ None
IsDirOf t c (Some p) = (p ≡ dir_of c) × IsDir t p

-- the file of the object stands at this path, none where the object is missing
abbrev pub IsPathOf : Objects → Coll → Oid → Tree → Option Path → Type 0
IsPathOf O c o t None = look O c o ≡ None
IsPathOf O c o t (Some p) = (n : ℕ) × (x : Object) × (t.at p ≡ Some n) × (look O c o ≡ Some x) × IsFileOf (t.node n) x
