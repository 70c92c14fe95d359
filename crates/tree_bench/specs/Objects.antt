-- The objects.
use Rattle.std.specs.Prelude.{ℕ, [], ◌∷◌, Some, codes}
use Rattle.fs_names.specs.declared.oid.Oid.{Oid}
use Rattle.fs_names.specs.declared.oid.Snap.TheVariants.{Head}
use Rattle.tree_api.specs.Tree.{Path}

-- the directory of all objects
abbrev pub objects : Path
objects = codes "objects" ∷ []

-- the object with this hash
abbrev pub object : ℕ → Oid
object hash = record { name = codes "object"; key = []; nspace = []; snap = Head; hash = hash; pool = Some 1 }
