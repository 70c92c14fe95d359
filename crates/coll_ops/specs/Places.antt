-- Where collections that were taken away go, and what stands at a path.
use Rattle.std.specs.Prelude.{◌≡◌, ◌++◌, Option, Some, None}
use Rattle.fs_names.specs.declared.settings.Pos.{Pos}
use Rattle.tree_api.specs.Tree.{Path, Tree, IsFile, IsDir}
use Rattle.tree_api.specs.declared.tree.Kind.{Kind}
use Rattle.tree_api.specs.declared.tree.Kind.TheVariants.{File, Dir}
use Rattle.op_effects.specs.Ready.{trash}
use Rattle.lfn_index.specs.Directory.{entry}
use Rattle.lfn_index.specs.Changes.{place_name}

-- where the operation at this position puts a collection
abbrev pub trash_at : Pos → Path
trash_at pos = entry trash (place_name pos)

-- the path itself, or one below it
abbrev pub Within : Path → Path → Type 0
Within p q = (rest : Path) × (q ≡ p ++ rest)

abbrev pub IsThere : Tree → Path → Option Kind → Type 0
IsThere t p None = t.at p ≡ None
IsThere t p (Some File) = IsFile t p
IsThere t p (Some Dir) = IsDir t p
