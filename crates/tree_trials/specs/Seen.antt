-- What tests see of a tree.
use Rattle.std.specs.Prelude.{◌≡◌, Option, Some, None}
use Rattle.tree_api.specs.Tree.{Path, Tree, IsFile, IsDir, HasParent}
use Rattle.tree_api.specs.declared.tree.Kind.{Kind}
use Rattle.tree_api.specs.declared.tree.Kind.TheVariants.{File, Dir}

abbrev pub IsSeen : Tree → Path → Option Kind → Type 0
IsSeen t p None = t.at p ≡ None
IsSeen t p (Some File) = IsFile t p
IsSeen t p (Some Dir) = IsDir t p

-- a free path in a directory
abbrev pub IsRoom : Tree → Path → Type 0
IsRoom t p = (t.at p ≡ None) × HasParent t p
