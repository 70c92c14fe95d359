-- Where the committed number stands, and how it is spelled.
use Rattle.std.specs.Prelude.{◌≡◌, ◌<◌, ℕ, ◌^◌, ◌++◌, ◌∷◌, [], List, codes, false, Some}
use Rattle.std.specs.Int.{to_be_bytes, w64}
use Rattle.hex.specs.Hex.{encode_lower}
use Rattle.tree_api.specs.Tree.{Path, Version, Tree, IsDir, IsFree, current, file_of, look}
use Rattle.commit_point.specs.Replacing.{Replaces}

abbrev pub number_path : Path
number_path = current ++ codes "commit_op_seq" ∷ []

-- where files are built, and this one
abbrev pub aside : Path
aside = current ++ codes "aside" ∷ []

abbrev pub building : Path
building = aside ++ codes "seq" ∷ []

-- 16 lower-case hexadecimal digits and a newline
abbrev pub spelled : ℕ → List ℕ
spelled n = encode_lower (to_be_bytes w64 n) ++ 10 ∷ []

abbrev pub number_file : ℕ → Version
number_file n = file_of (spelled n)

-- the number of this tree
pub record HasNumber (t : Tree) (n : ℕ) : Type 0 where
  pub file : Version
  pub stands : look t number_path ≡ Some file
  pub kind : file.dir ≡ false
  pub bytes : file.bytes ≡ spelled n
  pub small : n < 2 ^ 63

-- a number may be written: no directory is in the way
pub record IsReady (t : Tree) : Type 0 where
  pub dir : IsDir t aside
  pub place : IsFree t building
  pub target : IsFree t number_path

-- The number's file is as it was or has this number, the place where it is built is free or has a file, and all else stays.
abbrev pub Renumbers : ℕ → Tree → Tree → Type 0
Renumbers n = Replaces building number_path (number_file n)
