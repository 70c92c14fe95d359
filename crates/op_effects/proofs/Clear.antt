-- How nothing comes in the way of an operation.
use Rattle.std.proofs.Common.{◌≡◌, inl, inr, ℕ, Bool, true, false, refl, sym, ◌∙◌, Option, Some, None}
use Rattle.fs_names.specs.declared.coll.Coll.{Coll}
use Rattle.fs_names.specs.Reading.{CollFits}
use Rattle.tree_api.specs.Tree.{Path, Tree, IsDir, IsFile, IsFree}
use Rattle.lfn_index.specs.Directory.{entry}
use Rattle.tree_stands.specs.Trees.{dir_of}
use Rattle.op_effects.specs.Clear.{DirBelow, IsClear, KeepsFree, KeepsClear}
use Rattle.op_effects.specs.Ready.{trash}

-- a file in a collection's place stood there in e
abbrev pub FilesFrom : Tree → Tree → Type 0
FilesFrom e f = (c : Coll) → CollFits c → IsFile f (dir_of c) → IsFile e (dir_of c)

-- each directory stood there in e
abbrev pub DirsFrom : Tree → Tree → Type 0
DirsFrom e f = (q : Path) → IsDir f q → IsDir e q

pub never_both : (t : Tree) (q : Path) → IsFree t q → IsDir t q → ⊥
never_both t q free dir = by free
  where
    nowhere : None ≡ Some dir.0 → ⊥
    nowhere e = cc

    kinds : (n m : ℕ) → Some n ≡ Some m → (t.node n).dir ≡ false → (t.node m).dir ≡ true → ⊥
    kinds n m same off on = cc

    by : IsFree t q → ⊥
    by (inl none) = nowhere (sym none ∙ dir.1)
    by (inr file) = kinds file.0 dir.0 (sym file.1 ∙ dir.1) file.2 dir.2

-- where what is free or a file stays so, no directory comes
pub dir_from : (e f : Tree) (q : Path) → (IsFree e q → IsFree f q) → IsDir f q → IsDir e q
dir_from e f q keeps dir = by (e.at q) refl
  where
    kind : (n : ℕ) → e.at q ≡ Some n → (b : Bool) → (e.node n).dir ≡ b → IsDir e q
    kind n here true is = (n, here, is)
    kind n here false is = absurd (never_both f q (keeps (inr (n, here, is))) dir)

    by : (o : Option ℕ) → e.at q ≡ o → IsDir e q
    by None here = absurd (never_both f q (keeps (inl here)) dir)
    by (Some n) here = kind n here (e.node n).dir refl

-- and the other way round
pub free_by : (e f : Tree) (q : Path) → (IsDir f q → IsDir e q) → IsFree e q → IsFree f q
free_by e f q dirs free = by (f.at q) refl
  where
    kind : (n : ℕ) → f.at q ≡ Some n → (b : Bool) → (f.node n).dir ≡ b → IsFree f q
    kind n here true is = absurd (never_both e q free (dirs (n, here, is)))
    kind n here false is = inr (n, here, is)

    by : (o : Option ℕ) → f.at q ≡ o → IsFree f q
    by None here = inl here
    by (Some n) here = kind n here (f.node n).dir refl

pub dirs_from : (e f : Tree) → KeepsFree e f → DirsFrom e f
dirs_from e f keeps q dir = dir_from e f q (keeps q) dir

below_from : (g f : Tree) → DirsFrom g f → (n : ℕ) (p q : Path) → DirBelow n p f q → DirBelow n p g q
below_from g f dirs n p q is = (is.0, is.1, is.2, dirs q is.3)

-- files come from one clear tree, directories from another
pub clear_from : (e g f : Tree) → FilesFrom e f → DirsFrom g f → IsClear e → IsClear g → IsClear f
clear_from e g f files dirs one two = record {
  free = λ c fits file. one.free c fits (files c fits file);
  flat = λ c fits step. free_by g f (entry (dir_of c) step) (dirs (entry (dir_of c) step)) (two.flat c fits step);
  colls = λ c fits q is. two.colls c fits q (below_from g f dirs 9 (dir_of c) q is);
  trees = λ step q is. two.trees step q (below_from g f dirs 9 (entry trash step) q is);
}

-- or both from the same
pub clear_by : (e f : Tree) → FilesFrom e f → DirsFrom e f → KeepsClear e f
clear_by e f files dirs was = clear_from e e f files dirs was was
