-- Trees in the trash, and how many there are.
use Rattle.std.specs.Prelude.{◌≡◌, ◌≢◌, ◌⊎◌, ◌↔◌, ◌<◌, ◌+◌, ◌-◌, ℕ, Bool, true, false, List, [], ◌∷◌, length, Contains, Option, Some, None}
use Rattle.tree_api.specs.Answer.{Before}
use Rattle.tree_api.specs.Tree.{Path, Tree, IsFile}
use Rattle.lfn_index.specs.Directory.{entry}
use Rattle.op_effects.specs.Ready.{trash}
use Rattle.op_effects.specs.Clear.{DirBelow}
use Rattle.coll_ops.specs.Places.{Within}

-- none is there twice
abbrev pub AreApart : List (List ℕ) → Type 0
AreApart [] = Unit {0}
AreApart (x ∷ xs) = (Contains xs x → ⊥) × AreApart xs

-- so many names stand in the trash
pub record HasTrees (t : Tree) (n : ℕ) : Type 0 where
  pub steps : List (List ℕ)
  pub apart : AreApart steps
  pub each : (s : List ℕ) → Contains steps s ↔ (t.at (entry trash s) ≢ None)
  pub count : length steps ≡ n

-- whether there is one more, or as many
abbrev pub TreesAfter : ℕ → Tree → Bool → Type 0
TreesAfter n u true = HasTrees u (n + 1)
TreesAfter n u false = HasTrees u n

-- whether there is one less, or there was none
abbrev pub TreesLeft : ℕ → Tree → Bool → Type 0
TreesLeft n u true = (0 < n) × HasTrees u (n - 1)
TreesLeft n u false = (n ≡ 0) × HasTrees u 0

-- whether something comes to a free place, or stands there as before
abbrev pub PlaceAfter : Option ℕ → Option ℕ → Bool → Type 0
PlaceAfter was now true = (was ≡ None) × (now ≢ None)
PlaceAfter was now false = (was ≡ None) ↔ (now ≡ None)

-- something stands at this step of a directory, and nothing at an earlier one
pub record IsFirstStep (t : Tree) (dir : Path) (s : List ℕ) : Type 0 where
  pub there : t.at (entry dir s) ≢ None
  pub first : (x : List ℕ) → t.at (entry dir x) ≢ None → (x ≡ s) ⊎ Before s x

-- the first that stands in a directory, or nothing does
abbrev pub IsFirst : Tree → Path → Option Path → Type 0
IsFirst t dir None = (s : List ℕ) → t.at (entry dir s) ≡ None
IsFirst t dir (Some p) = (s : List ℕ) × (p ≡ entry dir s) × IsFirstStep t dir s

-- what stands first in a directory went with all below it, and all other names stay
pub record FirstGone (dir : Path) (t u : Tree) : Type 0 where
  pub step : List ℕ
  pub first : IsFirstStep t dir step
  pub gone : u.at (entry dir step) ≡ None
  pub others : (q : Path) → (Within (entry dir step) q → ⊥) → u.at q ≡ t.at q

-- whether it did, or nothing stood there
abbrev pub FirstGoes : Path → Tree → Tree → Bool → Type 0
FirstGoes dir t u true = FirstGone dir t u
FirstGoes dir t u false = ((s : List ℕ) → t.at (entry dir s) ≡ None) × (u.at ≡ t.at)

-- below what stands first in a directory
abbrev pub FirstTooDeep : Path → Tree → Path → Type 0
FirstTooDeep dir t q = (s : List ℕ) × IsFirstStep t dir s × DirBelow 9 (entry dir s) t q

-- a file in place of a directory that is to go, or a tree where it is to go that is too deep
abbrev pub IsInTheWay : Path → Path → Tree → Path → Type 0
IsInTheWay from to t q = ((q ≡ from) × IsFile t q) ⊎ DirBelow 9 to t q
