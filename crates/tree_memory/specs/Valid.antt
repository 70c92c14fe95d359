-- What holds of each tree that calls have made.
use Rattle.std.specs.Prelude.{◌≡◌, ℕ, ◌<◌, ◌^◌, List, [], ◌∷◌, ◌++◌, length, Bool, true, false, Option, Some, None}
use Rattle.tree_api.specs.Tree.{Path, Version, Names, Content}
use Rattle.tree_memory.specs.History.{History, Among}

abbrev pub dir_at : (ℕ → Bool) → Option ℕ → Bool
dir_at dir None = false
dir_at dir (Some n) = dir n

abbrev pub kept_dir : Option Version → Bool
kept_dir None = false
kept_dir (Some v) = v.dir

-- a name map over k nodes, of which some are directories
pub record IsGood (k : ℕ) (dir : ℕ → Bool) (at : Names) : Type 0 where
  pub root : at [] ≡ Some 0
  pub top : dir 0 ≡ true
  pub parents : (p : Path) (step : List ℕ) (n : ℕ) → at (p ++ step ∷ []) ≡ Some n → dir_at dir (at p) ≡ true
  pub single : (p q : Path) (n : ℕ) → at p ≡ Some n → at q ≡ Some n → p ≡ q
  pub low : (p : Path) (n : ℕ) → at p ≡ Some n → n < k

-- what a snapshot keeps
pub record IsWhole (c : Content) : Type 0 where
  pub parents : (p : Path) (step : List ℕ) (v : Version) → c (p ++ step ∷ []) ≡ Some v → kept_dir (c p) ≡ true
  pub short : (p : Path) (v : Version) → c p ≡ Some v → length v.bytes < 2 ^ 63

pub record IsValid (k : ℕ) (h : History) : Type 0 where
  pub maps : (at : Names) → Among (h.tree.at ∷ h.names) at → IsGood k (λ n. (h.tree.node n).dir) at
  pub kinds : (n : ℕ) (v : Version) → Among (h.tree.node n ∷ h.older n) v → v.dir ≡ (h.tree.node n).dir
  pub short : (n : ℕ) (v : Version) → Among (h.tree.node n ∷ h.older n) v → length v.bytes < 2 ^ 63
  pub whole : (seq : ℕ) (c : Content) → h.tree.snap seq ≡ Some c → IsWhole c
