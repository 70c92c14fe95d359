-- Directories at their depths, in a tree that is sound.
use Rattle.std.proofs.Common.{◌≡◌, ◌≢◌, ℕ, suc, ◌+◌, List, [], ◌∷◌, ◌++◌, length, refl, sym, ◌∙◌, subst, arith, None, append_assoc}
use Rattle.std.proofs.lemmas.List.{length-append, append-nil}
use Rattle.tree_api.specs.Tree.{Path, Tree, IsDir, IsFree}
use Rattle.tree_api.specs.Disk.{Disk, Sound}
use Rattle.lfn_index.specs.Directory.{entry}
use Rattle.op_effects.specs.Clear.{DirBelow, IsShallow}
use Rattle.op_effects.specs.Ready.{trash}
use Rattle.coll_ops.proofs.Clearing.{dir_there}
use Rattle.store_walk.specs.Deep.{IsBounded}
use Rattle.store_walk.specs.Walked.{HoldsFiles}
use Rattle.store_walk.proofs.Looked.{dir_not_free}

-- seen from one level up
pub deeper_in : (t : Tree) (p x : Path) (n : ℕ) (q : Path) → length x ≡ 1 → DirBelow n (p ++ x) t q → DirBelow (n + 1) p t q
deeper_in t p x n q one is = (x ++ is.0, is.1 ∙ append_assoc p x is.0, length-append x is.0 ∙ (omega (arith, one, is.2)), is.3)

module _ (d : Disk) (sound : Sound d) where
  -- what stands above a directory is one
  first_dir : (rest p : Path) (x : List ℕ) → IsDir d.tree (p ++ x ∷ rest) → IsDir d.tree (entry p x)
  first_dir [] p x is = is
  first_dir (y ∷ ys) p x is =
      let next = first_dir ys (p ++ x ∷ []) y (subst (IsDir d.tree) (sym (append_assoc p (x ∷ []) (y ∷ ys))) is) in
      sound.parents d.tree (p ++ x ∷ []) y next.0 sound.now next.1

  above_dir : (n : ℕ) (p q : Path) → DirBelow n p d.tree q → IsDir d.tree p
  above_dir n p q is = by is.0 is.1
    where
      by : (rest : Path) → q ≡ p ++ rest → IsDir d.tree p
      by [] same = subst (IsDir d.tree) (same ∙ append-nil p) is.3
      by (x ∷ rest) same = let top = first_dir rest p x (subst (IsDir d.tree) same is.3) in sound.parents d.tree p x top.0 sound.now top.1

  -- below no directory stands none
  pub free_bounded : (n : ℕ) (p : Path) → IsFree d.tree p → IsBounded n p d.tree
  free_bounded n p free q is = dir_not_free d.tree p (above_dir n p q is) free

  -- from each of a directory's entries
  pub all_bounded : (n : ℕ) (p : Path) → ((step : List ℕ) → d.tree.at (entry p step) ≢ None → IsBounded n (entry p step) d.tree) → IsBounded (n + 1) p d.tree
  all_bounded n p each q is = by is.0 is.1 is.2
    where
      by : (rest : Path) → q ≡ p ++ rest → length rest ≡ n + 1 → ⊥
      by [] same len = let e : 0 ≡ n + 1 = len in absurd (omega (arith, e))
      by (x ∷ rest) same len =
          let e : suc (length rest) ≡ n + 1 = len in
          let top = first_dir rest p x (subst (IsDir d.tree) same is.3) in
          each x (dir_there d.tree (entry p x) top) q (rest, same ∙ sym (append_assoc p (x ∷ []) rest), omega (arith, e), is.3)

  pub bounded_trees : IsBounded 10 trash d.tree → (step : List ℕ) → IsShallow (entry trash step) d.tree
  bounded_trees bounded step q is = bounded q (deeper_in d.tree trash (step ∷ []) 9 q refl is)

  pub trees_bounded : ((step : List ℕ) → IsShallow (entry trash step) d.tree) → IsBounded 10 trash d.tree
  trees_bounded each = all_bounded 9 trash (λ step there. each step)

  pub flat_shallow : (p : Path) → HoldsFiles p d.tree → IsShallow p d.tree
  flat_shallow p files = all_bounded 8 p (λ step there. free_bounded 8 (entry p step) (files step))
