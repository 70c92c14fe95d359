-- Directories at their depths.
use Rattle.std.proofs.Common.{◌≡◌, ⊎_elim, ℕ, ◌+◌, ◌++◌, [], ◌∷◌, length, refl, sym, ◌∙◌, ap, subst, arith, Some, None, append_assoc}
use Rattle.std.proofs.lemmas.List.{length-append, append-nil}
use Rattle.tree_api.specs.Tree.{Path, Version, Tree, IsDir}
use Rattle.tree_api.specs.Disk.{Disk}
use Rattle.coll_ops.specs.Changes.{Sweeps}
use Rattle.coll_ops.specs.Trash.{IsFirst, FirstTooDeep}
use Rattle.op_effects.specs.Clear.{DirBelow}
use Rattle.coll_ops.proofs.Clearing.{swept_now}

-- a directory that stands after names went stood before
dir_back : (p : Path) (d0 d : Disk) → Sweeps p d0 d → (q : Path) → IsDir d.tree q → IsDir d0.tree q
dir_back p d0 d sweeps q is = (
  is.0,
  ⊎_elim (λ same. sym same ∙ is.1) (λ none. absurd (no (sym none.0 ∙ is.1))) (swept_now p d0 d sweeps q),
  ap (λ (v : Version). v.dir) (sym (sweeps.now.others is.0 (λ none. none))) ∙ is.2,
)
  where
    no : None ≡ Some is.0 → ⊥
    no e = cc

-- seen from one level up
pub deeper : (d0 d : Disk) (p x : Path) (n : ℕ) (q : Path) → length x ≡ 1 → Sweeps p d0 d → DirBelow n (p ++ x) d.tree q → DirBelow (n + 1) p d0.tree q
deeper d0 d p x n q one sweeps is = (
  x ++ is.0,
  is.1 ∙ append_assoc p x is.0,
  length-append x is.0 ∙ (omega (arith, one, is.2)),
  dir_back p d0 d sweeps q is.3,
)

pub below_itself : (t : Tree) (p q : Path) (n : ℕ) → n ≡ 0 → q ≡ p → IsDir t q → DirBelow n p t q
below_itself t p q n zero same is = ([], same ∙ sym (append-nil p), sym zero, is)

pub below_along : (t : Tree) (p r q : Path) (m n : ℕ) → p ≡ r → m ≡ n → DirBelow m p t q → DirBelow n r t q
below_along t p r q m n same count is = (is.0, is.1 ∙ ap (λ (x : Path). x ++ is.0) same, is.2 ∙ count, is.3)

pub first_deep : (dir p : Path) (t u : Tree) (q : Path) → IsFirst t dir (Some p) → u ≡ t → DirBelow 9 p u q → FirstTooDeep dir t q
first_deep dir p t u q first same is = (first.0, first.2, subst (λ (x : Tree). DirBelow 9 (dir ++ first.0 ∷ []) x q) same (below_along u p (dir ++ first.0 ∷ []) q 9 9 first.1 refl is))
