-- The tree of a store that was just made: its directories and its committed number.
use Rattle.std.specs.Prelude.{ℕ, ◌==◌, cond, List, [], ◌∷◌, codes, Option, Some, None}
use Rattle.std.specs.Str.{bytes_eq}
use Rattle.tree_api.specs.Tree.{Path, Tree, new_dir}
use Rattle.commit_point.specs.Number.{number_file}

abbrev pub made_in : List ℕ → Option ℕ
made_in step =
    cond (bytes_eq step (codes "aside")) (Some 2) (cond (bytes_eq step (codes "trash")) (Some 3) (cond (bytes_eq step (codes "commit_op_seq")) (Some 4) None))

abbrev pub made_at : Path → Option ℕ
made_at [] = Some 0
made_at (a ∷ []) = cond (bytes_eq a (codes "current")) (Some 1) None
made_at (a ∷ b ∷ []) = cond (bytes_eq a (codes "current")) (made_in b) None
made_at (a ∷ b ∷ c ∷ rest) = None

abbrev pub made_tree : ℕ → Tree
made_tree n = record { at = made_at; node = λ m. cond (m == 4) (number_file n) new_dir; snap = λ k. None }
