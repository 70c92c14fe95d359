-- The order of paths, and the steps that come after a directory's.
use Rattle.std.specs.Prelude.{ℕ, List, [], ◌∷◌, Bool, if◌then◌else◌, Option, Some, None}
use Rattle.std.specs.declared.cmp.Ordering.{Ordering}
use Rattle.std.specs.Ordering.{nat_cmp, is_eq}
use Rattle.std.specs.Cmp.{IsTotalOrder}
use Rattle.std.specs.Cmp.Lexicographic.{slice_cmp, lists_total, nat_list_cmp_total}
use Rattle.tree_api.specs.Tree.{Path}

abbrev pub path_cmp : Path → Path → Ordering
path_cmp = slice_cmp (slice_cmp nat_cmp)

pub path_cmp_total : IsTotalOrder path_cmp
path_cmp_total = lists_total nat_list_cmp_total

abbrev pub same_step : List ℕ → List ℕ → Bool
same_step s t = is_eq (slice_cmp nat_cmp s t)

abbrev pub same_path : Path → Path → Bool
same_path p q = is_eq (path_cmp p q)

-- the steps of q after those of p, none where q doesn't begin with them
abbrev pub strip : Path → Path → Option Path
strip [] q = Some q
strip (s ∷ p) [] = None
strip (s ∷ p) (t ∷ q) = if same_step s t then strip p q else None
