use Rattle.std.proofs.Common.{◌≡◌, ◌≤◌, ◌-◌, length, drop}
use Rattle.tree_memory.specs.Paths.{path_cmp}
use Rattle.tree_memory.proofs.place.compare.Given as goal

abbrev pub invariant-loop-i : goal.invariant-loop-i
invariant-loop-i l = record { same : path_cmp l.a l.b ≡ path_cmp (drop l.i l.a) (drop l.i l.b); a_low : l.i ≤ length l.a; b_low : l.i ≤ length l.b }

abbrev pub decreases-loop-i : goal.decreases-loop-i
decreases-loop-i l = length l.initial.a - l.i
