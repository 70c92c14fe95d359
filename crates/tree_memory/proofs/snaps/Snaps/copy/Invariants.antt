use Rattle.std.proofs.Common.{◌≡◌, ℕ, map}
use Rattle.std.specs.Map.{update_all}
use Rattle.std.specs.Map.Iter.{deref_pair}
use Rattle.std.specs.Ordering.{nat_cmp, eq_by_cmp}
use Rattle.tree_memory.proofs.Copies.{contents, at_none, get_content}
use Rattle.tree_memory.proofs.snaps.Snaps.copy.Given as goal

abbrev pub invariant-loop-seq : goal.invariant-loop-seq
invariant-loop-seq l = (q : ℕ) → get_content l.map q ≡ update_all (eq_by_cmp nat_cmp) at_none (contents (map deref_pair l.yielded)) q
