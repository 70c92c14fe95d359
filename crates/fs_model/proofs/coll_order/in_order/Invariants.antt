use Rattle.std.proofs.Common.{◌≡◌, ◌++◌}
use Rattle.std.specs.BTreeSet.{btree_set_len}
use Rattle.fs_model.proofs.coll_order.in_order.Given as goal

abbrev pub invariant-loop-placed : goal.invariant-loop-placed
invariant-loop-placed l = l.fn.set.keys ≡ l.names.items ++ l.left.keys

abbrev pub decreases-loop-placed : goal.decreases-loop-placed
decreases-loop-placed l = btree_set_len l.left
