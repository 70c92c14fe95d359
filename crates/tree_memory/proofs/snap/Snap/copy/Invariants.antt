use Rattle.std.proofs.Common.{◌≡◌, map, take}
use Rattle.tree_memory.specs.Kept.{pair}
use Rattle.tree_memory.proofs.snap.Snap.copy.Given as goal

abbrev pub invariant-loop-one : goal.invariant-loop-one
invariant-loop-one l = map pair l.kept.items ≡ map pair (take l.one-index l.self.kept.items)
