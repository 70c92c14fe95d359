use Rattle.std.proofs.Common.{◌≡◌, map, take}
use Rattle.tree_memory.specs.Nodes.{version}
use Rattle.tree_memory.proofs.snap.Snap.nodes.Given as goal

abbrev pub invariant-loop-one : goal.invariant-loop-one
invariant-loop-one l = map version l.nodes.items ≡ map (λ k. version k.node) (take l.one-index l.self.kept.items)
