use Rattle.std.proofs.Common.{◌≡◌, map, take}
use Rattle.tree_memory.specs.Nodes.{node_of}
use Rattle.tree_memory.specs.Kept.{pair}
use Rattle.tree_memory.proofs.store.Store.current.Given as goal

abbrev pub invariant-loop-name : goal.invariant-loop-name
invariant-loop-name l = map pair l.kept.items ≡ map (λ x. (x.rest, node_of l.self.nodes.items x.node)) (take l.name-index l.name-items)
