use Rattle.std.proofs.Common.{◌≡◌, take}
use Rattle.tree_memory.specs.Nodes.{node_of}
use Rattle.tree_memory.proofs.Listings.{listed}
use Rattle.tree_memory.proofs.store.Store.list.Given as goal

abbrev pub invariant-loop-name : goal.invariant-loop-name
invariant-loop-name l = l.entries.items ≡ listed (node_of l.self.nodes.items) (take l.name-index l.name-items)
