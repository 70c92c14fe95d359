use Rattle.std.proofs.Common.{◌≡◌, ◌++◌, map, take, length}
use Rattle.tree_memory.specs.Nodes.{version}
use Rattle.tree_memory.proofs.store.add_copies.Given as goal

abbrev pub invariant-loop-node : goal.invariant-loop-node
invariant-loop-node l = record { copied : map version l.into.items ≡ map version l.fn.into.items ++ map version (take l.node-index l.nodes); kept : take (length l.fn.into.items) l.into.items ≡ l.fn.into.items }
