use Rattle.std.proofs.Common.{◌≡◌, ◌++◌, take}
use Rattle.tree_memory.specs.Names.{links}
use Rattle.tree_memory.proofs.store.add_links.Given as goal

abbrev pub invariant-loop-name : goal.invariant-loop-name
invariant-loop-name l = l.edits.items ≡ l.fn.edits.items ++ links l.dir (take l.name-index l.names)
