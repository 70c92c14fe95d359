use Rattle.std.proofs.Common.{◌≡◌, ◌++◌, take}
use Rattle.tree_memory.specs.Names.{unlinks}
use Rattle.tree_memory.proofs.store.add_unlinks.Given as goal

abbrev pub invariant-loop-name : goal.invariant-loop-name
invariant-loop-name l = l.edits.items ≡ l.fn.edits.items ++ unlinks l.dir (take l.name-index l.names)
