use Rattle.std.proofs.Common.{◌≡◌, take}
use Rattle.tree_memory.specs.Names.{names_at, edited}
use Rattle.tree_memory.proofs.names.NameMap.edit_all.Given as goal

abbrev pub invariant-loop-edit : goal.invariant-loop-edit
invariant-loop-edit l = names_at l.next ≡ edited (take l.edit-index l.edits) (names_at l.self)
