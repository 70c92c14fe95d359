use Rattle.std.proofs.Common.{◌≡◌, ◌+◌, take}
use Rattle.tree_memory.specs.Names.{numbered}
use Rattle.tree_memory.specs.Kept.{rests_of}
use Rattle.tree_memory.proofs.store.number.Given as goal

abbrev pub invariant-loop-one : goal.invariant-loop-one
invariant-loop-one l = record { place : l.node ≡ l.fn.first + l.one-index; numbers : l.names.items ≡ numbered l.fn.first (rests_of (take l.one-index l.kept)) }
