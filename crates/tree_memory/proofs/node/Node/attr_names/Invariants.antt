use Rattle.std.proofs.Common.{◌≡◌, map}
use Rattle.std.specs.Map.Iter.{deref}
use Rattle.tree_api.specs.Answer.{names_of}
use Rattle.tree_memory.proofs.node.Node.attr_names.Given as goal

abbrev pub invariant-loop-name : goal.invariant-loop-name
invariant-loop-name l = names_of l.names.items ≡ map deref l.yielded
