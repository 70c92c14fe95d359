use Rattle.std.proofs.Common.{◌≡◌, ◌++◌, string_bytes}
use Rattle.tree_real.specs.Places.{pieces}
use Rattle.tree_real.proofs.layout.Layout.push_name.Given as goal

abbrev pub invariant-loop-k : goal.invariant-loop-k
invariant-loop-k l = record {
  file : string_bytes l.file ≡ string_bytes l.fn.file ++ pieces l.k l.name;
}
