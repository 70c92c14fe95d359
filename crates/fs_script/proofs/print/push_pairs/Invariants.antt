use Rattle.std.proofs.Common.{◌≡◌, ◌++◌, take}
use Rattle.fs_script.specs.Printed.{pairs_text}
use Rattle.fs_script.proofs.print.push_pairs.Given as goal

abbrev pub invariant-loop-pair : goal.invariant-loop-pair
invariant-loop-pair l = l.text.items ≡ l.initial.text.items ++ pairs_text l.word (take l.pair-index l.pairs)
