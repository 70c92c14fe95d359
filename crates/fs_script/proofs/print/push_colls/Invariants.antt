use Rattle.std.proofs.Common.{◌≡◌, ◌++◌, take}
use Rattle.std.specs.List.{flat_map}
use Rattle.fs_names.specs.Text.{coll_text}
use Rattle.fs_script.specs.Printed.{line_text}
use Rattle.fs_script.proofs.print.push_colls.Given as goal

abbrev pub invariant-loop-c : goal.invariant-loop-c
invariant-loop-c l = l.text.items ≡ l.initial.text.items ++ flat_map (λ c. line_text (coll_text c)) (take l.c-index l.colls)
