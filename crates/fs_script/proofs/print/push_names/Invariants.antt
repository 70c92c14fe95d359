use Rattle.std.proofs.Common.{◌≡◌, ◌++◌, take}
use Rattle.std.specs.List.{flat_map}
use Rattle.fs_names.specs.Text.{oid_text}
use Rattle.fs_script.specs.Printed.{line_text}
use Rattle.fs_script.proofs.print.push_names.Given as goal

abbrev pub invariant-loop-oid : goal.invariant-loop-oid
invariant-loop-oid l = l.text.items ≡ l.initial.text.items ++ flat_map (λ oid. line_text (oid_text oid)) (take l.oid-index l.oids)
