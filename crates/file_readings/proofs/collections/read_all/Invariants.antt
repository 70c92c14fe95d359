use Rattle.std.proofs.Common.{◌≡◌, take}
use Rattle.file_readings.specs.Listed.{colls_in}
use Rattle.file_readings.proofs.collections.read_all.Given as goal

abbrev pub invariant-loop-entry : goal.invariant-loop-entry
invariant-loop-entry l = l.colls.items ≡ colls_in (take l.entry-index l.entries)
