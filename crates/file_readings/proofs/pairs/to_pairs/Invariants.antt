use Rattle.std.proofs.Common.{◌≡◌, map as map_list, take}
use Rattle.file_readings.specs.Pairs.{pair_of}
use Rattle.file_readings.proofs.pairs.to_pairs.Given as goal

abbrev pub invariant-loop-attr : goal.invariant-loop-attr
invariant-loop-attr l = l.pairs.items ≡ map_list pair_of (take l.attr-index l.attrs)
