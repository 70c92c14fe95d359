use Rattle.std.proofs.Common.{◌≡◌, map}
use Rattle.std.specs.Map.Iter.{deref_pair}
use Rattle.fs_model.specs.Plain.{entry_of}
use Rattle.fs_model.proofs.pair_map.PairMap.to_list.Given as goal

abbrev pub invariant-loop-key : goal.invariant-loop-key
invariant-loop-key l = map entry_of l.pairs.items ≡ map deref_pair l.yielded
