use Rattle.std.proofs.Common.{◌≡◌, take}
use Rattle.fs_model.specs.Rows.{take_keys}
use Rattle.fs_model.proofs.pair_map.PairMap.remove_all.Given as goal

abbrev pub invariant-loop-name : goal.invariant-loop-name
invariant-loop-name l = l.self ≡ take_keys l.fn.self (take l.name-index l.names)
