use Rattle.std.proofs.Common.{◌≡◌, ◌++◌, length, take}
use Rattle.std.specs.List.{flat_map, AllByRecursion}
use Rattle.byteorder.specs.Endian.{big_bytes}
use Rattle.txn_codec.specs.Spelling.{op, OpFits}
use Rattle.txn_codec.proofs.writing.encode_txn.Given as goal

abbrev pub invariant-loop-operation : goal.invariant-loop-operation
invariant-loop-operation l = record {
  spelled : l.out.items ≡ big_bytes 4 (length l.ops) ++ flat_map op (take l.operation-index l.ops);
  fits : AllByRecursion OpFits (take l.operation-index l.ops);
}
