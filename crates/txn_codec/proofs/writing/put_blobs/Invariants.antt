use Rattle.std.proofs.Common.{◌≡◌, ◌++◌, length, take}
use Rattle.std.specs.List.{flat_map}
use Rattle.byteorder.specs.Endian.{big_bytes}
use Rattle.txn_codec.specs.Spelling.{blob}
use Rattle.txn_codec.proofs.writing.put_blobs.Given as goal

abbrev pub invariant-loop-bytes : goal.invariant-loop-bytes
invariant-loop-bytes l = l.out.items ≡ l.fn.out.items ++ (big_bytes 4 (length l.blobs) ++ flat_map blob (take l.bytes-index l.blobs))
