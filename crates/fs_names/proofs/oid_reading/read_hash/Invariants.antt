use Rattle.std.proofs.Common.{◌<◌, ◌^◌}
use Rattle.fs_names.specs.Numbers.{is_upper_digit}
use Rattle.fs_names.proofs.Digits.{ReadTo}
use Rattle.fs_names.proofs.oid_reading.read_hash.Given as goal

abbrev pub invariant-loop-byte : goal.invariant-loop-byte
invariant-loop-byte l = record { small : l.hash < 16 ^ l.byte-index; read : ReadTo 16 is_upper_digit l.text l.byte-index l.hash }
