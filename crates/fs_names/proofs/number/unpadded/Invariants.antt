use Rattle.std.proofs.Common.{◌<◌, ◌^◌}
use Rattle.fs_names.specs.Numbers.{is_lower_digit}
use Rattle.fs_names.proofs.Digits.{ReadTo}
use Rattle.fs_names.proofs.number.unpadded.Given as goal

abbrev pub invariant-loop-byte : goal.invariant-loop-byte
invariant-loop-byte l = record { small : l.number < 2 ^ 64; read : ReadTo l.base (is_lower_digit l.base) l.text l.byte-index l.number }
