use Rattle.std.proofs.Common.{length}
use Rattle.std.specs.Prelude.{vec_len, vec_capacity}
use Rattle.fs_script.proofs.Digits.{Decoded}
use Rattle.fs_script.proofs.field.decode.Given as goal

abbrev pub invariant-loop-rest : goal.invariant-loop-rest
invariant-loop-rest l = Decoded l.fn.digits l.bytes.items (vec_len l.bytes) (vec_capacity l.bytes) l.rest

abbrev pub decreases-loop-rest : goal.decreases-loop-rest
decreases-loop-rest l = length l.rest
