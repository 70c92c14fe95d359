use Rattle.std.proofs.Common.{◌≤◌, ◌*◌}
use Rattle.fs_names.proofs.spelling.field_len.Given as goal

abbrev pub invariant-loop-byte : goal.invariant-loop-byte
invariant-loop-byte l = l.len ≤ 4 * l.byte-index
