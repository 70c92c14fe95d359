use Rattle.std.proofs.Common.{◌≡◌, ◌++◌, drop}
use Rattle.fs_names.specs.Text.{field_text}
use Rattle.fs_names.proofs.spelling.spell_field.Given as goal

abbrev pub invariant-loop-byte : goal.invariant-loop-byte
invariant-loop-byte l = l.out.items ++ field_text (drop l.byte-index l.bytes) ≡ l.fn.out.items ++ field_text l.bytes
