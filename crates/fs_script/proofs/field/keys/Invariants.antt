use Rattle.std.proofs.Common.{◌≡◌}
use Rattle.fs_script.specs.Words.{pieces_left}
use Rattle.fs_script.specs.Fields.{key_fields}
use Rattle.fs_script.proofs.FieldLists.{after_fields}
use Rattle.fs_script.proofs.Cuts.{left_of}
use Rattle.fs_script.proofs.field.keys.Given as goal

abbrev pub invariant-loop-rest : goal.invariant-loop-rest
invariant-loop-rest l = key_fields (pieces_left 32 l.fn.words) ≡ after_fields l.keys.items (key_fields (pieces_left 32 l.rest))

abbrev pub decreases-loop-rest : goal.decreases-loop-rest
decreases-loop-rest l = left_of l.rest
