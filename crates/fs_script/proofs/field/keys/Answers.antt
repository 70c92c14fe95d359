use Rattle.std.proofs.Common.{refl}
use Rattle.fs_script.specs.Fields.{key_fields}
use Rattle.fs_script.proofs.FieldLists.{one-field, all-fields}
use Rattle.fs_script.proofs.field.keys.Goals as goal

pub loop-rest-preserved : goal.loop-rest-preserved
loop-rest-preserved c = one-field key_fields _ _ _ _ _ _ c.in_ok-key.more c.loop-rest.invariant c.in-Some.is c.in_ok-key.ensures.key c.in_ok-push.ensures

pub returns : goal.returns
unfolding key_fields
returns c = all-fields key_fields _ _ _ _ c.loop-rest.invariant refl c.in_default.not-Some c.from_vec.ensures
