use Rattle.std.proofs.Common.{refl}
use Rattle.fs_script.specs.Fields.{pair_fields}
use Rattle.fs_script.proofs.FieldLists.{one-field, all-fields}
use Rattle.fs_script.proofs.field.pairs.Goals as goal

pub loop-rest-preserved : goal.loop-rest-preserved
loop-rest-preserved c = one-field pair_fields _ _ _ _ _ _ c.in_ok-pair.more c.loop-rest.invariant c.in-Some.is c.in_ok-pair.ensures.pair c.in_ok-push.ensures

pub returns : goal.returns
unfolding pair_fields
returns c = all-fields pair_fields _ _ _ _ c.loop-rest.invariant refl c.in_default.not-Some c.from_vec.ensures
