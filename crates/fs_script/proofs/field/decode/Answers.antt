use Rattle.std.proofs.Common.{sym}
use Rattle.fs_script.proofs.Digits.{next-byte}
use Rattle.fs_script.proofs.field.decode.Goals as goal

pub loop-rest-preserved : goal.loop-rest-preserved
loop-rest-preserved c =
    next-byte _ _ _ _ _ _ _ _ _ c.loop-rest.invariant c.in-len2-up.len_at_least (sym c.in-Some.ensures) c.push_reserved.ensures.items
    c.push_reserved.ensures.len c.push_reserved.ensures.capacity
