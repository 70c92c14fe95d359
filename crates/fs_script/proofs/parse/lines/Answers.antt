use Rattle.fs_script.proofs.Lines.{one-more}
use Rattle.fs_script.proofs.parse.lines.Goals as goal

pub loop-rest-preserved : goal.loop-rest-preserved
loop-rest-preserved c =
    one-more _ _ _ _ _ _ _ _ _ _ _ _ c.loop-rest.invariant c.in-Some.is c.cut.ensures.pieces c.cut.ensures.shorter c.is_some.ensures c.in-Ok.ensures
    c.opened-begin.ensures c.in_ok-add.ensures
