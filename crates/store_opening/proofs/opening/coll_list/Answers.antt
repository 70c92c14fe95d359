use Rattle.store_opening.proofs.Made.{one_more}
use Rattle.store_opening.proofs.opening.coll_list.Goals as goal

pub loop-c-preserved : goal.loop-c-preserved
loop-c-preserved c = one_more c.args.names.now c.loop-c.c-index _ _ _ c.loop-c-test.true c.loop-c.invariant c.in_ok-make_coll.ensures
