use Rattle.store_opening.proofs.Made.{coll_made}
use Rattle.store_opening.proofs.opening.make_coll.Goals as goal

pub returns : goal.returns
returns c = coll_made c.apply.result c.args.made.now c.apply.new.self c.args.c c.colls_law.ensures.row c.apply.ensures.ok
