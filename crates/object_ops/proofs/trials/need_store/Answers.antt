use Rattle.std.proofs.Common.{rules}
use Rattle.object_ops.proofs.Fresh.{looked_ready}
use Rattle.object_ops.proofs.trials.need_store.Goals as goal

pub returns-clause-ready : goal.returns-clause-ready
returns-clause-ready g c = λ t.
    let disk = g.T.FileTree.disk in
    looked_ready c.args.set.now c.args.coll.now (disk c.args.tree.now).tree (disk c.need_only.new.tree).tree (disk c.need_bare.new.tree).tree (disk c.need_bare-2.new.tree).tree (disk c.sync_all.new.self)
    (g.met.T.FileTree.sound c.sync_all.new.self t) (c.need_only.ensures.same (search rules)) (c.need_bare.ensures.same (search rules)) (c.need_bare-2.ensures.same (search rules)) (c.sync_all.ensures.synced t).stays.tree
    ((c.sync_all.ensures.synced t).all (search rules))
    c.in_ok-current.current c.in_ok-aside.aside c.in_ok-own.own c.slice.result.now (search rules) (search rules) (search rules) (search rules)
    (c.in_ok-need_only.ensures.only (search rules)) (c.in_ok-need_bare.ensures.dir (search rules)) (c.in_ok-need_bare.ensures.bare (search rules)) (c.in_ok-need_bare-2.ensures.bare (search rules))
