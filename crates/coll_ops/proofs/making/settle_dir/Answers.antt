use Rattle.std.proofs.Common.{rules}
use Rattle.coll_ops.proofs.Adding.{adds_stays}
use Rattle.coll_ops.proofs.making.settle_dir.Goals as goal

pub returns-in_err-sync_names-clause-adds : goal.returns-in_err-sync_names-clause-adds
returns-in_err-sync_names-clause-adds g c = λ t.
    let disk = g.T.FileTree.disk in
    adds_stays c.args.path.now (disk c.args.tree.now) (disk c.add_dir.new.tree) (disk c.sync_names.new.self) (g.met.T.FileTree.sound c.add_dir.new.tree (search rules)) (c.add_dir.ensures.adds (search rules)) (c.sync_names.ensures.synced (search rules)).stays

pub returns-clause-adds : goal.returns-clause-adds
returns-clause-adds g c = λ t.
    let disk = g.T.FileTree.disk in
    adds_stays c.args.path.now (disk c.args.tree.now) (disk c.add_dir.new.tree) (disk c.sync_names.new.self) (g.met.T.FileTree.sound c.add_dir.new.tree (search rules)) (c.add_dir.ensures.adds (search rules)) (c.sync_names.ensures.synced (search rules)).stays
