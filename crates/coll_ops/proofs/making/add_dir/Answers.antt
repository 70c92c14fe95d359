use Rattle.std.proofs.Common.{rules, subst}
use Rattle.coll_ops.specs.Places.{IsThere}
use Rattle.coll_ops.proofs.Adding.{created_adds}
use Rattle.coll_ops.proofs.making.add_dir.Goals as goal

pub returns-in_err-make_dir-in-None-clause-adds : goal.returns-in_err-make_dir-in-None-clause-adds
returns-in_err-make_dir-in-None-clause-adds g c = λ t.
    let disk = g.T.FileTree.disk in
    let sound = g.met.T.FileTree.sound in
    created_adds c.args.path.now (disk c.args.tree.now) (disk c.kind_at.new.tree) (disk c.make_dir.new.self) (sound c.args.tree.now (search rules)) (sound c.kind_at.new.tree (search rules)) (c.kind_at.ensures.still (search rules))
    (subst (IsThere (disk c.args.tree.now).tree c.args.path.now) c.in-None.is (c.in_ok-kind_at.ensures.kind (search rules))) c.make_dir.result (c.make_dir.ensures.change (search rules))

pub returns-in_ok-make_dir-in-None-clause-adds : goal.returns-in_ok-make_dir-in-None-clause-adds
returns-in_ok-make_dir-in-None-clause-adds g c = λ t.
    let disk = g.T.FileTree.disk in
    let sound = g.met.T.FileTree.sound in
    created_adds c.args.path.now (disk c.args.tree.now) (disk c.kind_at.new.tree) (disk c.make_dir.new.self) (sound c.args.tree.now (search rules)) (sound c.kind_at.new.tree (search rules)) (c.kind_at.ensures.still (search rules))
    (subst (IsThere (disk c.args.tree.now).tree c.args.path.now) c.in-None.is (c.in_ok-kind_at.ensures.kind (search rules))) c.make_dir.result (c.make_dir.ensures.change (search rules))
