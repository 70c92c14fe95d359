use Rattle.std.proofs.Common.{rules}
use Rattle.commit_point.proofs.Making.{cleared_leaves, cleared_now}
use Rattle.commit_point.proofs.replacing.clear.Goals as goal

pub returns-clause-leaves : goal.returns-clause-leaves
returns-clause-leaves g c = λ t to v apart.
    let disk = g.T.FileTree.disk in
    let sound = g.met.T.FileTree.sound in
    cleared_leaves c.args.path.now to v apart (disk c.args.tree.now) (disk c.stat.new.self) (sound c.args.tree.now (search rules)) (sound c.stat.new.self (search rules))
    (c.stat.ensures.still (search rules)).stays (disk c.remove_file.new.self) c.remove_file.result (c.remove_file.ensures.change (search rules))

pub returns-clause-cleared : goal.returns-clause-cleared
returns-clause-cleared g c = λ t.
    let disk = g.T.FileTree.disk in
    cleared_now c.args.path.now (disk c.args.tree.now) (disk c.stat.new.self) (disk c.remove_file.new.self) c.remove_file.result (c.stat.ensures.still (search rules)).stays.tree (c.remove_file.ensures.change (search rules))
