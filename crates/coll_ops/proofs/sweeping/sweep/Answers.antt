use Rattle.std.proofs.Common.{rules}
use Rattle.coll_ops.proofs.Clearing.{stays_sweeps, gone_sweeps, sweeps_then}
use Rattle.coll_ops.proofs.sweeping.sweep.Goals as goal

pub returns-in_err-remove_file-in-Some-File-clause-leaves : goal.returns-in_err-remove_file-in-Some-File-clause-leaves
returns-in_err-remove_file-in-Some-File-clause-leaves g c = λ t.
    let disk = g.T.FileTree.disk in
    let sound = g.met.T.FileTree.sound in
    sweeps_then c.args.path.now c.args.path.now (disk c.args.tree.now) (disk c.kind_at.new.tree) (disk c.remove_file.new.self) (sound c.kind_at.new.tree (search rules)) (λ q w. w)
    (stays_sweeps c.args.path.now (disk c.args.tree.now) (disk c.kind_at.new.tree) (sound c.args.tree.now (search rules)) (c.kind_at.ensures.still (search rules)).stays)
    (gone_sweeps c.args.path.now (disk c.kind_at.new.tree) (disk c.remove_file.new.self) c.remove_file.result (sound c.kind_at.new.tree (search rules)) (c.remove_file.ensures.change (search rules)))

pub returns-in_ok-remove_file-in-Some-File-clause-leaves : goal.returns-in_ok-remove_file-in-Some-File-clause-leaves
returns-in_ok-remove_file-in-Some-File-clause-leaves g c = λ t.
    let disk = g.T.FileTree.disk in
    let sound = g.met.T.FileTree.sound in
    sweeps_then c.args.path.now c.args.path.now (disk c.args.tree.now) (disk c.kind_at.new.tree) (disk c.remove_file.new.self) (sound c.kind_at.new.tree (search rules)) (λ q w. w)
    (stays_sweeps c.args.path.now (disk c.args.tree.now) (disk c.kind_at.new.tree) (sound c.args.tree.now (search rules)) (c.kind_at.ensures.still (search rules)).stays)
    (gone_sweeps c.args.path.now (disk c.kind_at.new.tree) (disk c.remove_file.new.self) c.remove_file.result (sound c.kind_at.new.tree (search rules)) (c.remove_file.ensures.change (search rules)))

pub returns-in_err-sweep_dir-in-Some-Dir-clause-leaves : goal.returns-in_err-sweep_dir-in-Some-Dir-clause-leaves
returns-in_err-sweep_dir-in-Some-Dir-clause-leaves g c = λ t.
    let disk = g.T.FileTree.disk in
    let sound = g.met.T.FileTree.sound in
    sweeps_then c.args.path.now c.args.path.now (disk c.args.tree.now) (disk c.kind_at.new.tree) (disk c.sweep_dir.new.tree) (sound c.kind_at.new.tree (search rules)) (λ q w. w)
    (stays_sweeps c.args.path.now (disk c.args.tree.now) (disk c.kind_at.new.tree) (sound c.args.tree.now (search rules)) (c.kind_at.ensures.still (search rules)).stays)
    (c.sweep_dir.ensures.leaves (search rules))

pub returns-in_ok-sweep_dir-in-Some-Dir-clause-leaves : goal.returns-in_ok-sweep_dir-in-Some-Dir-clause-leaves
returns-in_ok-sweep_dir-in-Some-Dir-clause-leaves g c = λ t.
    let disk = g.T.FileTree.disk in
    let sound = g.met.T.FileTree.sound in
    sweeps_then c.args.path.now c.args.path.now (disk c.args.tree.now) (disk c.kind_at.new.tree) (disk c.sweep_dir.new.tree) (sound c.kind_at.new.tree (search rules)) (λ q w. w)
    (stays_sweeps c.args.path.now (disk c.args.tree.now) (disk c.kind_at.new.tree) (sound c.args.tree.now (search rules)) (c.kind_at.ensures.still (search rules)).stays)
    (c.sweep_dir.ensures.leaves (search rules))
