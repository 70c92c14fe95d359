use Rattle.std.proofs.Common.{rules, Ok}
use Rattle.tree_api.specs.Tree.{new_dir}
use Rattle.store_files.proofs.Adding.{created_leaves, settled_leaves, settled}
use Rattle.store_files.proofs.steps.add_dir.Goals as goal

pub returns-in_err-make_dir-clause-beside : goal.returns-in_err-make_dir-clause-beside
returns-in_err-make_dir-clause-beside g c = λ t.
    let disk = g.T.FileTree.disk in
    let sound = g.met.T.FileTree.sound in
    created_leaves c.args.path.now new_dir (disk c.args.tree.now) (disk c.make_dir.new.self) c.make_dir.result (sound c.args.tree.now (search rules)) (c.make_dir.ensures.change (search rules))

pub returns-clause-beside : goal.returns-clause-beside
returns-clause-beside g c = λ t.
    let disk = g.T.FileTree.disk in
    let sound = g.met.T.FileTree.sound in
    settled_leaves c.args.path.now new_dir (disk c.args.tree.now) (disk c.make_dir.new.self) (Ok c.in_ok-make_dir.field-0) (sound c.args.tree.now (search rules)) (c.in_ok-make_dir.ensures.change (search rules))
    (sound c.make_dir.new.self (search rules)) c.sync_names.result (disk c.sync_names.new.self) (c.sync_names.ensures.synced (search rules))

pub returns-clause-stands : goal.returns-clause-stands
returns-clause-stands g c = λ t.
    let disk = g.T.FileTree.disk in
    let sound = g.met.T.FileTree.sound in
    settled c.args.path.now new_dir (disk c.args.tree.now) (disk c.make_dir.new.self) (Ok c.in_ok-make_dir.field-0) (sound c.args.tree.now (search rules)) (c.in_ok-make_dir.ensures.change (search rules))
    (sound c.make_dir.new.self (search rules)) c.sync_names.result (disk c.sync_names.new.self) (c.sync_names.ensures.synced (search rules)) (c.in_ok-make_dir.ensures.change (search rules)).ok
