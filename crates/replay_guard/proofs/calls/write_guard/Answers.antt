use Rattle.std.proofs.Common.{rules, refl, ◌∙◌}
use Rattle.replay_guard.proofs.Writing.{some_of, not_ok, sets_nothing, sets_synced, sets_written, sets_not, sets_done}
use Rattle.replay_guard.proofs.calls.write_guard.Goals as goal

pub returns-in_err-set_attr-clause-sets : goal.returns-in_err-set_attr-clause-sets
returns-in_err-set_attr-clause-sets g c = λ t.
    let disk = g.T.FileTree.disk in
    let sound = g.met.T.FileTree.sound in
    let found = some_of ((disk c.args.tree.now).tree.at c.args.path.now) (c.requires.there (search rules)) in
    sets_written c.args.path.now c.args.guard c.deref.result.now (c.deref.ensures.value ∙ c.in_ok-bytes.ensures) (disk c.args.tree.now) (disk c.sync_file.new.self) c.sync_file.result (sound c.args.tree.now (search rules)) found.0 found.1 (c.sync_file.ensures.synced (search rules))
    (c.in_ok-sync_file.ensures.synced (search rules)).names (c.in_ok-sync_file.ensures.synced (search rules)).node (disk c.set_attr.new.self) c.set_attr.result (sound c.sync_file.new.self (search rules)) (c.set_attr.ensures.change (search rules)) _
    (λ ok. not_ok c.from_residual-in_err-set_attr.result c.from_residual-in_err-set_attr.ensures.0 ok)

pub returns-in_err-sync_file-2-clause-sets : goal.returns-in_err-sync_file-2-clause-sets
returns-in_err-sync_file-2-clause-sets g c = λ t.
    let disk = g.T.FileTree.disk in
    let sound = g.met.T.FileTree.sound in
    let found = some_of ((disk c.args.tree.now).tree.at c.args.path.now) (c.requires.there (search rules)) in
    sets_not c.args.path.now c.args.guard c.deref.result.now (c.deref.ensures.value ∙ c.in_ok-bytes.ensures) (disk c.args.tree.now) (disk c.sync_file.new.self) c.sync_file.result (sound c.args.tree.now (search rules)) found.0 found.1 (c.sync_file.ensures.synced (search rules))
    (c.in_ok-sync_file.ensures.synced (search rules)).names (c.in_ok-sync_file.ensures.synced (search rules)).node (disk c.set_attr.new.self) c.set_attr.result (sound c.sync_file.new.self (search rules)) (c.set_attr.ensures.change (search rules))
    (disk c.sync_file-2.new.self) (sound c.set_attr.new.self (search rules)) c.sync_file-2.result (c.sync_file-2.ensures.synced (search rules)) _
    (λ ok. not_ok c.from_residual-in_err-sync_file-2.result c.from_residual-in_err-sync_file-2.ensures.0 ok)

pub returns-clause-sets : goal.returns-clause-sets
returns-clause-sets g c = λ t.
    let disk = g.T.FileTree.disk in
    let sound = g.met.T.FileTree.sound in
    let found = some_of ((disk c.args.tree.now).tree.at c.args.path.now) (c.requires.there (search rules)) in
    sets_done c.args.path.now c.args.guard c.deref.result.now (c.deref.ensures.value ∙ c.in_ok-bytes.ensures) (disk c.args.tree.now) (disk c.sync_file.new.self) c.sync_file.result (sound c.args.tree.now (search rules)) found.0 found.1 (c.sync_file.ensures.synced (search rules))
    (c.in_ok-sync_file.ensures.synced (search rules)).names (c.in_ok-sync_file.ensures.synced (search rules)).node (disk c.set_attr.new.self) _ (sound c.sync_file.new.self (search rules)) (c.in_ok-set_attr.ensures.change (search rules))
    (disk c.sync_file-2.new.self) (sound c.set_attr.new.self (search rules)) c.sync_file-2.result (c.sync_file-2.ensures.synced (search rules)) _
    (c.in_ok-set_attr.ensures.change (search rules)).ok (c.in_ok-sync_file-2.ensures.synced (search rules)).names (c.in_ok-sync_file-2.ensures.synced (search rules)).node
