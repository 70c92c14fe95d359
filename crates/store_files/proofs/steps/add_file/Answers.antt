use Rattle.std.proofs.Common.{◌≡◌, ◌∙◌, ap, sym, rules, Ok, Some, None, []}
use Rattle.tree_api.specs.Tree.{Version, Names, file_of}
use Rattle.store_files.proofs.Adding.{created_leaves, written_leaves, synced_leaves, whole}
use Rattle.store_files.proofs.steps.add_file.Goals as goal

pub write_at-requires-clause-file : goal.write_at-requires-clause-file
write_at-requires-clause-file g c = λ t.
    let made = c.in_ok-create.ensures.change (search rules) in
    (made.n, ap (λ (f : Names). f c.args.path.now) made.ok.0 ∙ made.added, ap (λ (v : Version). v.dir) made.ok.1)

pub sync_file-requires : goal.sync_file-requires
sync_file-requires g c = record {
  there = λ t none.
      let change = c.in_ok-write_at.ensures.change (search rules) in
      let z : None ≡ Some change.n = sym none ∙ ap (λ (f : Names). f c.args.path.now) change.partly.names ∙ change.here in
      cc;
}

pub returns-in_err-create-clause-beside : goal.returns-in_err-create-clause-beside
returns-in_err-create-clause-beside g c = λ t.
    let disk = g.T.FileTree.disk in
    created_leaves c.args.path.now (file_of []) (disk c.args.tree.now) (disk c.create.new.self) c.create.result (g.met.T.FileTree.sound c.args.tree.now (search rules)) (c.create.ensures.change (search rules))

pub returns-in_err-write_at-clause-beside : goal.returns-in_err-write_at-clause-beside
returns-in_err-write_at-clause-beside g c = λ t.
    let disk = g.T.FileTree.disk in
    let sound = g.met.T.FileTree.sound in
    let made = c.in_ok-create.ensures.change (search rules) in
    let d3 = disk c.write_at.new.self in
    written_leaves c.args.path.now c.args.text.now (disk c.args.tree.now) (disk c.create.new.self) d3 d3 (Ok c.in_ok-create.field-0) (sound c.args.tree.now (search rules))
    (sound c.create.new.self (search rules)) (sound c.write_at.new.self (search rules)) made made.ok c.write_at.result (c.write_at.ensures.change (search rules))

pub returns-clause-beside : goal.returns-clause-beside
returns-clause-beside g c = λ t.
    let disk = g.T.FileTree.disk in
    let sound = g.met.T.FileTree.sound in
    let made = c.in_ok-create.ensures.change (search rules) in
    synced_leaves c.args.path.now c.args.text.now (disk c.args.tree.now) (disk c.create.new.self) (disk c.write_at.new.self) (disk c.sync_file.new.self) (Ok c.in_ok-create.field-0)
    (sound c.args.tree.now (search rules)) (sound c.create.new.self (search rules)) (sound c.write_at.new.self (search rules)) made made.ok
    (Ok c.in_ok-write_at.field-0) (c.in_ok-write_at.ensures.change (search rules)) c.sync_file.result (c.sync_file.ensures.synced (search rules))

pub returns-clause-stands : goal.returns-clause-stands
returns-clause-stands g c = λ t.
    let disk = g.T.FileTree.disk in
    let sound = g.met.T.FileTree.sound in
    let made = c.in_ok-create.ensures.change (search rules) in
    let wrote = c.in_ok-write_at.ensures.change (search rules) in
    whole c.args.path.now c.args.text.now (disk c.args.tree.now) (disk c.create.new.self) (disk c.write_at.new.self) (disk c.sync_file.new.self) (Ok c.in_ok-create.field-0)
    (sound c.args.tree.now (search rules)) (sound c.create.new.self (search rules)) (sound c.write_at.new.self (search rules)) made made.ok
    (Ok c.in_ok-write_at.field-0) wrote c.sync_file.result (c.sync_file.ensures.synced (search rules)) (c.requires.free (search rules)) wrote.ok
