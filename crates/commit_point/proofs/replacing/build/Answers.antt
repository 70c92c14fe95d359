use Rattle.std.proofs.Common.{◌≡◌, ◌∙◌, ap, sym, rules, Ok, Some, None}
use Rattle.tree_api.specs.Tree.{Version, Names}
use Rattle.commit_point.proofs.Making.{created_leaves, written_leaves, synced_leaves, filled, parent_kept}
use Rattle.commit_point.proofs.replacing.build.Goals as goal

pub create-requires : goal.create-requires
create-requires g c = record {
  free = λ t.
      let disk = g.T.FileTree.disk in
      let cleared = c.in_ok-clear.ensures.cleared (search rules) in
      (cleared.free, parent_kept c.args.path.now (disk c.args.tree.now).tree (disk c.clear.new.tree).tree cleared.others cleared.nodes (c.requires.parent (search rules)));
}

pub write_at-requires-clause-file : goal.write_at-requires-clause-file
write_at-requires-clause-file g c = λ t.
    let made = c.in_ok-create.ensures.change (search rules) in
    (made.n, ap (λ (f : Names). f c.args.path.now) made.ok.0 ∙ made.added, ap (λ (v : Version). v.dir) made.ok.1)

pub sync_file-requires : goal.sync_file-requires
sync_file-requires g c = record {
  there = λ t none.
      let change = c.in_ok-write_at.ensures.change (search rules) in
      let z : None ≡ Some change.n = sym none ∙ ap (λ (f : Names). f c.args.path.now) change.partly.names ∙ change.here in
      cc;
}

pub returns-in_err-create-clause-leaves : goal.returns-in_err-create-clause-leaves
returns-in_err-create-clause-leaves g c = λ t to v apart.
    let disk = g.T.FileTree.disk in
    let sound = g.met.T.FileTree.sound in
    let d1 = c.clear.new.tree in
    let d2 = c.create.new.self in
    created_leaves c.args.path.now to v apart c.args.text.now (disk c.args.tree.now) (disk d1) (disk d2) (disk d2) (disk d2) (sound d1 (search rules)) (sound d2 (search rules)) (sound d2 (search rules))
    (c.clear.ensures.leaves (search rules) to v apart) c.create.result (c.create.ensures.change (search rules))

pub returns-in_err-write_at-clause-leaves : goal.returns-in_err-write_at-clause-leaves
returns-in_err-write_at-clause-leaves g c = λ t to v apart.
    let disk = g.T.FileTree.disk in
    let sound = g.met.T.FileTree.sound in
    let d1 = c.clear.new.tree in
    let d2 = c.create.new.self in
    let d3 = c.write_at.new.self in
    written_leaves c.args.path.now to v apart c.args.text.now (disk c.args.tree.now) (disk d1) (disk d2) (disk d3) (disk d3) (sound d1 (search rules)) (sound d2 (search rules)) (sound d3 (search rules))
    (c.clear.ensures.leaves (search rules) to v apart) (Ok c.in_ok-create.field-0) (c.in_ok-create.ensures.change (search rules)) (c.in_ok-create.ensures.change (search rules)).ok c.write_at.result (c.write_at.ensures.change (search rules))

pub returns-clause-leaves : goal.returns-clause-leaves
returns-clause-leaves g c = λ t to v apart.
    let disk = g.T.FileTree.disk in
    let sound = g.met.T.FileTree.sound in
    let d1 = c.clear.new.tree in
    let d2 = c.create.new.self in
    let d3 = c.write_at.new.self in
    let d4 = c.sync_file.new.self in
    synced_leaves c.args.path.now to v apart c.args.text.now (disk c.args.tree.now) (disk d1) (disk d2) (disk d3) (disk d4) (sound d1 (search rules)) (sound d2 (search rules)) (sound d3 (search rules))
    (c.clear.ensures.leaves (search rules) to v apart) (Ok c.in_ok-create.field-0) (c.in_ok-create.ensures.change (search rules)) (c.in_ok-create.ensures.change (search rules)).ok
    (Ok c.in_ok-write_at.field-0) (c.in_ok-write_at.ensures.change (search rules)) c.sync_file.result (c.sync_file.ensures.synced (search rules))

pub returns-clause-filled : goal.returns-clause-filled
returns-clause-filled g c = λ t.
    let disk = g.T.FileTree.disk in
    let sound = g.met.T.FileTree.sound in
    let d1 = c.clear.new.tree in
    let d2 = c.create.new.self in
    let d3 = c.write_at.new.self in
    let d4 = c.sync_file.new.self in
    filled c.args.path.now c.args.text.now (disk c.args.tree.now) (disk d1) (disk d2) (disk d3) (disk d4) (sound d1 (search rules)) (c.in_ok-clear.ensures.cleared (search rules))
    (Ok c.in_ok-create.field-0) (c.in_ok-create.ensures.change (search rules)) (c.in_ok-create.ensures.change (search rules)).ok (Ok c.in_ok-write_at.field-0) (c.in_ok-write_at.ensures.change (search rules)) (c.in_ok-write_at.ensures.change (search rules)).ok
    c.sync_file.result (c.sync_file.ensures.synced (search rules))
