use Rattle.std.proofs.Common.{◌≡◌, ◌∙◌, sym, rules, refl, Ok, Some, None}
use Rattle.tree_api.specs.Tree.{file_of}
use Rattle.commit_point.proofs.Moving.{built_file, target_free, parent_there, moved_leaves, replaced_leaves, replaced_done}
use Rattle.commit_point.proofs.replacing.replace.Goals as goal

pub rename-requires-clause-there : goal.rename-requires-clause-there
rename-requires-clause-there g c = λ t none.
    let filled = c.in_ok-build.ensures.filled (search rules) in
    let z : None ≡ Some filled.n = sym none ∙ filled.here in
    cc

pub rename-requires-clause-target : goal.rename-requires-clause-target
rename-requires-clause-target g c = λ t.
    let disk = g.T.FileTree.disk in
    let sound = g.met.T.FileTree.sound in
    target_free c.args.place.now c.args.to.now (file_of c.args.text.now) c.requires.apart (disk c.args.tree.now) (disk c.build.new.tree) (sound c.build.new.tree (search rules)) (c.in_ok-build.ensures.filled (search rules)) refl (c.requires.target (search rules))

pub rename-requires-clause-parent : goal.rename-requires-clause-parent
rename-requires-clause-parent g c = λ t.
    let disk = g.T.FileTree.disk in
    let sound = g.met.T.FileTree.sound in
    let at = c.requires.there (search rules) in
    parent_there c.args.place.now c.args.to.now (file_of c.args.text.now) c.requires.apart (disk c.args.tree.now) (disk c.build.new.tree) (sound c.build.new.tree (search rules)) (c.in_ok-build.ensures.filled (search rules)) at.0 at.1 at.2 at.3 at.4

pub returns-in_err-build-clause-leaves : goal.returns-in_err-build-clause-leaves
returns-in_err-build-clause-leaves g c = λ t. c.build.ensures.leaves (search rules) c.args.to.now (file_of c.args.text.now) c.requires.apart

pub returns-in_err-rename-clause-leaves : goal.returns-in_err-rename-clause-leaves
returns-in_err-rename-clause-leaves g c = λ t.
    let disk = g.T.FileTree.disk in
    let sound = g.met.T.FileTree.sound in
    let p = c.args.place.now in
    let to = c.args.to.now in
    let v = file_of c.args.text.now in
    let d0 = disk c.args.tree.now in
    let d1 = disk c.build.new.tree in
    let s1 = sound c.build.new.tree (search rules) in
    let filled = c.in_ok-build.ensures.filled (search rules) in
    moved_leaves p to v c.requires.apart d0 d1 s1 filled (disk c.rename.new.self) c.rename.result
    (c.rename.ensures.file (search rules) (built_file p to v c.requires.apart d0 d1 s1 filled refl)) (c.build.ensures.leaves (search rules) to v c.requires.apart)

pub returns-clause-leaves : goal.returns-clause-leaves
returns-clause-leaves g c = λ t.
    let disk = g.T.FileTree.disk in
    let sound = g.met.T.FileTree.sound in
    let p = c.args.place.now in
    let to = c.args.to.now in
    let v = file_of c.args.text.now in
    let d0 = disk c.args.tree.now in
    let d1 = disk c.build.new.tree in
    let s1 = sound c.build.new.tree (search rules) in
    let filled = c.in_ok-build.ensures.filled (search rules) in
    replaced_leaves p to v c.requires.apart d0 d1 s1 filled (disk c.rename.new.self) c.rename.result
    (c.rename.ensures.file (search rules) (built_file p to v c.requires.apart d0 d1 s1 filled refl)) (c.build.ensures.leaves (search rules) to v c.requires.apart)
    (disk c.sync_names.new.self) (sound c.rename.new.self (search rules)) c.sync_names.result (c.sync_names.ensures.synced (search rules))

pub returns-clause-done : goal.returns-clause-done
returns-clause-done g c = λ t.
    let disk = g.T.FileTree.disk in
    let sound = g.met.T.FileTree.sound in
    let p = c.args.place.now in
    let to = c.args.to.now in
    let v = file_of c.args.text.now in
    let d0 = disk c.args.tree.now in
    let d1 = disk c.build.new.tree in
    let s1 = sound c.build.new.tree (search rules) in
    let filled = c.in_ok-build.ensures.filled (search rules) in
    let change = c.in_ok-rename.ensures.file (search rules) (built_file p to v c.requires.apart d0 d1 s1 filled refl) in
    replaced_done p to v c.requires.apart d0 d1 s1 filled (disk c.rename.new.self) (Ok c.in_ok-rename.field-0) change
    (disk c.sync_names.new.self) c.sync_names.result (c.sync_names.ensures.synced (search rules)) change.ok
