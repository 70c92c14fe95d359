use Rattle.std.proofs.Common.{rules, inl, inr, Ok}
use Rattle.fs_names.specs.Text.{oid_text}
use Rattle.lfn_index.proofs.Rooms.{unmoved, shift_file, shift_there, shift_clear, shift_free, shift_parent, shifts, shifted, shift_objects, shift_now, shift_levels}
use Rattle.lfn_index.proofs.Moves.{shift_still}
use Rattle.lfn_index.proofs.relocation.shift.Goals as goal

pub returns-in_err-path-clause-leaves : goal.returns-in_err-path-clause-leaves
returns-in_err-path-clause-leaves g c = λ t.
    let disk = g.T.FileTree.disk in
    let sound = g.met.T.FileTree.sound in
    inl (unmoved (disk c.args.tree.now) (disk c.room.new.tree) (sound c.args.tree.now (search rules)) (c.room.ensures.still (search rules)).stays)

pub rename-requires-clause-there : goal.rename-requires-clause-there
rename-requires-clause-there g c = λ t.
    let disk = g.T.FileTree.disk in
    let sound = g.met.T.FileTree.sound in
    shift_there c.args.set.now c.args.from.now c.args.dir.now (oid_text c.args.oid.now) c.args.step.now (disk c.args.tree.now) (disk c.room.new.tree)
    (sound c.args.tree.now (search rules)) (sound c.room.new.tree (search rules)) (c.room.ensures.still (search rules)).stays (c.requires.file (search rules)) (c.requires.dir (search rules)) c.in_ok-path.path (c.in_ok-path.ensures.room (search rules))

pub rename-requires-clause-off_the_way : goal.rename-requires-clause-off_the_way
rename-requires-clause-off_the_way g c = λ t.
    let disk = g.T.FileTree.disk in
    let sound = g.met.T.FileTree.sound in
    shift_clear c.args.set.now c.args.from.now c.args.dir.now (oid_text c.args.oid.now) c.args.step.now (disk c.args.tree.now) (disk c.room.new.tree)
    (sound c.args.tree.now (search rules)) (sound c.room.new.tree (search rules)) (c.room.ensures.still (search rules)).stays (c.requires.file (search rules)) (c.requires.dir (search rules)) c.in_ok-path.path (c.in_ok-path.ensures.room (search rules))

pub rename-requires-clause-target : goal.rename-requires-clause-target
rename-requires-clause-target g c = λ t.
    let disk = g.T.FileTree.disk in
    let sound = g.met.T.FileTree.sound in
    inl (shift_free c.args.set.now c.args.from.now c.args.dir.now (oid_text c.args.oid.now) c.args.step.now (disk c.args.tree.now) (disk c.room.new.tree)
    (sound c.args.tree.now (search rules)) (sound c.room.new.tree (search rules)) (c.room.ensures.still (search rules)).stays (c.requires.file (search rules)) (c.requires.dir (search rules)) c.in_ok-path.path (c.in_ok-path.ensures.room (search rules)))

pub rename-requires-clause-parent : goal.rename-requires-clause-parent
rename-requires-clause-parent g c = λ t.
    let disk = g.T.FileTree.disk in
    let sound = g.met.T.FileTree.sound in
    shift_parent c.args.set.now c.args.from.now c.args.dir.now (oid_text c.args.oid.now) c.args.step.now (disk c.args.tree.now) (disk c.room.new.tree)
    (sound c.args.tree.now (search rules)) (sound c.room.new.tree (search rules)) (c.room.ensures.still (search rules)).stays (c.requires.file (search rules)) (c.requires.dir (search rules)) c.in_ok-path.path (c.in_ok-path.ensures.room (search rules))

pub returns-in_err-rename-clause-leaves : goal.returns-in_err-rename-clause-leaves
returns-in_err-rename-clause-leaves g c = λ t.
    let disk = g.T.FileTree.disk in
    let sound = g.met.T.FileTree.sound in
    inr (
      c.in_ok-path.path,
      c.in_ok-path.ensures.room (search rules),
      shifts c.args.set.now c.args.from.now c.args.dir.now (oid_text c.args.oid.now) c.args.step.now (disk c.args.tree.now) (disk c.room.new.tree)
          (sound c.args.tree.now (search rules)) (sound c.room.new.tree (search rules)) (c.room.ensures.still (search rules)).stays (c.requires.file (search rules)) (c.requires.dir (search rules)) c.in_ok-path.path (c.in_ok-path.ensures.room (search rules))
          (disk c.rename.new.self) c.rename.result (c.rename.ensures.file (search rules) (shift_file c.args.set.now c.args.from.now c.args.dir.now (oid_text c.args.oid.now) c.args.step.now (disk c.args.tree.now) (disk c.room.new.tree)
          (sound c.args.tree.now (search rules)) (sound c.room.new.tree (search rules)) (c.room.ensures.still (search rules)).stays (c.requires.file (search rules)) (c.requires.dir (search rules)) c.in_ok-path.path (c.in_ok-path.ensures.room (search rules)))),
    )

pub returns-clause-leaves : goal.returns-clause-leaves
returns-clause-leaves g c = λ t.
    let disk = g.T.FileTree.disk in
    let sound = g.met.T.FileTree.sound in
    inr (
      c.in_ok-path.path,
      c.in_ok-path.ensures.room (search rules),
      shifts c.args.set.now c.args.from.now c.args.dir.now (oid_text c.args.oid.now) c.args.step.now (disk c.args.tree.now) (disk c.room.new.tree)
          (sound c.args.tree.now (search rules)) (sound c.room.new.tree (search rules)) (c.room.ensures.still (search rules)).stays (c.requires.file (search rules)) (c.requires.dir (search rules)) c.in_ok-path.path (c.in_ok-path.ensures.room (search rules))
          (disk c.rename.new.self) c.rename.result (c.rename.ensures.file (search rules) (shift_file c.args.set.now c.args.from.now c.args.dir.now (oid_text c.args.oid.now) c.args.step.now (disk c.args.tree.now) (disk c.room.new.tree)
          (sound c.args.tree.now (search rules)) (sound c.room.new.tree (search rules)) (c.room.ensures.still (search rules)).stays (c.requires.file (search rules)) (c.requires.dir (search rules)) c.in_ok-path.path (c.in_ok-path.ensures.room (search rules)))),
    )

pub returns-clause-moved : goal.returns-clause-moved
returns-clause-moved g c = λ t.
    let disk = g.T.FileTree.disk in
    let sound = g.met.T.FileTree.sound in
    shifted c.args.set.now c.args.from.now c.args.dir.now (oid_text c.args.oid.now) c.args.step.now (disk c.args.tree.now) (disk c.room.new.tree)
    (sound c.args.tree.now (search rules)) (sound c.room.new.tree (search rules)) (c.room.ensures.still (search rules)).stays (c.requires.file (search rules)) (c.requires.dir (search rules)) c.in_ok-path.path (c.in_ok-path.ensures.room (search rules))
    (disk c.rename.new.self) (Ok c.in_ok-rename.field-0) (c.in_ok-rename.ensures.file (search rules) (shift_file c.args.set.now c.args.from.now c.args.dir.now (oid_text c.args.oid.now) c.args.step.now (disk c.args.tree.now) (disk c.room.new.tree)
    (sound c.args.tree.now (search rules)) (sound c.room.new.tree (search rules)) (c.room.ensures.still (search rules)).stays (c.requires.file (search rules)) (c.requires.dir (search rules)) c.in_ok-path.path (c.in_ok-path.ensures.room (search rules))))

pub returns-in_err-path-clause-object : goal.returns-in_err-path-clause-object
returns-in_err-path-clause-object g c = λ t.
    let disk = g.T.FileTree.disk in
    let sound = g.met.T.FileTree.sound in
    shift_still c.args.set.now c.args.from.now c.args.dir.now c.args.oid.now c.args.step.now (disk c.args.tree.now) (disk c.room.new.tree)
    (unmoved (disk c.args.tree.now) (disk c.room.new.tree) (sound c.args.tree.now (search rules)) (c.room.ensures.still (search rules)).stays)

pub returns-in_err-rename-clause-object : goal.returns-in_err-rename-clause-object
returns-in_err-rename-clause-object g c = λ t.
    let disk = g.T.FileTree.disk in
    let sound = g.met.T.FileTree.sound in
    shift_objects c.args.set.now c.args.from.now c.args.dir.now c.args.oid.now c.args.step.now (disk c.args.tree.now) (disk c.room.new.tree)
    (sound c.args.tree.now (search rules)) (sound c.room.new.tree (search rules)) (c.room.ensures.still (search rules)).stays (c.requires.file (search rules)) (c.requires.dir (search rules)) c.in_ok-path.path (c.in_ok-path.ensures.room (search rules)) c.fits.ensures
    (disk c.rename.new.self) c.rename.result (c.rename.ensures.file (search rules) (shift_file c.args.set.now c.args.from.now c.args.dir.now (oid_text c.args.oid.now) c.args.step.now (disk c.args.tree.now) (disk c.room.new.tree)
    (sound c.args.tree.now (search rules)) (sound c.room.new.tree (search rules)) (c.room.ensures.still (search rules)).stays (c.requires.file (search rules)) (c.requires.dir (search rules)) c.in_ok-path.path (c.in_ok-path.ensures.room (search rules))))

pub returns-clause-object : goal.returns-clause-object
returns-clause-object g c = λ t.
    let disk = g.T.FileTree.disk in
    let sound = g.met.T.FileTree.sound in
    shift_objects c.args.set.now c.args.from.now c.args.dir.now c.args.oid.now c.args.step.now (disk c.args.tree.now) (disk c.room.new.tree)
    (sound c.args.tree.now (search rules)) (sound c.room.new.tree (search rules)) (c.room.ensures.still (search rules)).stays (c.requires.file (search rules)) (c.requires.dir (search rules)) c.in_ok-path.path (c.in_ok-path.ensures.room (search rules)) c.fits.ensures
    (disk c.rename.new.self) c.rename.result (c.rename.ensures.file (search rules) (shift_file c.args.set.now c.args.from.now c.args.dir.now (oid_text c.args.oid.now) c.args.step.now (disk c.args.tree.now) (disk c.room.new.tree)
    (sound c.args.tree.now (search rules)) (sound c.room.new.tree (search rules)) (c.room.ensures.still (search rules)).stays (c.requires.file (search rules)) (c.requires.dir (search rules)) c.in_ok-path.path (c.in_ok-path.ensures.room (search rules))))

pub returns-clause-reads : goal.returns-clause-reads
returns-clause-reads g c = λ t.
    let disk = g.T.FileTree.disk in
    let sound = g.met.T.FileTree.sound in
    shift_now c.args.set.now c.args.from.now c.args.dir.now c.args.oid.now c.args.step.now (disk c.args.tree.now) (disk c.room.new.tree)
    (sound c.args.tree.now (search rules)) (sound c.room.new.tree (search rules)) (c.room.ensures.still (search rules)).stays (c.requires.file (search rules)) (c.requires.dir (search rules)) c.in_ok-path.path (c.in_ok-path.ensures.room (search rules)) c.fits.ensures
    (disk c.rename.new.self) (Ok c.in_ok-rename.field-0) (c.in_ok-rename.ensures.file (search rules) (shift_file c.args.set.now c.args.from.now c.args.dir.now (oid_text c.args.oid.now) c.args.step.now (disk c.args.tree.now) (disk c.room.new.tree)
    (sound c.args.tree.now (search rules)) (sound c.room.new.tree (search rules)) (c.room.ensures.still (search rules)).stays (c.requires.file (search rules)) (c.requires.dir (search rules)) c.in_ok-path.path (c.in_ok-path.ensures.room (search rules))))

pub returns-clause-level : goal.returns-clause-level
returns-clause-level g c = λ t.
    let disk = g.T.FileTree.disk in
    let sound = g.met.T.FileTree.sound in
    shift_levels c.args.set.now c.args.from.now c.args.dir.now c.args.oid.now c.args.step.now (disk c.args.tree.now) (disk c.room.new.tree)
    (sound c.args.tree.now (search rules)) (sound c.room.new.tree (search rules)) (c.room.ensures.still (search rules)).stays (c.requires.file (search rules)) (c.requires.dir (search rules)) c.in_ok-path.path (c.in_ok-path.ensures.room (search rules)) c.fits.ensures
    (disk c.rename.new.self) (Ok c.in_ok-rename.field-0) (c.in_ok-rename.ensures.file (search rules) (shift_file c.args.set.now c.args.from.now c.args.dir.now (oid_text c.args.oid.now) c.args.step.now (disk c.args.tree.now) (disk c.room.new.tree)
    (sound c.args.tree.now (search rules)) (sound c.room.new.tree (search rules)) (c.room.ensures.still (search rules)).stays (c.requires.file (search rules)) (c.requires.dir (search rules)) c.in_ok-path.path (c.in_ok-path.ensures.room (search rules)))) (sound c.rename.new.self (search rules))
