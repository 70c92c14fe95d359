use Rattle.std.proofs.Common.{rules}
use Rattle.fs_names.specs.Text.{oid_text}
use Rattle.tree_stands.specs.Files.{touched_file}
use Rattle.tree_stands.specs.Trees.{name_at}
use Rattle.object_ops.proofs.Standing.{dir_stays}
use Rattle.object_ops.proofs.Goes.{crash_by, off_by, done_by}
use Rattle.object_ops.proofs.finding.touch.Goals as goal

pub returns-in_err-_path-clause-crash : goal.returns-in_err-_path-clause-crash
returns-in_err-_path-clause-crash g c = λ t.
    let disk = g.T.FileTree.disk in
    let n = name_at c.args.coll.now c.args.oid.now in
    let s0 = g.met.T.FileTree.sound c.args.tree.now (search rules) in
    crash_by c.args.set.now n c.name_fits.ensures (touched_file (oid_text c.args.oid.now)) (disk c.args.tree.now) (disk c.open.new.tree) (c.open.ensures.goes (search rules))

pub returns-in_err-_path-clause-off : goal.returns-in_err-_path-clause-off
returns-in_err-_path-clause-off g c = λ t.
    let disk = g.T.FileTree.disk in
    let n = name_at c.args.coll.now c.args.oid.now in
    let s0 = g.met.T.FileTree.sound c.args.tree.now (search rules) in
    off_by c.args.set.now n c.name_fits.ensures (touched_file (oid_text c.args.oid.now)) (disk c.args.tree.now) (disk c.open.new.tree) (c.open.ensures.goes (search rules)) (c.requires.ready (search rules)) s0

pub returns-in_err-_path-clause-there : goal.returns-in_err-_path-clause-there
returns-in_err-_path-clause-there g c = λ t.
    let disk = g.T.FileTree.disk in
    let n = name_at c.args.coll.now c.args.oid.now in
    let s0 = g.met.T.FileTree.sound c.args.tree.now (search rules) in
    dir_stays c.args.coll.now c.args.coll.now (disk c.args.tree.now).tree (disk c.open.new.tree).tree
    (off_by c.args.set.now n c.name_fits.ensures (touched_file (oid_text c.args.oid.now)) (disk c.args.tree.now) (disk c.open.new.tree) (c.open.ensures.goes (search rules)) (c.requires.ready (search rules)) s0).now
    (c.requires.there (search rules))

pub returns-clause-crash : goal.returns-clause-crash
returns-clause-crash g c = λ t.
    let disk = g.T.FileTree.disk in
    let n = name_at c.args.coll.now c.args.oid.now in
    let s0 = g.met.T.FileTree.sound c.args.tree.now (search rules) in
    crash_by c.args.set.now n c.name_fits.ensures (touched_file (oid_text c.args.oid.now)) (disk c.args.tree.now) (disk c.open.new.tree) (c.open.ensures.goes (search rules))

pub returns-clause-off : goal.returns-clause-off
returns-clause-off g c = λ t.
    let disk = g.T.FileTree.disk in
    let n = name_at c.args.coll.now c.args.oid.now in
    let s0 = g.met.T.FileTree.sound c.args.tree.now (search rules) in
    off_by c.args.set.now n c.name_fits.ensures (touched_file (oid_text c.args.oid.now)) (disk c.args.tree.now) (disk c.open.new.tree) (c.open.ensures.goes (search rules)) (c.requires.ready (search rules)) s0

pub returns-clause-there : goal.returns-clause-there
returns-clause-there g c = λ t.
    let disk = g.T.FileTree.disk in
    let n = name_at c.args.coll.now c.args.oid.now in
    let s0 = g.met.T.FileTree.sound c.args.tree.now (search rules) in
    dir_stays c.args.coll.now c.args.coll.now (disk c.args.tree.now).tree (disk c.open.new.tree).tree
    (off_by c.args.set.now n c.name_fits.ensures (touched_file (oid_text c.args.oid.now)) (disk c.args.tree.now) (disk c.open.new.tree) (c.open.ensures.goes (search rules)) (c.requires.ready (search rules)) s0).now
    (c.requires.there (search rules))

pub returns-clause-done : goal.returns-clause-done
returns-clause-done g c = λ t.
    let disk = g.T.FileTree.disk in
    let n = name_at c.args.coll.now c.args.oid.now in
    let s0 = g.met.T.FileTree.sound c.args.tree.now (search rules) in
    done_by c.args.set.now n c.name_fits.ensures (touched_file (oid_text c.args.oid.now)) (disk c.args.tree.now).tree (disk c.open.new.tree).tree (c.in_ok-_path.ensures.reads (search rules))
