use Rattle.std.proofs.Common.{rules, subst}
use Rattle.file_readings.specs.Finding.{IsDirOf}
use Rattle.file_readings.proofs.Found.{path_there, not_blocked}
use Rattle.file_readings.proofs.finding.find_file.Goals as goal

pub returns-clause-path : goal.returns-clause-path
returns-clause-path g c = λ t O shows.
    let disk = g.T.FileTree.disk in
    let dir = subst (IsDirOf (disk c.args.tree.now).tree c.args.coll.now) c.in-Some.is (c.in_ok-dir.ensures.dir (search rules)) in
    path_there c.args.set.now O c.args.coll.now c.args.oid.now c.coll_dir.ensures.fits c.fits.ensures (disk c.args.tree.now) (disk c.coll_dir.new.tree) (disk c.find.new.tree)
    (c.coll_dir.ensures.still (search rules)).stays (c.find.ensures.still (search rules)).stays shows c.in-Some.dir dir.0 c.find.result (c.find.ensures.maps t)

pub returns-clause-undamaged : goal.returns-clause-undamaged
returns-clause-undamaged g c = λ t whole clear p is.
    let disk = g.T.FileTree.disk in
    let dir = subst (IsDirOf (disk c.args.tree.now).tree c.args.coll.now) c.in-Some.is (c.in_ok-dir.ensures.dir (search rules)) in
    not_blocked c.args.set.now c.args.coll.now c.args.oid.now c.coll_dir.ensures.fits (disk c.args.tree.now) (disk c.coll_dir.new.tree) (c.coll_dir.ensures.still (search rules)).stays
    whole c.in-Some.dir dir.0 p (c.find.ensures.damaged t p is)
