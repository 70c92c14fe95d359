use Rattle.std.proofs.Common.{rules, subst}
use Rattle.std.specs.Option.{option_copied}
use Rattle.index_fault.specs.declared.IndexFault.TheVariants.{Damaged}
use Rattle.lfn_index.proofs.Known.{handed_on}
use Rattle.file_readings.specs.Finding.{IsDirOf}
use Rattle.file_readings.proofs.Shelves.{names_undamaged, page_listed}
use Rattle.file_readings.proofs.listing.list.Goals as goal

pub returns-in_err-files-clause-undamaged : goal.returns-in_err-files-clause-undamaged
returns-in_err-files-clause-undamaged g c = λ t whole clear p is.
    let disk = g.T.FileTree.disk in
    let dir = subst (IsDirOf (disk c.args.tree.now).tree c.args.c.now) c.in-Some.is (c.in_ok-dir.ensures.dir (search rules)) in
    names_undamaged c.args.set.now c.args.c.now c.coll_dir.ensures.fits (disk c.args.tree.now) (disk c.coll_dir.new.tree) (g.met.T.FileTree.sound c.coll_dir.new.tree (search rules)) (c.coll_dir.ensures.still (search rules)).stays
    whole c.in-Some.dir dir.0 p (c.names.ensures.damaged t p
    (handed_on c.names.result c.from_residual-in_err-files.result c.in_err-files.field-0.0 (Damaged p) c.in_err-files.was c.from_residual-in_err-files.ensures.1 is))

pub returns-clause-reads : goal.returns-clause-reads
returns-clause-reads g c = λ t O shows clear.
    let disk = g.T.FileTree.disk in
    let dir = subst (IsDirOf (disk c.args.tree.now).tree c.args.c.now) c.in-Some.is (c.in_ok-dir.ensures.dir (search rules)) in
    page_listed c.args.set.now O c.args.c.now c.coll_dir.ensures.fits (disk c.args.tree.now) (disk c.coll_dir.new.tree) (c.coll_dir.ensures.still (search rules)).stays shows c.in-Some.dir dir.0 dir.1
    c.in_ok-files.files.items (c.in_ok-files.ensures.found t) c.in_ok-oids.oids.keys c.in_ok-oids.ensures.ordered c.in_ok-oids.ensures.members
    (option_copied c.args.from) c.args.max c.in_ok-page_from.field-0 c.in_ok-page_from.ensures
