use Rattle.std.proofs.Common.{rules, ◌≡◌, subst}
use Rattle.fs_names.specs.Text.{oid_text}
use Rattle.tree_api.specs.Tree.{Path}
use Rattle.index_fault.specs.declared.IndexFault.TheVariants.{Damaged}
use Rattle.lfn_index.specs.Directory.{Finds, IsBlocked}
use Rattle.lfn_index.proofs.Known.{handed_on}
use Rattle.tree_stands.specs.Files.{no_file}
use Rattle.tree_stands.specs.Trees.{name_at, dir_of, ForObject}
use Rattle.op_effects.specs.Ready.{Ready}
use Rattle.object_ops.proofs.Goes.{crash_by, off_by, done_by}
use Rattle.object_ops.proofs.Opening.{found_stands, gone_goes, gone_reads, gone_ready}
use Rattle.object_ops.proofs.PlacesKept.{free_still, free_then, free_gone}
use Rattle.object_ops.proofs.Standing.{dir_stays}
use Rattle.object_ops.proofs.Undamaged.{unblocked, when_done, on_ok_is}
use Rattle.object_ops.proofs.removal.remove.Goals as goal

pub returns-in_err-found-clause-undamaged : goal.returns-in_err-found-clause-undamaged
returns-in_err-found-clause-undamaged g c = λ t p damaged.
    let d0 = g.T.FileTree.disk c.args.tree.now in
    let whole = (c.requires.ready (search rules)).whole d0.tree (g.met.T.FileTree.sound c.args.tree.now (search rules)).now c.args.coll.now c.name_fits.ensures.coll in
    unblocked c.args.set.now d0.tree (dir_of c.args.coll.now) c.args.oid.now whole.0 whole.1 p
    (subst (λ (q : Path). IsBlocked d0.tree q (oid_text c.args.oid.now) p) c.in_ok-dir.ensures
    (c.find.ensures.damaged t p (handed_on c.find.result c.from_residual-in_err-found.result c.in_err-found.field-0.0 (Damaged p) c.in_err-found.was c.from_residual-in_err-found.ensures.1 damaged)))

pub returns-clause-crash : goal.returns-clause-crash
returns-clause-crash g c = λ t.
    let disk = g.T.FileTree.disk in
    let n = name_at c.args.coll.now c.args.oid.now in
    let d0 = disk c.args.tree.now in
    let d1 = disk c.find.new.tree in
    let d2 = disk c.unlink.new.tree in
    let s0 = g.met.T.FileTree.sound c.args.tree.now (search rules) in
    let s1 = g.met.T.FileTree.sound c.find.new.tree (search rules) in
    let stays = (c.find.ensures.still (search rules)).stays in
    let stands = found_stands c.args.set.now n c.name_fits.ensures c.in_ok-dir.dir c.in_ok-dir.ensures d0 d1 s0 s1 stays c.in-Some.path
    (subst (Finds c.args.set.now d0.tree c.in_ok-dir.dir (oid_text c.args.oid.now)) c.in-Some.is (c.in_ok-found.ensures.found (search rules))) in
    let one = c.unlink.ensures.one t c.args.set.now (dir_of c.args.coll.now) c.args.oid.now stands.0 stands.1 stands.2 (c.name_fits.ensures.oid, stands.3) in
    crash_by c.args.set.now n c.name_fits.ensures no_file d0 d2 (gone_goes c.args.set.now n c.name_fits.ensures c.in_ok-dir.dir c.in_ok-dir.ensures d0 d1 s0 s1 stays (c.requires.ready (search rules)) d2 one)

pub returns-clause-off : goal.returns-clause-off
returns-clause-off g c = λ t.
    let disk = g.T.FileTree.disk in
    let n = name_at c.args.coll.now c.args.oid.now in
    let d0 = disk c.args.tree.now in
    let d1 = disk c.find.new.tree in
    let d2 = disk c.unlink.new.tree in
    let s0 = g.met.T.FileTree.sound c.args.tree.now (search rules) in
    let s1 = g.met.T.FileTree.sound c.find.new.tree (search rules) in
    let stays = (c.find.ensures.still (search rules)).stays in
    let stands = found_stands c.args.set.now n c.name_fits.ensures c.in_ok-dir.dir c.in_ok-dir.ensures d0 d1 s0 s1 stays c.in-Some.path
    (subst (Finds c.args.set.now d0.tree c.in_ok-dir.dir (oid_text c.args.oid.now)) c.in-Some.is (c.in_ok-found.ensures.found (search rules))) in
    let one = c.unlink.ensures.one t c.args.set.now (dir_of c.args.coll.now) c.args.oid.now stands.0 stands.1 stands.2 (c.name_fits.ensures.oid, stands.3) in
    off_by c.args.set.now n c.name_fits.ensures no_file d0 d2 (gone_goes c.args.set.now n c.name_fits.ensures c.in_ok-dir.dir c.in_ok-dir.ensures d0 d1 s0 s1 stays (c.requires.ready (search rules)) d2 one) (c.requires.ready (search rules)) s0

pub returns-clause-free : goal.returns-clause-free
returns-clause-free g c = λ t.
    let disk = g.T.FileTree.disk in
    let s0 = g.met.T.FileTree.sound c.args.tree.now (search rules) in
    let s1 = g.met.T.FileTree.sound c.find.new.tree (search rules) in
    free_then (disk c.args.tree.now) (disk c.find.new.tree) (disk c.unlink.new.tree) s1 (free_still (disk c.args.tree.now) (disk c.find.new.tree) s0 (c.find.ensures.still (search rules)).stays)
    (free_gone c.in-Some.path (disk c.find.new.tree) (disk c.unlink.new.tree) s1 (c.unlink.ensures.leaves t))

pub returns-clause-there : goal.returns-clause-there
returns-clause-there g c = λ t.
    let disk = g.T.FileTree.disk in
    let n = name_at c.args.coll.now c.args.oid.now in
    let d0 = disk c.args.tree.now in
    let d1 = disk c.find.new.tree in
    let d2 = disk c.unlink.new.tree in
    let s0 = g.met.T.FileTree.sound c.args.tree.now (search rules) in
    let s1 = g.met.T.FileTree.sound c.find.new.tree (search rules) in
    let stays = (c.find.ensures.still (search rules)).stays in
    let stands = found_stands c.args.set.now n c.name_fits.ensures c.in_ok-dir.dir c.in_ok-dir.ensures d0 d1 s0 s1 stays c.in-Some.path
    (subst (Finds c.args.set.now d0.tree c.in_ok-dir.dir (oid_text c.args.oid.now)) c.in-Some.is (c.in_ok-found.ensures.found (search rules))) in
    let one = c.unlink.ensures.one t c.args.set.now (dir_of c.args.coll.now) c.args.oid.now stands.0 stands.1 stands.2 (c.name_fits.ensures.oid, stands.3) in
    dir_stays c.args.coll.now c.args.coll.now d0.tree d2.tree
    (off_by c.args.set.now n c.name_fits.ensures no_file d0 d2 (gone_goes c.args.set.now n c.name_fits.ensures c.in_ok-dir.dir c.in_ok-dir.ensures d0 d1 s0 s1 stays (c.requires.ready (search rules)) d2 one) (c.requires.ready (search rules)) s0).now
    (c.requires.there (search rules))

pub returns-clause-done : goal.returns-clause-done
returns-clause-done g c = λ t.
    let disk = g.T.FileTree.disk in
    let n = name_at c.args.coll.now c.args.oid.now in
    let d0 = disk c.args.tree.now in
    let d1 = disk c.find.new.tree in
    let d2 = disk c.unlink.new.tree in
    let s0 = g.met.T.FileTree.sound c.args.tree.now (search rules) in
    let s1 = g.met.T.FileTree.sound c.find.new.tree (search rules) in
    let stays = (c.find.ensures.still (search rules)).stays in
    let stands = found_stands c.args.set.now n c.name_fits.ensures c.in_ok-dir.dir c.in_ok-dir.ensures d0 d1 s0 s1 stays c.in-Some.path
    (subst (Finds c.args.set.now d0.tree c.in_ok-dir.dir (oid_text c.args.oid.now)) c.in-Some.is (c.in_ok-found.ensures.found (search rules))) in
    let one = c.unlink.ensures.one t c.args.set.now (dir_of c.args.coll.now) c.args.oid.now stands.0 stands.1 stands.2 (c.name_fits.ensures.oid, stands.3) in
    on_ok_is _ (ForObject c.args.set.now n (λ x y. y ≡ no_file x) d0.tree d2.tree) c.unlink.result (c.unlink.ensures.reads t) (λ reads.
    done_by c.args.set.now n c.name_fits.ensures no_file d0.tree d2.tree (gone_reads c.args.set.now n c.name_fits.ensures c.in_ok-dir.dir c.in_ok-dir.ensures d0 d1 s0 s1 stays (c.requires.ready (search rules)) d2 (reads c.args.set.now (dir_of c.args.coll.now) c.args.oid.now stands.0 stands.1 stands.2 (c.name_fits.ensures.oid, stands.3))))

pub returns-clause-ready : goal.returns-clause-ready
returns-clause-ready g c = λ t.
    let disk = g.T.FileTree.disk in
    let n = name_at c.args.coll.now c.args.oid.now in
    let d0 = disk c.args.tree.now in
    let d1 = disk c.find.new.tree in
    let d2 = disk c.unlink.new.tree in
    let s0 = g.met.T.FileTree.sound c.args.tree.now (search rules) in
    let s1 = g.met.T.FileTree.sound c.find.new.tree (search rules) in
    let stays = (c.find.ensures.still (search rules)).stays in
    let stands = found_stands c.args.set.now n c.name_fits.ensures c.in_ok-dir.dir c.in_ok-dir.ensures d0 d1 s0 s1 stays c.in-Some.path
    (subst (Finds c.args.set.now d0.tree c.in_ok-dir.dir (oid_text c.args.oid.now)) c.in-Some.is (c.in_ok-found.ensures.found (search rules))) in
    let one = c.unlink.ensures.one t c.args.set.now (dir_of c.args.coll.now) c.args.oid.now stands.0 stands.1 stands.2 (c.name_fits.ensures.oid, stands.3) in
    when_done (Ready c.args.set.now d2) c.unlink.result (λ done.
    gone_ready c.args.set.now n c.name_fits.ensures c.in_ok-dir.dir c.in_ok-dir.ensures d0 d1 s0 s1 stays (c.requires.ready (search rules)) d2 (g.met.T.FileTree.sound c.unlink.new.tree t) c.in-Some.path stands (c.unlink.ensures.leaves t) one (c.unlink.ensures.level t) (c.unlink.ensures.attrs t))
