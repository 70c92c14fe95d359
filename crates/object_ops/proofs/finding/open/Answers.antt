use Rattle.std.proofs.Common.{rules, sym, ◌∙◌, subst}
use Rattle.fs_names.specs.Text.{oid_text}
use Rattle.tree_api.specs.Tree.{Path, IsFile}
use Rattle.index_fault.specs.declared.IndexFault.TheVariants.{Damaged}
use Rattle.lfn_index.specs.Changes.{aside_at, MadeAt}
use Rattle.lfn_index.specs.Directory.{StandsAt, IsBlocked}
use Rattle.lfn_index.specs.Maps.{KeepsLevel, KeepsAttrs}
use Rattle.lfn_index.specs.OneObject.{MapsNew}
use Rattle.lfn_index.proofs.Known.{handed_on}
use Rattle.tree_stands.specs.Files.{touched_file}
use Rattle.tree_stands.specs.Trees.{dir_of, name_at}
use Rattle.tree_stands.proofs.Only.{off_aside}
use Rattle.op_effects.specs.Ready.{Ready}
use Rattle.object_ops.specs.Object.{ReadsBy}
use Rattle.object_ops.proofs.Opening.{held_none, made_goes, made_reads, made_ready, made_stands, made_file}
use Rattle.object_ops.proofs.PlacesKept.{free_still, free_then, free_made}
use Rattle.object_ops.proofs.Undamaged.{unblocked, on_made, on_made3, if_made}
use Rattle.object_ops.proofs.finding.open.Goals as goal

pub returns-in_err-found-clause-undamaged : goal.returns-in_err-found-clause-undamaged
returns-in_err-found-clause-undamaged g c = λ t p damaged.
    let d0 = g.T.FileTree.disk c.args.tree.now in
    let whole = (c.requires.ready (search rules)).whole d0.tree (g.met.T.FileTree.sound c.args.tree.now (search rules)).now c.args.coll.now c.name_fits.ensures.coll in
    unblocked c.args.set.now d0.tree (dir_of c.args.coll.now) c.args.oid.now whole.0 whole.1 p
    (subst (λ (q : Path). IsBlocked d0.tree q (oid_text c.args.oid.now) p) c.in_ok-dir.ensures
    (c.find.ensures.damaged t p (handed_on c.find.result c.from_residual-in_err-found.result c.in_err-found.field-0.0 (Damaged p) c.in_err-found.was c.from_residual-in_err-found.ensures.1 damaged)))

pub make-requires-clause-elsewhere : goal.make-requires-clause-elsewhere
make-requires-clause-elsewhere g c = λ same. off_aside c.args.coll.now c.name_fits.ensures.coll (sym c.in_ok-dir.ensures ∙ same)

pub returns-in_default-clause-goes : goal.returns-in_default-clause-goes
returns-in_default-clause-goes g c = λ t.
    let disk = g.T.FileTree.disk in
    let n = name_at c.args.coll.now c.args.oid.now in
    made_goes c.args.set.now n c.name_fits.ensures c.in_ok-dir.dir c.in_ok-dir.ensures (disk c.args.tree.now) (disk c.find.new.tree) (g.met.T.FileTree.sound c.args.tree.now (search rules)) (g.met.T.FileTree.sound c.find.new.tree (search rules)) (c.find.ensures.still (search rules)).stays
    (c.requires.ready (search rules)) (disk c.make.new.tree) (c.make.ensures.one t)
    (held_none c.args.set.now n c.name_fits.ensures c.in_ok-dir.dir c.in_ok-dir.ensures (disk c.args.tree.now).tree c.in_ok-found.found c.in_default.not-Some (c.in_ok-found.ensures.maps (search rules)))

pub returns-in_default-clause-free : goal.returns-in_default-clause-free
returns-in_default-clause-free g c = λ t.
    let disk = g.T.FileTree.disk in
    let s0 = g.met.T.FileTree.sound c.args.tree.now (search rules) in
    let s1 = g.met.T.FileTree.sound c.find.new.tree (search rules) in
    free_then (disk c.args.tree.now) (disk c.find.new.tree) (disk c.make.new.tree) s1 (free_still (disk c.args.tree.now) (disk c.find.new.tree) s0 (c.find.ensures.still (search rules)).stays)
    (free_made c.args.set.now (aside_at c.args.pos) c.in_ok-dir.dir (oid_text c.args.oid.now) (disk c.find.new.tree) (disk c.make.new.tree) s1 (c.make.ensures.leaves t))

pub returns-in_default-clause-reads : goal.returns-in_default-clause-reads
returns-in_default-clause-reads g c = λ t.
    let disk = g.T.FileTree.disk in
    let n = name_at c.args.coll.now c.args.oid.now in
    on_made (MapsNew c.args.set.now c.in_ok-dir.dir c.args.oid.now (disk c.find.new.tree).tree (disk c.make.new.tree).tree)
    (ReadsBy c.args.set.now n (touched_file (oid_text c.args.oid.now)) (disk c.args.tree.now).tree (disk c.make.new.tree).tree) c.make.result (c.make.ensures.maps t)
    (λ p maps. made_reads c.args.set.now n c.name_fits.ensures c.in_ok-dir.dir c.in_ok-dir.ensures (disk c.args.tree.now) (disk c.find.new.tree) (g.met.T.FileTree.sound c.args.tree.now (search rules)) (g.met.T.FileTree.sound c.find.new.tree (search rules)) (c.find.ensures.still (search rules)).stays
    (c.requires.ready (search rules)) (disk c.make.new.tree) p maps
    (held_none c.args.set.now n c.name_fits.ensures c.in_ok-dir.dir c.in_ok-dir.ensures (disk c.args.tree.now).tree c.in_ok-found.found c.in_default.not-Some (c.in_ok-found.ensures.maps (search rules))))

pub returns-in_default-clause-ready : goal.returns-in_default-clause-ready
returns-in_default-clause-ready g c = λ t.
    let disk = g.T.FileTree.disk in
    let n = name_at c.args.coll.now c.args.oid.now in
    on_made3 (MadeAt c.args.set.now (aside_at c.args.pos) c.in_ok-dir.dir (oid_text c.args.oid.now) (disk c.find.new.tree) (disk c.make.new.tree))
    (KeepsLevel (disk c.find.new.tree) (disk c.make.new.tree)) (KeepsAttrs (disk c.find.new.tree) (disk c.make.new.tree)) (Ready c.args.set.now (disk c.make.new.tree))
    c.make.result (c.make.ensures.made t) (c.make.ensures.level t) (c.make.ensures.attrs t)
    (λ p made level attrs. made_ready c.args.set.now n c.name_fits.ensures c.in_ok-dir.dir c.in_ok-dir.ensures (disk c.args.tree.now) (disk c.find.new.tree) (g.met.T.FileTree.sound c.args.tree.now (search rules)) (g.met.T.FileTree.sound c.find.new.tree (search rules)) (c.find.ensures.still (search rules)).stays
    (c.requires.ready (search rules)) (disk c.make.new.tree) (c.make.ensures.one t) (g.met.T.FileTree.sound c.make.new.tree t) c.args.pos p made level attrs)

pub returns-in_default-clause-stands : goal.returns-in_default-clause-stands
returns-in_default-clause-stands g c = λ t.
    let disk = g.T.FileTree.disk in
    let n = name_at c.args.coll.now c.args.oid.now in
    if_made (MapsNew c.args.set.now c.in_ok-dir.dir c.args.oid.now (disk c.find.new.tree).tree (disk c.make.new.tree).tree)
    (StandsAt c.args.set.now (disk c.make.new.tree).tree (dir_of c.args.coll.now) (oid_text c.args.oid.now)) c.make.result (c.make.ensures.maps t)
    (λ p maps. made_stands c.args.set.now n c.name_fits.ensures c.in_ok-dir.dir c.in_ok-dir.ensures (disk c.args.tree.now) (disk c.find.new.tree) (g.met.T.FileTree.sound c.args.tree.now (search rules)) (g.met.T.FileTree.sound c.find.new.tree (search rules)) (c.find.ensures.still (search rules)).stays
    (c.requires.ready (search rules)) (disk c.make.new.tree) p maps)

pub returns-in_default-clause-file : goal.returns-in_default-clause-file
returns-in_default-clause-file g c = λ t.
    let disk = g.T.FileTree.disk in
    let n = name_at c.args.coll.now c.args.oid.now in
    if_made (MapsNew c.args.set.now c.in_ok-dir.dir c.args.oid.now (disk c.find.new.tree).tree (disk c.make.new.tree).tree)
    (IsFile (disk c.make.new.tree).tree) c.make.result (c.make.ensures.maps t)
    (λ p maps. made_file c.args.set.now n c.name_fits.ensures c.in_ok-dir.dir c.in_ok-dir.ensures (disk c.args.tree.now) (disk c.find.new.tree) (g.met.T.FileTree.sound c.args.tree.now (search rules)) (g.met.T.FileTree.sound c.find.new.tree (search rules)) (c.find.ensures.still (search rules)).stays
    (c.requires.ready (search rules)) (disk c.make.new.tree) p maps)
