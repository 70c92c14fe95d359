use Rattle.std.proofs.Common.{rules, ◌≡◌, IsOk}
use Rattle.fs_names.specs.Text.{oid_text}
use Rattle.tree_stands.specs.Files.{with_bytes}
use Rattle.tree_api.specs.Tree.{Written, written}
use Rattle.object_ops.proofs.Changes.{bytes_inside}
use Rattle.tree_stands.specs.Trees.{name_at, ForObject}
use Rattle.op_effects.specs.Ready.{Ready}
use Rattle.object_ops.proofs.Passes.{changed, part_crash, part_off, op_crash, op_off, op_done, op_ready}
use Rattle.object_ops.proofs.PlacesKept.{free_then, free_goes}
use Rattle.object_ops.proofs.Standing.{dir_stays}
use Rattle.object_ops.proofs.Undamaged.{when_done}
use Rattle.object_ops.proofs.bytes.write.Goals as goal

pub returns-in_err-path-clause-crash : goal.returns-in_err-path-clause-crash
returns-in_err-path-clause-crash g c = λ t.
    let disk = g.T.FileTree.disk in
    let n = name_at c.args.coll.now c.args.oid.now in
    let s0 = g.met.T.FileTree.sound c.args.tree.now (search rules) in
    part_crash c.args.set.now n c.name_fits.ensures (with_bytes (λ old. written old c.args.at c.args.bytes.now)) (bytes_inside (λ old. written old c.args.at c.args.bytes.now)) (disk c.args.tree.now) (disk c.open.new.tree) (c.open.ensures.goes (search rules))

pub returns-in_err-path-clause-off : goal.returns-in_err-path-clause-off
returns-in_err-path-clause-off g c = λ t.
    let disk = g.T.FileTree.disk in
    let n = name_at c.args.coll.now c.args.oid.now in
    let s0 = g.met.T.FileTree.sound c.args.tree.now (search rules) in
    part_off c.args.set.now n c.name_fits.ensures (with_bytes (λ old. written old c.args.at c.args.bytes.now)) (bytes_inside (λ old. written old c.args.at c.args.bytes.now)) (disk c.args.tree.now) (disk c.open.new.tree) (c.open.ensures.goes (search rules)) (c.requires.ready (search rules)) s0

pub returns-in_err-path-clause-there : goal.returns-in_err-path-clause-there
returns-in_err-path-clause-there g c = λ t.
    let disk = g.T.FileTree.disk in
    let n = name_at c.args.coll.now c.args.oid.now in
    let s0 = g.met.T.FileTree.sound c.args.tree.now (search rules) in
    dir_stays c.args.coll.now c.args.coll.now (disk c.args.tree.now).tree (disk c.open.new.tree).tree
    (part_off c.args.set.now n c.name_fits.ensures (with_bytes (λ old. written old c.args.at c.args.bytes.now)) (bytes_inside (λ old. written old c.args.at c.args.bytes.now)) (disk c.args.tree.now) (disk c.open.new.tree) (c.open.ensures.goes (search rules)) (c.requires.ready (search rules)) s0).now
    (c.requires.there (search rules))

pub returns-clause-crash : goal.returns-clause-crash
returns-clause-crash g c = λ t.
    let disk = g.T.FileTree.disk in
    let n = name_at c.args.coll.now c.args.oid.now in
    let s0 = g.met.T.FileTree.sound c.args.tree.now (search rules) in
    op_crash c.args.set.now n c.name_fits.ensures (with_bytes (λ old. written old c.args.at c.args.bytes.now)) (bytes_inside (λ old. written old c.args.at c.args.bytes.now)) (disk c.open.new.tree) (disk c.write.new.tree) (g.met.T.FileTree.sound c.open.new.tree (search rules)) (g.met.T.FileTree.sound c.write.new.tree (search rules)) (c.in_ok-path.ensures.ready (search rules)) c.in_ok-path.path (c.in_ok-path.ensures.stands (search rules)) (IsOk c.write.result) (c.write.ensures.goes (search rules))
    (disk c.args.tree.now) s0 (c.requires.ready (search rules)) (c.open.ensures.goes (search rules)) (c.in_ok-path.ensures.reads (search rules))

pub returns-clause-off : goal.returns-clause-off
returns-clause-off g c = λ t.
    let disk = g.T.FileTree.disk in
    let n = name_at c.args.coll.now c.args.oid.now in
    let s0 = g.met.T.FileTree.sound c.args.tree.now (search rules) in
    op_off c.args.set.now n c.name_fits.ensures (with_bytes (λ old. written old c.args.at c.args.bytes.now)) (bytes_inside (λ old. written old c.args.at c.args.bytes.now)) (disk c.open.new.tree) (disk c.write.new.tree) (g.met.T.FileTree.sound c.open.new.tree (search rules)) (g.met.T.FileTree.sound c.write.new.tree (search rules)) (c.in_ok-path.ensures.ready (search rules)) c.in_ok-path.path (c.in_ok-path.ensures.stands (search rules)) (IsOk c.write.result) (c.write.ensures.goes (search rules))
    (disk c.args.tree.now) s0 (c.requires.ready (search rules)) (c.open.ensures.goes (search rules)) (c.in_ok-path.ensures.reads (search rules))

pub returns-clause-free : goal.returns-clause-free
returns-clause-free g c = λ t.
    let disk = g.T.FileTree.disk in
    let s1 = g.met.T.FileTree.sound c.open.new.tree (search rules) in
    free_then (disk c.args.tree.now) (disk c.open.new.tree) (disk c.write.new.tree) s1 (c.open.ensures.free (search rules))
    (free_goes c.in_ok-path.path (Written c.args.at c.args.bytes.now) (disk c.open.new.tree) (disk c.write.new.tree) (IsOk c.write.result) (c.write.ensures.goes (search rules)))

pub returns-clause-there : goal.returns-clause-there
returns-clause-there g c = λ t.
    let disk = g.T.FileTree.disk in
    let n = name_at c.args.coll.now c.args.oid.now in
    let s0 = g.met.T.FileTree.sound c.args.tree.now (search rules) in
    dir_stays c.args.coll.now c.args.coll.now (disk c.args.tree.now).tree (disk c.write.new.tree).tree
    (op_off c.args.set.now n c.name_fits.ensures (with_bytes (λ old. written old c.args.at c.args.bytes.now)) (bytes_inside (λ old. written old c.args.at c.args.bytes.now)) (disk c.open.new.tree) (disk c.write.new.tree) (g.met.T.FileTree.sound c.open.new.tree (search rules)) (g.met.T.FileTree.sound c.write.new.tree (search rules)) (c.in_ok-path.ensures.ready (search rules)) c.in_ok-path.path (c.in_ok-path.ensures.stands (search rules)) (IsOk c.write.result) (c.write.ensures.goes (search rules))
    (disk c.args.tree.now) s0 (c.requires.ready (search rules)) (c.open.ensures.goes (search rules)) (c.in_ok-path.ensures.reads (search rules))).now
    (c.requires.there (search rules))

pub returns-clause-done : goal.returns-clause-done
returns-clause-done g c = λ t.
    let disk = g.T.FileTree.disk in
    let n = name_at c.args.coll.now c.args.oid.now in
    let s0 = g.met.T.FileTree.sound c.args.tree.now (search rules) in
    when_done (ForObject c.args.set.now n (λ x y. y ≡ changed (with_bytes (λ old. written old c.args.at c.args.bytes.now)) (oid_text c.args.oid.now) x) (disk c.args.tree.now).tree (disk c.write.new.tree).tree) c.write.result (λ done.
    op_done c.args.set.now n c.name_fits.ensures (with_bytes (λ old. written old c.args.at c.args.bytes.now)) (bytes_inside (λ old. written old c.args.at c.args.bytes.now)) (disk c.open.new.tree) (disk c.write.new.tree) (g.met.T.FileTree.sound c.open.new.tree (search rules)) (g.met.T.FileTree.sound c.write.new.tree (search rules)) (c.in_ok-path.ensures.ready (search rules)) c.in_ok-path.path (c.in_ok-path.ensures.stands (search rules)) (IsOk c.write.result) (c.write.ensures.goes (search rules))
    (disk c.args.tree.now) s0 (c.requires.ready (search rules)) (c.open.ensures.goes (search rules)) (c.in_ok-path.ensures.reads (search rules)) done)

pub returns-clause-ready : goal.returns-clause-ready
returns-clause-ready g c = λ t.
    let disk = g.T.FileTree.disk in
    let n = name_at c.args.coll.now c.args.oid.now in
    let s0 = g.met.T.FileTree.sound c.args.tree.now (search rules) in
    when_done (Ready c.args.set.now (disk c.write.new.tree)) c.write.result (λ done. op_ready c.args.set.now n c.name_fits.ensures (with_bytes (λ old. written old c.args.at c.args.bytes.now)) (bytes_inside (λ old. written old c.args.at c.args.bytes.now)) (disk c.open.new.tree) (disk c.write.new.tree) (g.met.T.FileTree.sound c.open.new.tree (search rules)) (g.met.T.FileTree.sound c.write.new.tree (search rules)) (c.in_ok-path.ensures.ready (search rules)) c.in_ok-path.path (c.in_ok-path.ensures.stands (search rules)) (IsOk c.write.result) (c.write.ensures.goes (search rules)))
