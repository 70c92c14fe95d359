use Rattle.std.proofs.Common.{rules, subst}
use Rattle.tree_api.specs.Tree.{Path}
use Rattle.coll_ops.specs.Changes.{AddsDir}
use Rattle.coll_ops.proofs.Coming.{adds_makes, adds_elsewhere, adds_ready}
use Rattle.coll_ops.proofs.StaysClear.{adds_clear}
use Rattle.coll_ops.proofs.making.make_coll.Goals as goal

pub returns-in_err-settle_dir-clause-leaves : goal.returns-in_err-settle_dir-clause-leaves
returns-in_err-settle_dir-clause-leaves g c = λ t.
    let disk = g.T.FileTree.disk in
    adds_makes c.args.coll.now c.fits.ensures (disk c.args.tree.now) (disk c.settle_dir.new.tree) (g.met.T.FileTree.sound c.args.tree.now (search rules))
    (subst (λ (p : Path). AddsDir p (disk c.args.tree.now) (disk c.settle_dir.new.tree)) c.in_ok-path.ensures (c.settle_dir.ensures.adds (search rules)))

pub returns-in_err-settle_dir-clause-off : goal.returns-in_err-settle_dir-clause-off
returns-in_err-settle_dir-clause-off g c = λ t.
    let disk = g.T.FileTree.disk in
    adds_elsewhere c.args.coll.now c.fits.ensures (disk c.args.tree.now) (disk c.settle_dir.new.tree) (g.met.T.FileTree.sound c.args.tree.now (search rules))
    (subst (λ (p : Path). AddsDir p (disk c.args.tree.now) (disk c.settle_dir.new.tree)) c.in_ok-path.ensures (c.settle_dir.ensures.adds (search rules)))

pub returns-in_err-settle_dir-clause-clear : goal.returns-in_err-settle_dir-clause-clear
returns-in_err-settle_dir-clause-clear g c = λ t.
    let disk = g.T.FileTree.disk in
    adds_clear c.args.coll.now c.fits.ensures (disk c.args.tree.now) (disk c.settle_dir.new.tree) (g.met.T.FileTree.sound c.args.tree.now (search rules))
    (subst (λ (p : Path). AddsDir p (disk c.args.tree.now) (disk c.settle_dir.new.tree)) c.in_ok-path.ensures (c.settle_dir.ensures.adds (search rules)))

pub returns-clause-leaves : goal.returns-clause-leaves
returns-clause-leaves g c = λ t.
    let disk = g.T.FileTree.disk in
    adds_makes c.args.coll.now c.fits.ensures (disk c.args.tree.now) (disk c.settle_dir.new.tree) (g.met.T.FileTree.sound c.args.tree.now (search rules))
    (subst (λ (p : Path). AddsDir p (disk c.args.tree.now) (disk c.settle_dir.new.tree)) c.in_ok-path.ensures (c.settle_dir.ensures.adds (search rules)))

pub returns-clause-off : goal.returns-clause-off
returns-clause-off g c = λ t.
    let disk = g.T.FileTree.disk in
    adds_elsewhere c.args.coll.now c.fits.ensures (disk c.args.tree.now) (disk c.settle_dir.new.tree) (g.met.T.FileTree.sound c.args.tree.now (search rules))
    (subst (λ (p : Path). AddsDir p (disk c.args.tree.now) (disk c.settle_dir.new.tree)) c.in_ok-path.ensures (c.settle_dir.ensures.adds (search rules)))

pub returns-clause-clear : goal.returns-clause-clear
returns-clause-clear g c = λ t.
    let disk = g.T.FileTree.disk in
    adds_clear c.args.coll.now c.fits.ensures (disk c.args.tree.now) (disk c.settle_dir.new.tree) (g.met.T.FileTree.sound c.args.tree.now (search rules))
    (subst (λ (p : Path). AddsDir p (disk c.args.tree.now) (disk c.settle_dir.new.tree)) c.in_ok-path.ensures (c.settle_dir.ensures.adds (search rules)))

pub returns-clause-ready : goal.returns-clause-ready
returns-clause-ready g c = λ t.
    let disk = g.T.FileTree.disk in
    adds_ready c.args.coll.now c.fits.ensures (disk c.args.tree.now) (disk c.settle_dir.new.tree) (g.met.T.FileTree.sound c.args.tree.now (search rules)) (g.met.T.FileTree.sound c.settle_dir.new.tree (search rules))
    (c.in_ok-settle_dir.ensures.stable (search rules))
    (subst (λ (p : Path). AddsDir p (disk c.args.tree.now) (disk c.settle_dir.new.tree)) c.in_ok-path.ensures (c.settle_dir.ensures.adds (search rules)))
