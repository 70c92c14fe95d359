use Rattle.std.proofs.Common.{rules, subst, sym, ◌∙◌, ap, IfOk}
use Rattle.std.proofs.lemmas.Result.{IfOk-weaker}
use Rattle.tree_api.specs.Tree.{Path}
use Rattle.coll_ops.specs.Places.{trash_at, Within}
use Rattle.coll_ops.specs.Trash.{PlaceAfter, IsInTheWay}
use Rattle.coll_ops.proofs.Paths.{apart}
use Rattle.coll_ops.proofs.Going.{thrown_drops, thrown_elsewhere, thrown_ready, thrown_others, throws_along, on_ok}
use Rattle.coll_ops.proofs.StaysClear.{thrown_clear}
use Rattle.coll_ops.proofs.Trees.{trees_after}
use Rattle.coll_ops.proofs.dropping.drop_coll.Goals as goal

pub throw_away-requires-clause-apart : goal.throw_away-requires-clause-apart
throw_away-requires-clause-apart g c = λ q one two.
    apart c.args.coll.now c.fits.ensures c.args.pos q (subst (λ (p : Path). Within p q) c.in_ok-path.ensures one) (subst (λ (p : Path). Within p q) c.in_ok-place.ensures two)

pub returns-clause-leaves : goal.returns-clause-leaves
returns-clause-leaves g c = λ t.
    let disk = g.T.FileTree.disk in
    thrown_drops c.args.coll.now c.fits.ensures c.args.pos (disk c.args.tree.now) (disk c.throw_away.new.tree) (g.met.T.FileTree.sound c.args.tree.now (search rules))
    (throws_along c.in_ok-path.path c.in_ok-place.place c.args.coll.now c.args.pos (disk c.args.tree.now) (disk c.throw_away.new.tree) c.in_ok-path.ensures c.in_ok-place.ensures (c.throw_away.ensures.throws (search rules)))

pub returns-clause-off : goal.returns-clause-off
returns-clause-off g c = λ t.
    let disk = g.T.FileTree.disk in
    thrown_elsewhere c.args.coll.now c.fits.ensures c.args.pos (disk c.args.tree.now) (disk c.throw_away.new.tree) (g.met.T.FileTree.sound c.args.tree.now (search rules))
    (throws_along c.in_ok-path.path c.in_ok-place.place c.args.coll.now c.args.pos (disk c.args.tree.now) (disk c.throw_away.new.tree) c.in_ok-path.ensures c.in_ok-place.ensures (c.throw_away.ensures.throws (search rules)))

pub returns-clause-clear : goal.returns-clause-clear
returns-clause-clear g c = λ t.
    let disk = g.T.FileTree.disk in
    thrown_clear c.args.coll.now c.fits.ensures c.args.pos (disk c.args.tree.now) (disk c.throw_away.new.tree) (g.met.T.FileTree.sound c.args.tree.now (search rules))
    (throws_along c.in_ok-path.path c.in_ok-place.place c.args.coll.now c.args.pos (disk c.args.tree.now) (disk c.throw_away.new.tree) c.in_ok-path.ensures c.in_ok-place.ensures (c.throw_away.ensures.throws (search rules)))

pub returns-clause-ready : goal.returns-clause-ready
returns-clause-ready g c = λ t.
    let disk = g.T.FileTree.disk in
    on_ok c.throw_away.result
    (λ gone.
    thrown_ready c.args.coll.now c.fits.ensures c.args.pos (disk c.args.tree.now) (disk c.throw_away.new.tree) (g.met.T.FileTree.sound c.args.tree.now (search rules))
    (throws_along c.in_ok-path.path c.in_ok-place.place c.args.coll.now c.args.pos (disk c.args.tree.now) (disk c.throw_away.new.tree) c.in_ok-path.ensures c.in_ok-place.ensures (c.throw_away.ensures.throws (search rules)))
    (g.met.T.FileTree.sound c.throw_away.new.tree (search rules)) (ap (disk c.throw_away.new.tree).tree.at (sym c.in_ok-path.ensures) ∙ gone))
    (c.throw_away.ensures.gone (search rules))

pub returns-clause-trees : goal.returns-clause-trees
returns-clause-trees g c = λ t n has.
    let disk = g.T.FileTree.disk in
    let old = disk c.args.tree.now in
    let new = disk c.throw_away.new.tree in
    IfOk-weaker c.throw_away.result _ _
    (λ grew place.
    trees_after c.args.coll.now c.args.pos old.tree new.tree n
    (thrown_others c.args.coll.now c.fits.ensures c.args.pos old new (g.met.T.FileTree.sound c.args.tree.now (search rules))
    (throws_along c.in_ok-path.path c.in_ok-place.place c.args.coll.now c.args.pos old new c.in_ok-path.ensures c.in_ok-place.ensures (c.throw_away.ensures.throws (search rules))))
    has grew place)
    (subst (λ (p : Path). IfOk c.throw_away.result (PlaceAfter (old.tree.at p) (new.tree.at p))) c.in_ok-place.ensures (c.throw_away.ensures.place (search rules)))

pub returns-clause-damaged : goal.returns-clause-damaged
returns-clause-damaged g c = λ t q is.
    let tree = (g.T.FileTree.disk c.args.tree.now).tree in
    subst (λ (p : Path). IsInTheWay p (trash_at c.args.pos) tree q) c.in_ok-path.ensures
    (subst (λ (p : Path). IsInTheWay c.in_ok-path.path p tree q) c.in_ok-place.ensures (c.throw_away.ensures.damaged (search rules) q is))
