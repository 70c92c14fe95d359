-- The two operations on collections, and what is left to those on objects.
use Rattle.std.proofs.Common.{rules}
use Rattle.tree_places.proofs.Own.{own_law}
use Rattle.apply_ops.proofs.Rows.{edits_of}
use Rattle.apply_ops.proofs.Going.{guard_there, then_ok}
use Rattle.apply_ops.proofs.Sites.{current_there, made_elsewhere, dropped_elsewhere, never_file, never_blocked}
use Rattle.apply_ops.proofs.Stores.{made_store, dropped_store}
use Rattle.apply_ops.proofs.Colls.{make_keeps, make_done, drop_keeps, drop_done}
use Rattle.apply_ops.proofs.applying.apply.Goals as goal

pub make_coll-requires : goal.make_coll-requires
make_coll-requires g c = record { current = λ tells. current_there (g.T.FileTree.disk c.args.tree.now) (g.met.T.FileTree.sound c.args.tree.now tells) (c.requires.ready tells).ready.dir }

pub edit-requires-clause-edits : goal.edit-requires-clause-edits
edit-requires-clause-edits g c = edits_of c.args.op.now c.in-Touch.is

pub returns-in-MkColl-clause-keeps : goal.returns-in-MkColl-clause-keeps
returns-in-MkColl-clause-keeps g c = λ tells s next.
    let old = c.args.tree.now in
    let new = c.make_coll.new.tree in
    make_keeps c.args.set.now s c.args.op.now c.in-MkColl.c c.fits.ensures (g.T.FileTree.disk old) (g.T.FileTree.disk new) (g.met.T.FileTree.sound old (c.make_coll.ensures.told tells)) (g.met.T.FileTree.sound new tells) next
    c.in-MkColl.is (c.make_coll.ensures.leaves tells c.args.set.now) (c.make_coll.ensures.off tells) (c.make_coll.ensures.clear tells)

pub returns-in-MkColl-clause-done : goal.returns-in-MkColl-clause-done
returns-in-MkColl-clause-done g c = λ tells s next.
    let old = c.args.tree.now in
    let new = c.make_coll.new.tree in
    let sound = g.met.T.FileTree.sound new tells in
    then_ok c.make_coll.result (λ there. make_done c.args.set.now s c.args.op.now c.in-MkColl.c c.fits.ensures (g.T.FileTree.disk old) (g.T.FileTree.disk new) (g.met.T.FileTree.sound old (c.make_coll.ensures.told tells)) sound next
    c.in-MkColl.is (c.make_coll.ensures.leaves tells c.args.set.now) (c.make_coll.ensures.off tells) (c.make_coll.ensures.clear tells) (guard_there (g.T.FileTree.disk new).tree c.in-MkColl.c (there (g.T.FileTree.disk new).tree sound.now)))
    (c.make_coll.ensures.done tells)

pub returns-in-MkColl-clause-ready : goal.returns-in-MkColl-clause-ready
returns-in-MkColl-clause-ready g c = λ tells.
    let was = c.requires.ready (c.make_coll.ensures.told tells) in
    then_ok c.make_coll.result (λ keeps. record {
      ready = keeps c.args.set.now was.ready;
      own = own_law.keeps (g.T.FileTree.disk c.args.tree.now).tree (g.T.FileTree.disk c.make_coll.new.tree).tree (made_elsewhere c.in-MkColl.c c.fits.ensures _ _ (c.make_coll.ensures.clear tells).now (c.make_coll.ensures.off tells).now) was.own;
    })
    (c.make_coll.ensures.ready tells)

pub returns-in_err-_grew-in-RmColl-clause-keeps : goal.returns-in_err-_grew-in-RmColl-clause-keeps
returns-in_err-_grew-in-RmColl-clause-keeps g c = λ tells s next.
    let old = c.args.tree.now in
    let new = c.drop_coll.new.tree in
    drop_keeps c.args.set.now s c.args.op.now c.in-RmColl.c c.fits-in-RmColl.ensures (g.T.FileTree.disk old) (g.T.FileTree.disk new) (g.met.T.FileTree.sound old (c.drop_coll.ensures.told tells)) (g.met.T.FileTree.sound new tells) next
    c.args.pos c.in-RmColl.is (c.drop_coll.ensures.leaves tells c.args.set.now) (c.drop_coll.ensures.off tells) (c.drop_coll.ensures.clear tells)

pub returns-in_ok-_grew-in-RmColl-clause-keeps : goal.returns-in_ok-_grew-in-RmColl-clause-keeps
returns-in_ok-_grew-in-RmColl-clause-keeps g c = λ tells s next.
    let old = c.args.tree.now in
    let new = c.drop_coll.new.tree in
    drop_keeps c.args.set.now s c.args.op.now c.in-RmColl.c c.fits-in-RmColl.ensures (g.T.FileTree.disk old) (g.T.FileTree.disk new) (g.met.T.FileTree.sound old (c.drop_coll.ensures.told tells)) (g.met.T.FileTree.sound new tells) next
    c.args.pos c.in-RmColl.is (c.drop_coll.ensures.leaves tells c.args.set.now) (c.drop_coll.ensures.off tells) (c.drop_coll.ensures.clear tells)

pub returns-in_ok-_grew-in-RmColl-clause-done : goal.returns-in_ok-_grew-in-RmColl-clause-done
returns-in_ok-_grew-in-RmColl-clause-done g c = λ tells s next.
    let old = c.args.tree.now in
    let new = c.drop_coll.new.tree in
    drop_done c.args.set.now s c.args.op.now c.in-RmColl.c c.fits-in-RmColl.ensures (g.T.FileTree.disk old) (g.T.FileTree.disk new) (g.met.T.FileTree.sound old (c.drop_coll.ensures.told tells)) (g.met.T.FileTree.sound new tells) next
    c.args.pos c.in-RmColl.is (c.drop_coll.ensures.leaves tells c.args.set.now) (c.drop_coll.ensures.off tells) (c.drop_coll.ensures.clear tells) (c.in_ok-_grew-in-RmColl.ensures.done tells)

pub returns-in_ok-_grew-in-RmColl-clause-ready : goal.returns-in_ok-_grew-in-RmColl-clause-ready
returns-in_ok-_grew-in-RmColl-clause-ready g c = λ tells.
    let was = c.requires.ready (c.drop_coll.ensures.told tells) in
    record {
      ready = c.in_ok-_grew-in-RmColl.ensures.ready tells c.args.set.now was.ready;
      own = own_law.keeps (g.T.FileTree.disk c.args.tree.now).tree (g.T.FileTree.disk c.drop_coll.new.tree).tree (dropped_elsewhere c.in-RmColl.c c.fits-in-RmColl.ensures c.args.pos _ _ (c.drop_coll.ensures.clear tells).now (c.drop_coll.ensures.off tells).now) was.own;
    }

pub returns-in-MkColl-clause-undamaged : goal.returns-in-MkColl-clause-undamaged
returns-in-MkColl-clause-undamaged g c = λ tells p e.
    let was = c.requires.ready (c.make_coll.ensures.told tells) in
    never_file (g.T.FileTree.disk c.args.tree.now).tree was.own.clear c.in-MkColl.c c.fits.ensures p (c.make_coll.ensures.damaged tells p e)

pub returns-in_err-_grew-in-RmColl-clause-undamaged : goal.returns-in_err-_grew-in-RmColl-clause-undamaged
returns-in_err-_grew-in-RmColl-clause-undamaged g c = λ tells p e.
    let was = c.requires.ready (c.drop_coll.ensures.told tells) in
    never_blocked (g.T.FileTree.disk c.args.tree.now).tree was.own.clear c.in-RmColl.c c.fits-in-RmColl.ensures c.args.pos p (c.drop_coll.ensures.damaged tells p (search (rules, e)))

pub returns-in-MkColl-clause-stores : goal.returns-in-MkColl-clause-stores
returns-in-MkColl-clause-stores g c = λ tells.
    made_store c.in-MkColl.c c.fits.ensures (g.T.FileTree.disk c.args.tree.now) (g.T.FileTree.disk c.make_coll.new.tree) (c.make_coll.ensures.off tells)

pub returns-in_err-_grew-in-RmColl-clause-stores : goal.returns-in_err-_grew-in-RmColl-clause-stores
returns-in_err-_grew-in-RmColl-clause-stores g c = λ tells.
    dropped_store c.in-RmColl.c c.fits-in-RmColl.ensures c.args.pos (g.T.FileTree.disk c.args.tree.now) (g.T.FileTree.disk c.drop_coll.new.tree) (c.drop_coll.ensures.off tells)

pub returns-in_ok-_grew-in-RmColl-clause-stores : goal.returns-in_ok-_grew-in-RmColl-clause-stores
returns-in_ok-_grew-in-RmColl-clause-stores g c = λ tells.
    dropped_store c.in-RmColl.c c.fits-in-RmColl.ensures c.args.pos (g.T.FileTree.disk c.args.tree.now) (g.T.FileTree.disk c.drop_coll.new.tree) (c.drop_coll.ensures.off tells)
