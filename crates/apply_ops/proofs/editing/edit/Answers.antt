-- Behind the look at the collection, and where it isn't there.
use Rattle.std.proofs.Common.{rules, ◌≡◌, sym, subst, None}
use Rattle.fs_names.specs.declared.coll.Coll.{Coll}
use Rattle.tree_api.specs.Tree.{Tree, Path, IsDir, IsFile}
use Rattle.tree_api.specs.Disk.{Disk, Stays}
use Rattle.tree_stands.specs.Names.{Name}
use Rattle.tree_stands.specs.Trees.{dir_of}
use Rattle.object_ops.proofs.Standing.{ready_stays}
use Rattle.apply_ops.proofs.Rows.{named_coll}
use Rattle.apply_ops.proofs.Going.{then_ok, left_out, edit_keeps, edit_done, all_stays, all_edited}
use Rattle.apply_ops.proofs.Sites.{never_file}
use Rattle.apply_ops.proofs.Stores.{same_store, edited_store}
use Rattle.apply_ops.proofs.editing.edit.Goals as goal

-- what stood at the collection's path stands there still
stood : (old mid : Disk) → Stays old mid → (P : Tree → Path → Type 0) → (c : Coll) (n : Name) → c ≡ n.coll → P old.tree (dir_of c) → P mid.tree (dir_of n.coll)
stood old mid stays P c n same was = subst (λ (t : Tree). P t (dir_of n.coll)) (sym stays.tree) (subst (λ (d : Coll). P old.tree (dir_of d)) same was)

pub returns-then-not-branch-clause-done : goal.returns-then-not-branch-clause-done
returns-then-not-branch-clause-done g c = λ tells s next.
    let n = c.requires.edits.0 in
    let is = c.requires.edits.1 in
    let d0 = g.T.FileTree.disk c.args.tree.now in
    let d1 = g.T.FileTree.disk c.is_there.new.tree in
    let stays = (c.is_there.ensures.still tells).stays in
    left_out c.args.set.now s c.args.op.now d0 d1 stays next n is (g.met.T.FileTree.sound c.is_there.new.tree tells)
    (stood d0 d1 stays (λ t p. t.at p ≡ None) _ n (named_coll c.args.op.now n is c.colls-coll.result c.colls-coll.ensures) (c.in_ok-is_there.ensures.missing tells (search rules)))

pub returns-clause-keeps : goal.returns-clause-keeps
returns-clause-keeps g c = λ tells s next.
    let n = c.requires.edits.0 in
    let is = c.requires.edits.1 in
    let d0 = g.T.FileTree.disk c.args.tree.now in
    let d1 = g.T.FileTree.disk c.is_there.new.tree in
    let d2 = g.T.FileTree.disk c.edit_object.new.tree in
    let told = c.edit_object.ensures.told tells in
    let stays = (c.is_there.ensures.still told).stays in
    edit_keeps c.args.set.now s c.args.op.now d0 d1 stays next n is (g.met.T.FileTree.sound c.is_there.new.tree told) (c.name_fits.ensures n is)
    (stood d0 d1 stays IsDir _ n (named_coll c.args.op.now n is c.colls-coll.result c.colls-coll.ensures) (c.in_ok-is_there.ensures.there told (search rules)))
    (ready_stays d0 d1 stays c.args.set.now (c.requires.ready (c.is_there.ensures.told told)).ready)
    d2 (g.met.T.FileTree.sound c.edit_object.new.tree tells) (c.edit_object.ensures.crash tells n is) (c.edit_object.ensures.off tells n is) (c.edit_object.ensures.free tells)

pub returns-clause-done : goal.returns-clause-done
returns-clause-done g c = λ tells s next.
    let n = c.requires.edits.0 in
    let is = c.requires.edits.1 in
    let d0 = g.T.FileTree.disk c.args.tree.now in
    let d1 = g.T.FileTree.disk c.is_there.new.tree in
    let d2 = g.T.FileTree.disk c.edit_object.new.tree in
    let told = c.edit_object.ensures.told tells in
    let stays = (c.is_there.ensures.still told).stays in
    then_ok c.edit_object.result (edit_done c.args.set.now s c.args.op.now d0 d1 stays next n is (g.met.T.FileTree.sound c.is_there.new.tree told) (c.name_fits.ensures n is)
    (stood d0 d1 stays IsDir _ n (named_coll c.args.op.now n is c.colls-coll.result c.colls-coll.ensures) (c.in_ok-is_there.ensures.there told (search rules)))
    (ready_stays d0 d1 stays c.args.set.now (c.requires.ready (c.is_there.ensures.told told)).ready)
    d2 (g.met.T.FileTree.sound c.edit_object.new.tree tells) (c.edit_object.ensures.crash tells n is) (c.edit_object.ensures.off tells n is) (c.edit_object.ensures.free tells))
    (c.edit_object.ensures.done tells n is)

pub edit_object-requires-clause-ready : goal.edit_object-requires-clause-ready
edit_object-requires-clause-ready g c = λ told.
    ready_stays (g.T.FileTree.disk c.args.tree.now) (g.T.FileTree.disk c.is_there.new.tree) (c.is_there.ensures.still told).stays c.args.set.now (c.requires.ready (c.is_there.ensures.told told)).ready

pub returns-then-not-branch-clause-ready : goal.returns-then-not-branch-clause-ready
returns-then-not-branch-clause-ready g c = λ tells.
    all_stays c.args.set.now (g.T.FileTree.disk c.args.tree.now) (g.T.FileTree.disk c.is_there.new.tree) (c.is_there.ensures.still tells).stays (c.requires.ready (c.is_there.ensures.told tells))

pub returns-clause-ready : goal.returns-clause-ready
returns-clause-ready g c = λ tells.
    let n = c.requires.edits.0 in
    let is = c.requires.edits.1 in
    let told = c.edit_object.ensures.told tells in
    let d0 = g.T.FileTree.disk c.args.tree.now in
    let d1 = g.T.FileTree.disk c.is_there.new.tree in
    then_ok c.edit_object.result
    (all_edited c.args.set.now n.coll d1 (g.T.FileTree.disk c.edit_object.new.tree)
    (all_stays c.args.set.now d0 d1 (c.is_there.ensures.still told).stays (c.requires.ready (c.is_there.ensures.told told)))
    (c.edit_object.ensures.off tells n is) (c.edit_object.ensures.free tells))
    (c.edit_object.ensures.ready tells)

pub returns-in_err-is_there-clause-undamaged : goal.returns-in_err-is_there-clause-undamaged
returns-in_err-is_there-clause-undamaged g c = λ tells p e.
    let n = c.requires.edits.0 in
    let is = c.requires.edits.1 in
    let t = (g.T.FileTree.disk c.args.tree.now).tree in
    let was = c.requires.ready (c.is_there.ensures.told tells) in
    let way = c.is_there.ensures.damaged tells p (search (rules, e)) in
    never_file t was.own.clear n.coll (c.name_fits.ensures n is).coll p
    (subst (λ (d : Coll). (p ≡ dir_of d) × IsFile t p) (named_coll c.args.op.now n is c.colls-coll.result c.colls-coll.ensures) way)

pub returns-in_err-is_there-clause-stores : goal.returns-in_err-is_there-clause-stores
returns-in_err-is_there-clause-stores g c = λ tells.
    same_store (g.T.FileTree.disk c.args.tree.now) (g.T.FileTree.disk c.is_there.new.tree) (g.met.T.FileTree.sound c.args.tree.now (c.is_there.ensures.told tells)) (c.is_there.ensures.still tells).stays

pub returns-then-not-branch-clause-stores : goal.returns-then-not-branch-clause-stores
returns-then-not-branch-clause-stores g c = λ tells.
    same_store (g.T.FileTree.disk c.args.tree.now) (g.T.FileTree.disk c.is_there.new.tree) (g.met.T.FileTree.sound c.args.tree.now (c.is_there.ensures.told tells)) (c.is_there.ensures.still tells).stays

pub returns-clause-stores : goal.returns-clause-stores
returns-clause-stores g c = λ tells.
    let n = c.requires.edits.0 in
    let is = c.requires.edits.1 in
    let told = c.edit_object.ensures.told tells in
    let sound = g.met.T.FileTree.sound in
    edited_store n.coll (g.T.FileTree.disk c.args.tree.now) (g.T.FileTree.disk c.is_there.new.tree) (g.T.FileTree.disk c.edit_object.new.tree)
    (sound c.args.tree.now (c.is_there.ensures.told told)) (sound c.is_there.new.tree told) (c.is_there.ensures.still told).stays (c.edit_object.ensures.off tells n is)
