use Rattle.std.proofs.Common.{sym, ◌∙◌, subst}
use Rattle.tree_api.specs.Tree.{Path, Tree, IsDir, IsFree}
use Rattle.lfn_index.specs.Changes.{aside}
use Rattle.commit_point.specs.Number.{number_path}
use Rattle.op_effects.specs.Ready.{trash}
use Rattle.coll_ops.proofs.Going.{on_ok}
use Rattle.store_walk.specs.Walked.{HoldsFiles}
use Rattle.store_walk.proofs.looking.look_own.Goals as goal

pub returns-clause-laid : goal.returns-clause-laid
returns-clause-laid g c = λ now.
    let disk = g.T.FileTree.disk in
    let third = c.look_files.ensures.told now in
    let second = c.look_free.ensures.told third in
    let first = c.look_dir-2.ensures.told second in
    let one = (c.look_dir.ensures.still first).stays.tree in
    let two = (c.look_dir-2.ensures.still second).stays.tree ∙ one in
    let three = (c.look_free.ensures.still third).stays.tree ∙ two in
    on_ok c.look_files.result
    (λ files. record {
      building = subst (IsDir (disk c.args.tree.now).tree) c.in_ok-building.ensures (c.in_ok-look_dir.ensures.laid first);
      places = subst (HoldsFiles aside) three (subst (λ (p : Path). HoldsFiles p (disk c.look_free.new.tree).tree) c.in_ok-building.ensures files);
      removed = subst (λ (x : Tree). IsDir x trash) one (subst (IsDir (disk c.look_dir.new.tree).tree) c.in_ok-removed.ensures (c.in_ok-look_dir-2.ensures.laid second));
      target = subst (λ (x : Tree). IsFree x number_path) two (subst (IsFree (disk c.look_dir-2.new.tree).tree) c.in_ok-target.ensures (c.in_ok-look_free.ensures.laid third));
    })
    (c.look_files.ensures.laid now)

pub returns-clause-damaged : goal.returns-clause-damaged
returns-clause-damaged g c = λ now p is own.
    let disk = g.T.FileTree.disk in
    let third = c.look_files.ensures.told now in
    let second = c.look_free.ensures.told third in
    let first = c.look_dir-2.ensures.told second in
    let three = (c.look_free.ensures.still third).stays.tree ∙ (c.look_dir-2.ensures.still second).stays.tree ∙ (c.look_dir.ensures.still first).stays.tree in
    c.look_files.ensures.damaged now p is
    (subst (λ (q : Path). HoldsFiles q (disk c.look_free.new.tree).tree) (sym c.in_ok-building.ensures) (subst (HoldsFiles aside) (sym three) own.places))
