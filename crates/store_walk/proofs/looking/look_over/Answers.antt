use Rattle.std.proofs.Common.{sym, ◌∙◌, subst}
use Rattle.index_fault.specs.declared.IndexFault.TheVariants.{Damaged}
use Rattle.tree_api.specs.Tree.{Tree, IsDir, current}
use Rattle.lfn_index.proofs.Known.{handed_on}
use Rattle.op_effects.specs.Ready.{trash}
use Rattle.coll_ops.proofs.Going.{on_ok}
use Rattle.store_walk.specs.Deep.{IsBounded}
use Rattle.store_walk.specs.Walked.{OwnStands, AllPlaced}
use Rattle.store_walk.proofs.Walks.{own_current, walked, walked_own, walked_placed, walked_trash}
use Rattle.store_walk.proofs.looking.look_over.Goals as goal

pub look_current-requires : goal.look_current-requires
look_current-requires g c = record {
  current = λ told.
      own_current (g.T.FileTree.disk c.look_own.new.tree) (g.met.T.FileTree.sound c.look_own.new.tree told)
      (subst OwnStands (sym (c.look_own.ensures.still told).stays.tree) (c.in_ok-look_own.ensures.laid told));
}

pub look_trash-requires : goal.look_trash-requires
look_trash-requires g c = record {
  trash = λ told.
      let first = (c.look_own.ensures.still (c.look_current.ensures.told told)).stays.tree in
      let second = (c.look_current.ensures.still told).stays.tree in
      subst (λ (x : Tree). IsDir x trash) (sym (second ∙ first)) (c.in_ok-look_own.ensures.laid (c.look_current.ensures.told told)).removed;
}

pub returns-clause-laid : goal.returns-clause-laid
returns-clause-laid g c = λ now.
    let disk = g.T.FileTree.disk in
    let second = c.look_trash.ensures.told now in
    let first = c.look_current.ensures.told second in
    let same = (c.look_own.ensures.still first).stays.tree in
    let both = (c.look_current.ensures.still second).stays.tree ∙ same in
    on_ok c.look_trash.result
    (λ bounded.
    walked c.args.set.now (disk c.args.tree.now) (g.met.T.FileTree.sound c.args.tree.now (c.look_own.ensures.told first)) (c.in_ok-look_own.ensures.laid first)
    (subst (AllPlaced c.args.set.now current) same (c.in_ok-look_current.ensures.laid second))
    (subst (IsBounded 10 trash) both bounded))
    (c.look_trash.ensures.laid now)

pub returns-in_err-look_own-clause-damaged : goal.returns-in_err-look_own-clause-damaged
returns-in_err-look_own-clause-damaged g c = λ now p is all.
    c.look_own.ensures.damaged now p
    (handed_on c.look_own.result c.from_residual.result c.in_err-look_own.field-0.0 (Damaged p) c.in_err-look_own.was c.from_residual.ensures.1 is)
    (walked_own c.args.set.now (g.T.FileTree.disk c.args.tree.now) (g.met.T.FileTree.sound c.args.tree.now (c.look_own.ensures.told now)) all)

pub returns-in_err-look_current-clause-damaged : goal.returns-in_err-look_current-clause-damaged
returns-in_err-look_current-clause-damaged g c = λ now p is all.
    let first = c.look_current.ensures.told now in
    c.look_current.ensures.damaged now p
    (handed_on c.look_current.result c.from_residual-in_err-look_current.result c.in_err-look_current.field-0.0 (Damaged p) c.in_err-look_current.was c.from_residual-in_err-look_current.ensures.1 is)
    (subst (AllPlaced c.args.set.now current) (sym (c.look_own.ensures.still first).stays.tree)
    (walked_placed c.args.set.now (g.T.FileTree.disk c.args.tree.now) (g.met.T.FileTree.sound c.args.tree.now (c.look_own.ensures.told first)) all))

pub returns-clause-damaged : goal.returns-clause-damaged
returns-clause-damaged g c = λ now p is all.
    let second = c.look_trash.ensures.told now in
    let first = c.look_current.ensures.told second in
    let both = (c.look_current.ensures.still second).stays.tree ∙ (c.look_own.ensures.still first).stays.tree in
    c.look_trash.ensures.damaged now p is
    (subst (IsBounded 10 trash) (sym both) (walked_trash c.args.set.now (g.T.FileTree.disk c.args.tree.now) (g.met.T.FileTree.sound c.args.tree.now (c.look_own.ensures.told first)) all))
