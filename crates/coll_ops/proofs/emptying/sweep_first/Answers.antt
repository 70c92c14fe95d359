use Rattle.std.proofs.Common.{rules, subst, IfOk}
use Rattle.std.proofs.lemmas.Result.{IfOk-weaker}
use Rattle.tree_api.specs.Tree.{Path}
use Rattle.coll_ops.specs.Changes.{Sweeps}
use Rattle.coll_ops.specs.Trash.{FirstGoes, FirstTooDeep}
use Rattle.coll_ops.proofs.StaysClear.{swept_clear}
use Rattle.coll_ops.proofs.Trash.{swept_stay, swept_elsewhere, swept_ready}
use Rattle.coll_ops.proofs.Trees.{left_after}
use Rattle.coll_ops.proofs.emptying.sweep_first.Goals as goal

pub returns-clause-leaves : goal.returns-clause-leaves
returns-clause-leaves g c = λ t.
    let disk = g.T.FileTree.disk in
    swept_stay (disk c.args.tree.now) (disk c.sweep_first_in.new.tree) (g.met.T.FileTree.sound c.args.tree.now (search rules))
    (subst (λ (p : Path). Sweeps p (disk c.args.tree.now) (disk c.sweep_first_in.new.tree)) c.in_ok-dir.ensures (c.sweep_first_in.ensures.sweeps (search rules)))

pub returns-clause-off : goal.returns-clause-off
returns-clause-off g c = λ t.
    let disk = g.T.FileTree.disk in
    swept_elsewhere (disk c.args.tree.now) (disk c.sweep_first_in.new.tree) (g.met.T.FileTree.sound c.args.tree.now (search rules))
    (subst (λ (p : Path). Sweeps p (disk c.args.tree.now) (disk c.sweep_first_in.new.tree)) c.in_ok-dir.ensures (c.sweep_first_in.ensures.sweeps (search rules)))

pub returns-clause-clear : goal.returns-clause-clear
returns-clause-clear g c = λ t.
    let disk = g.T.FileTree.disk in
    swept_clear c.in_ok-dir.dir (disk c.args.tree.now) (disk c.sweep_first_in.new.tree) (g.met.T.FileTree.sound c.args.tree.now (search rules)) (c.sweep_first_in.ensures.sweeps (search rules))

pub returns-clause-ready : goal.returns-clause-ready
returns-clause-ready g c = λ t.
    let disk = g.T.FileTree.disk in
    swept_ready (disk c.args.tree.now) (disk c.sweep_first_in.new.tree) (g.met.T.FileTree.sound c.args.tree.now (search rules))
    (subst (λ (p : Path). Sweeps p (disk c.args.tree.now) (disk c.sweep_first_in.new.tree)) c.in_ok-dir.ensures (c.sweep_first_in.ensures.sweeps (search rules)))
    (g.met.T.FileTree.sound c.sweep_first_in.new.tree (search rules))

pub returns-clause-swept : goal.returns-clause-swept
returns-clause-swept g c = λ t.
    let disk = g.T.FileTree.disk in
    subst (λ (p : Path). IfOk c.sweep_first_in.result (FirstGoes p (disk c.args.tree.now).tree (disk c.sweep_first_in.new.tree).tree)) c.in_ok-dir.ensures (c.sweep_first_in.ensures.swept (search rules))

pub returns-clause-trees : goal.returns-clause-trees
returns-clause-trees g c = λ t n has.
    let disk = g.T.FileTree.disk in
    IfOk-weaker c.sweep_first_in.result _ _ (λ swept goes. left_after (disk c.args.tree.now).tree (disk c.sweep_first_in.new.tree).tree n swept goes has)
    (subst (λ (p : Path). IfOk c.sweep_first_in.result (FirstGoes p (disk c.args.tree.now).tree (disk c.sweep_first_in.new.tree).tree)) c.in_ok-dir.ensures (c.sweep_first_in.ensures.swept (search rules)))

pub returns-clause-damaged : goal.returns-clause-damaged
returns-clause-damaged g c = λ t q is.
    subst (λ (p : Path). FirstTooDeep p (g.T.FileTree.disk c.args.tree.now).tree q) c.in_ok-dir.ensures (c.sweep_first_in.ensures.damaged (search rules) q is)
