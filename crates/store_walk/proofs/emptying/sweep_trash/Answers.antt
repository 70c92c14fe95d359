use Rattle.std.proofs.Common.{rules, ◌≡◌, OnOk, ℕ, List, None, subst}
use Rattle.tree_api.specs.Tree.{Path}
use Rattle.tree_api.specs.Disk.{Leaves}
use Rattle.lfn_index.specs.Directory.{entry}
use Rattle.op_effects.specs.Clear.{DirBelow}
use Rattle.op_effects.specs.Ready.{trash}
use Rattle.coll_ops.specs.Changes.{Elsewhere, Sweeps}
use Rattle.coll_ops.proofs.Trash.{swept_stay, swept_ready}
use Rattle.store_walk.specs.Thinned.{IsBelow}
use Rattle.store_walk.proofs.Swept.{swept_free}
use Rattle.store_walk.proofs.emptying.sweep_trash.Goals as goal

pub returns-clause-leaves : goal.returns-clause-leaves
returns-clause-leaves g c = λ t.
    let disk = g.T.FileTree.disk in
    swept_stay (disk c.args.tree.now) (disk c.sweep_each.new.tree) (g.met.T.FileTree.sound c.args.tree.now (search rules))
    (subst (λ (p : Path). Sweeps p (disk c.args.tree.now) (disk c.sweep_each.new.tree)) c.in_ok-dir.ensures (c.sweep_each.ensures.sweeps (search rules)))

pub returns-clause-elsewhere : goal.returns-clause-elsewhere
returns-clause-elsewhere g c = λ t.
    let disk = g.T.FileTree.disk in
    subst (λ (p : Path). Leaves (Elsewhere (IsBelow p)) (disk c.args.tree.now) (disk c.sweep_each.new.tree)) c.in_ok-dir.ensures (c.sweep_each.ensures.elsewhere (search rules))

pub returns-clause-free : goal.returns-clause-free
returns-clause-free g c = λ t.
    let disk = g.T.FileTree.disk in
    swept_free trash (disk c.args.tree.now) (disk c.sweep_each.new.tree) (g.met.T.FileTree.sound c.args.tree.now (search rules))
    (subst (λ (p : Path). Sweeps p (disk c.args.tree.now) (disk c.sweep_each.new.tree)) c.in_ok-dir.ensures (c.sweep_each.ensures.sweeps (search rules)))

pub returns-clause-ready : goal.returns-clause-ready
returns-clause-ready g c = λ t.
    let disk = g.T.FileTree.disk in
    swept_ready (disk c.args.tree.now) (disk c.sweep_each.new.tree) (g.met.T.FileTree.sound c.args.tree.now (search rules))
    (subst (λ (p : Path). Sweeps p (disk c.args.tree.now) (disk c.sweep_each.new.tree)) c.in_ok-dir.ensures (c.sweep_each.ensures.sweeps (search rules)))
    (g.met.T.FileTree.sound c.sweep_each.new.tree (search rules))

pub returns-clause-empty : goal.returns-clause-empty
returns-clause-empty g c = λ t.
    subst (λ (p : Path). OnOk c.sweep_each.result ((step : List ℕ) → (g.T.FileTree.disk c.sweep_each.new.tree).tree.at (entry p step) ≡ None)) c.in_ok-dir.ensures (c.sweep_each.ensures.empty (search rules))

pub returns-clause-damaged : goal.returns-clause-damaged
returns-clause-damaged g c = λ t q is.
    subst (λ (p : Path). DirBelow 10 p (g.T.FileTree.disk c.args.tree.now).tree q) c.in_ok-dir.ensures (c.sweep_each.ensures.damaged (search rules) q is)
