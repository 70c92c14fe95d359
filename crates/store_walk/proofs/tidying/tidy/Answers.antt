use Rattle.std.proofs.Common.{rules, ◌≡◌, OnOk, ℕ, List, None, subst}
use Rattle.tree_api.specs.Tree.{Path}
use Rattle.lfn_index.specs.Directory.{entry}
use Rattle.coll_ops.proofs.Going.{on_ok}
use Rattle.store_walk.specs.Thinned.{Thins}
use Rattle.store_walk.proofs.Tidied.{tidied_stay, tidied_elsewhere, tidied_free, tidied_ready}
use Rattle.store_walk.proofs.tidying.tidy.Goals as goal

pub returns-clause-leaves : goal.returns-clause-leaves
returns-clause-leaves g c = λ t.
    let disk = g.T.FileTree.disk in
    tidied_stay (disk c.args.tree.now) (disk c.drop_files.new.tree) (g.met.T.FileTree.sound c.args.tree.now (search rules))
    (subst (λ (p : Path). Thins p (disk c.args.tree.now) (disk c.drop_files.new.tree)) c.in_ok-dir.ensures (c.drop_files.ensures.thins (search rules)))

pub returns-clause-elsewhere : goal.returns-clause-elsewhere
returns-clause-elsewhere g c = λ t.
    let disk = g.T.FileTree.disk in
    tidied_elsewhere (disk c.args.tree.now) (disk c.drop_files.new.tree) (g.met.T.FileTree.sound c.args.tree.now (search rules))
    (subst (λ (p : Path). Thins p (disk c.args.tree.now) (disk c.drop_files.new.tree)) c.in_ok-dir.ensures (c.drop_files.ensures.thins (search rules)))

pub returns-clause-free : goal.returns-clause-free
returns-clause-free g c = λ t.
    let disk = g.T.FileTree.disk in
    tidied_free (disk c.args.tree.now) (disk c.drop_files.new.tree) (g.met.T.FileTree.sound c.args.tree.now (search rules))
    (subst (λ (p : Path). Thins p (disk c.args.tree.now) (disk c.drop_files.new.tree)) c.in_ok-dir.ensures (c.drop_files.ensures.thins (search rules)))

pub returns-clause-ready : goal.returns-clause-ready
returns-clause-ready g c = λ t.
    let disk = g.T.FileTree.disk in
    on_ok c.drop_files.result
    (λ empty set ready.
    tidied_ready (disk c.args.tree.now) (disk c.drop_files.new.tree) (g.met.T.FileTree.sound c.args.tree.now (search rules))
    (subst (λ (p : Path). Thins p (disk c.args.tree.now) (disk c.drop_files.new.tree)) c.in_ok-dir.ensures (c.drop_files.ensures.thins (search rules)))
    (g.met.T.FileTree.sound c.drop_files.new.tree (search rules)) set ready)
    (c.drop_files.ensures.empty (search rules))

pub returns-clause-empty : goal.returns-clause-empty
returns-clause-empty g c = λ t.
    subst (λ (p : Path). OnOk c.drop_files.result ((step : List ℕ) → (g.T.FileTree.disk c.drop_files.new.tree).tree.at (entry p step) ≡ None)) c.in_ok-dir.ensures (c.drop_files.ensures.empty (search rules))
