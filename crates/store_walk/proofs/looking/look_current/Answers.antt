use Rattle.std.proofs.Common.{rules, sym, subst, OnOk}
use Rattle.tree_api.specs.Tree.{Path}
use Rattle.store_walk.specs.Walked.{AllPlaced}
use Rattle.store_walk.proofs.looking.look_current.Goals as goal

pub returns-clause-laid : goal.returns-clause-laid
returns-clause-laid g c = λ t.
    subst (λ (p : Path). OnOk c.look_places.result (AllPlaced c.args.set.now p (g.T.FileTree.disk c.args.tree.now).tree)) c.in_ok-dir.ensures (c.look_places.ensures.laid (search rules))

pub returns-clause-damaged : goal.returns-clause-damaged
returns-clause-damaged g c = λ t p is placed.
    c.look_places.ensures.damaged (search rules) p is
    (subst (λ (d : Path). AllPlaced c.args.set.now d (g.T.FileTree.disk c.args.tree.now).tree) (sym c.in_ok-dir.ensures) placed)
