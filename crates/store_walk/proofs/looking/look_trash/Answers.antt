use Rattle.std.proofs.Common.{rules, sym, subst, OnOk}
use Rattle.tree_api.specs.Tree.{Path}
use Rattle.store_walk.specs.Deep.{IsBounded}
use Rattle.store_walk.proofs.looking.look_trash.Goals as goal

pub returns-clause-laid : goal.returns-clause-laid
returns-clause-laid g c = λ t.
    subst (λ (p : Path). OnOk c.look_below.result (IsBounded 10 p (g.T.FileTree.disk c.args.tree.now).tree)) c.in_ok-dir.ensures (c.look_below.ensures.laid (search rules))

pub returns-clause-damaged : goal.returns-clause-damaged
returns-clause-damaged g c = λ t p is bounded.
    subst (λ (d : Path). IsBounded 10 d (g.T.FileTree.disk c.args.tree.now).tree) (sym c.in_ok-dir.ensures) bounded p (c.look_below.ensures.damaged (search rules) p is)
