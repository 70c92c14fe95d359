use Rattle.tree_memory.proofs.Stripped.{rest_is}
use Rattle.std.proofs.Common.{◌≡◌, true, arith}
use Rattle.tree_memory.proofs.paths.rest_of.Goals as goal

pub returns : goal.returns
returns c =
    let yes : c.leads_to.result ≡ true = grind (arith, c.if-not-leads_to.false, c.if-not-leads_to.ensures) in
    rest_is c.args.dir.now c.args.path.now _ _ c.leads_to.result c.leads_to.ensures yes c.steps.ensures c.in_ok-rest_from.ensures
