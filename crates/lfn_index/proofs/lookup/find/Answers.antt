use Rattle.std.proofs.Common.{rules, ◌∙◌}
use Rattle.lfn_index.proofs.Keeping.{found_maps}
use Rattle.lfn_index.proofs.lookup.find.Goals as goal

pub returns-then-slice-le-SHORT-clause-maps : goal.returns-then-slice-le-SHORT-clause-maps
returns-then-slice-le-SHORT-clause-maps g c = λ t.
    found_maps c.args.set.now (g.T.FileTree.disk c.args.tree.now).tree c.args.dir.now c.args.oid.now c.slice-then-slice-le-SHORT.result.now c.find_short.result c.fits.ensures (c.slice-then-slice-le-SHORT.ensures ∙ c.in_ok-text.ensures) (c.find_short.ensures.found (search rules))

pub returns-clause-maps : goal.returns-clause-maps
returns-clause-maps g c = λ t.
    found_maps c.args.set.now (g.T.FileTree.disk c.args.tree.now).tree c.args.dir.now c.args.oid.now c.slice-else-slice-le-SHORT.result.now c.find_long.result c.fits.ensures (c.slice-else-slice-le-SHORT.ensures ∙ c.in_ok-text.ensures) (c.find_long.ensures.found (search rules))
