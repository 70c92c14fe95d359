-- The transaction is next in each history.
use Rattle.std.proofs.Common.{arith}
use Rattle.file_side.proofs.Joined.{past_of, stores_of, images_join}
use Rattle.file_side.proofs.Turns.{turn_of}
use Rattle.file_side.proofs.parts.PartsSide.apply.Goals as goal

pub apply_all-requires-clause-fit : goal.apply_all-requires-clause-fit
apply_all-requires-clause-fit g c = c.requires.fit.each

pub apply_all-requires-clause-few : goal.apply_all-requires-clause-few
apply_all-requires-clause-few g c = omega (arith, c.requires.fit.few)

pub returns-clause-keeps : goal.returns-clause-keeps
returns-clause-keeps g c = λ tells h n lo hi low high covers is images past.
    let id = c.args.self.now.identity in
    let old = g.T.FileTree.disk c.args.tree.now in
    images_join id h n lo hi old (g.T.FileTree.disk c.apply_all.new.tree)
    (c.apply_all.ensures.keeps tells c.args._how h n lo hi (turn_of c.args._how h lo hi c.args.seq c.args.ops.now low high covers is) (past_of id h n lo hi old images) past)
    (c.apply_all.ensures.stores tells id.fsid id.settings (stores_of id h n lo hi old images))

pub returns-clause-done : goal.returns-clause-done
returns-clause-done g c = λ tells h n lo hi low high covers is images past.
    let id = c.args.self.now.identity in
    c.apply_all.ensures.done tells c.args._how h n lo hi (turn_of c.args._how h lo hi c.args.seq c.args.ops.now low high covers is) (past_of id h n lo hi (g.T.FileTree.disk c.args.tree.now) images) past
