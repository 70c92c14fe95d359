use Rattle.std.proofs.Common.{rules}
use Rattle.commit_point.proofs.Ready.{ready_stays}
use Rattle.commit_point.proofs.number.write_seq.Goals as goal

pub returns-in_err-write-clause-ready : goal.returns-in_err-write-clause-ready
returns-in_err-write-clause-ready g c = λ t. ready_stays c.args.seq (g.T.FileTree.disk c.args.tree.now).tree (g.T.FileTree.disk c.write.new.tree).tree (c.write.ensures.leaves (search rules)).now (c.requires.ready (search rules))

pub returns-clause-ready : goal.returns-clause-ready
returns-clause-ready g c = λ t. ready_stays c.args.seq (g.T.FileTree.disk c.args.tree.now).tree (g.T.FileTree.disk c.write.new.tree).tree (c.write.ensures.leaves (search rules)).now (c.requires.ready (search rules))
