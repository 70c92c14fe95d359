use Rattle.std.proofs.Common.{rules}
use Rattle.coll_ops.proofs.Kept.{there_is}
use Rattle.coll_ops.proofs.looking.kind_at.Goals as goal

pub returns-in-Some-clause-kind : goal.returns-in-Some-clause-kind
returns-in-Some-clause-kind g c = λ t. there_is (g.T.FileTree.disk c.args.tree.now).tree c.args.path.now c.in_ok-stat.field-0 c.in-Some.stat (c.in_ok-stat.ensures.answer (search rules)) c.in-Some.is
