use Rattle.built_ops.proofs.Fitting.{told_by}
use Rattle.built_ops.proofs.can_do.Goals as goal

pub returns-then-ops-le-TXN_OPS : goal.returns-then-ops-le-TXN_OPS
returns-then-ops-le-TXN_OPS c = told_by c.args.ops.now c.all_fit.result c.if-ops-le-TXN_OPS.true c.all_fit.ensures
