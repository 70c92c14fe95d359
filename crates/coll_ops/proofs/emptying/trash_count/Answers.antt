use Rattle.std.proofs.Common.{rules, ◌≡◌, length, arith}
use Rattle.coll_ops.proofs.Trees.{counted_trees}
use Rattle.coll_ops.proofs.emptying.trash_count.Goals as goal

pub returns-clause-count : goal.returns-clause-count
returns-clause-count g c = λ t.
    let es = c.in_ok-entries.entries.items in
    let count : c.len.result ≡ length es = omega arith in
    counted_trees (g.T.FileTree.disk c.args.tree.now).tree c.in_ok-dir.dir es c.len.result c.in_ok-dir.ensures count (c.in_ok-entries.ensures.entries (search rules))
