use Rattle.std.proofs.Common.{rules, subst}
use Rattle.tree_api.specs.Tree.{Tree}
use Rattle.object_ops.specs.Trials.{IsBare}
use Rattle.object_ops.proofs.Fresh.{none_listed}
use Rattle.object_ops.proofs.trials.need_bare.Goals as goal

pub returns-clause-bare : goal.returns-clause-bare
returns-clause-bare g c = λ t.
    let disk = g.T.FileTree.disk in
    subst (λ (x : Tree). IsBare x c.args.dir.now) (c.need_dir.ensures.same (search rules))
    (none_listed (disk c.need_dir.new.tree).tree c.args.dir.now c.in_ok-entries.entries.items (c.in_ok-entries.ensures.entries (search rules)) (search rules))
