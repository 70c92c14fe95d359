use Rattle.std.proofs.Common.{rules, subst, List}
use Rattle.std.specs.Prelude.{All}
use Rattle.tree_api.specs.declared.tree.Entry.{Entry}
use Rattle.tree_api.specs.Tree.{Tree}
use Rattle.object_ops.specs.Trials.{IsKnown, HasOnly}
use Rattle.object_ops.proofs.Fresh.{all_known}
use Rattle.object_ops.proofs.trials.need_only.Goals as goal

pub returns-clause-only : goal.returns-clause-only
returns-clause-only g c = λ t.
    let disk = g.T.FileTree.disk in
    subst (λ (x : Tree). HasOnly x c.args.dir.now c.args.text.now) (c.need_dir.ensures.same (search rules))
    (all_known (disk c.need_dir.new.tree).tree c.args.dir.now c.args.text.now c.in_ok-entries.entries.items (c.in_ok-entries.ensures.entries (search rules))
    (subst (λ (l : List Entry). All (IsKnown c.args.text.now) l) c.deref.ensures.value (c.are_known.ensures (search rules))))
