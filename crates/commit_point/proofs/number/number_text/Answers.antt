use Rattle.std.proofs.Common.{◌≡◌, ◌≢◌, ◌∙◌, sym, subst, arith, Option}
use Rattle.std.proofs.lemmas.Grind.{common_steps}
use Rattle.tree_api.specs.Tree.{look}
use Rattle.tree_api.specs.Answer.{IsStat}
use Rattle.tree_api.specs.declared.tree.Stat.{Stat}
use Rattle.tree_api.specs.declared.tree.Kind.TheVariants.{File}
use Rattle.commit_point.proofs.Reading.{not_such}
use Rattle.commit_point.proofs.number.number_text.Goals as goal
use Rattle.commit_point.proofs.number.number_text.Goals.{then-ne-via-then-ne, then-ne-via-else-ne+then-stat-ne17}

pub returns-then-ne-clause-none : goal.returns-then-ne-clause-none
returns-then-ne-clause-none g c = λ t.
    let tree = (g.T.FileTree.disk c.args.tree.now).tree in
    let path = c.in_ok-path.path in
    not_such tree path c.in-Some.stat c.in_ok-path.ensures (subst (λ (o : Option Stat). IsStat (look tree path) o) c.in-Some.is (c.in_ok-stat.ensures.answer t))
    (λ is. elim c.then-ne.branch [
      | then-ne-via-then-ne w ↦
          let not : c.in-Some.stat.kind ≢ File = grind (arith, common_steps) in
          not is.0
      | then-ne-via-else-ne+then-stat-ne17 w ↦ w.if-stat-ne17.true is.1
    ])
