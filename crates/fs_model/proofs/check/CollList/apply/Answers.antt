use Rattle.std.proofs.Common.{ap, ◌∙◌}
use Rattle.std.specs.FinSet.{intersection, union, difference, empty}
use Rattle.fs_model.proofs.Changes.{apart, added_rest}
use Rattle.fs_model.proofs.check.CollList.apply.Goals as goal

pub add_all-requires : goal.add_all-requires
add_all-requires c = ap (intersection c.args.self.now) c.in_ok-new.ensures ∙ apart c.args.self.now c.args.change.now.made

pub returns-clause-ok : goal.returns-clause-ok
returns-clause-ok c =
    let S = c.args.self.now in
    c.remove_all.ensures
    ∙ ap (λ X. difference X c.args.change.now.gone) (c.in_ok-add_all.ensures.ok ∙ ap (union S) c.in_ok-new.ensures ∙ added_rest S c.args.change.now.made)
