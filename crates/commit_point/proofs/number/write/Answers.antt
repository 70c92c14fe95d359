use Rattle.std.proofs.Common.{◌∙◌, ap, arith, length, sym, subst, rules}
use Rattle.tree_api.specs.Tree.{IsFree, IsAbove}
use Rattle.commit_point.specs.Number.{number_path}
use Rattle.commit_point.proofs.Digits.{spelled_length}
use Rattle.commit_point.proofs.Ready.{apart, off_the_way, place_parent, path_there, nothing_yet, renumbers_along, done_along}
use Rattle.commit_point.proofs.number.write.Goals as goal

pub returns-in_err-place-clause-leaves : goal.returns-in_err-place-clause-leaves
returns-in_err-place-clause-leaves g c = λ t. nothing_yet c.args.seq (g.T.FileTree.disk c.args.tree.now) (g.met.T.FileTree.sound c.args.tree.now (search rules))

pub returns-in_err-path-clause-leaves : goal.returns-in_err-path-clause-leaves
returns-in_err-path-clause-leaves g c = λ t. nothing_yet c.args.seq (g.T.FileTree.disk c.args.tree.now) (g.met.T.FileTree.sound c.args.tree.now (search rules))

pub returns-in_err-text-clause-leaves : goal.returns-in_err-text-clause-leaves
returns-in_err-text-clause-leaves g c = λ t. nothing_yet c.args.seq (g.T.FileTree.disk c.args.tree.now) (g.met.T.FileTree.sound c.args.tree.now (search rules))

pub replace-requires-clause-free : goal.replace-requires-clause-free
replace-requires-clause-free g c = λ t. subst (IsFree (g.T.FileTree.disk c.args.tree.now).tree) (sym c.in_ok-place.ensures) (c.requires.ready (search rules)).place

pub replace-requires-clause-parent : goal.replace-requires-clause-parent
replace-requires-clause-parent g c = λ t. place_parent (g.T.FileTree.disk c.args.tree.now).tree c.in_ok-place.place c.in_ok-place.ensures (c.requires.ready (search rules))

pub replace-requires-clause-target : goal.replace-requires-clause-target
replace-requires-clause-target g c = λ t. subst (IsFree (g.T.FileTree.disk c.args.tree.now).tree) (sym c.in_ok-path.ensures) (c.requires.ready (search rules)).target

pub replace-requires-clause-there : goal.replace-requires-clause-there
replace-requires-clause-there g c = λ t.
    path_there (g.T.FileTree.disk c.args.tree.now) (g.met.T.FileTree.sound c.args.tree.now (search rules)) c.in_ok-path.path c.in_ok-place.place c.in_ok-path.ensures c.in_ok-place.ensures (c.requires.ready (search rules))

pub replace-requires-clause-apart : goal.replace-requires-clause-apart
replace-requires-clause-apart g c = λ is. apart (sym c.in_ok-path.ensures ∙ is ∙ c.in_ok-place.ensures)

pub replace-requires-clause-off_the_way : goal.replace-requires-clause-off_the_way
replace-requires-clause-off_the_way g c = λ above. off_the_way (subst (λ p. IsAbove p number_path) c.in_ok-place.ensures (subst (λ p. IsAbove c.in_ok-place.place p) c.in_ok-path.ensures above))

pub replace-requires-clause-short : goal.replace-requires-clause-short
replace-requires-clause-short g c = omega (arith, ap length (c.deref.ensures.value ∙ c.in_ok-text.ensures) ∙ spelled_length c.args.seq)

pub returns-clause-leaves : goal.returns-clause-leaves
returns-clause-leaves g c = λ t.
    renumbers_along c.args.seq c.in_ok-place.place c.in_ok-path.path c.deref.result.now (g.T.FileTree.disk c.args.tree.now) (g.T.FileTree.disk c.replace.new.tree)
    c.in_ok-place.ensures c.in_ok-path.ensures (c.deref.ensures.value ∙ c.in_ok-text.ensures) (c.replace.ensures.leaves (search rules))

pub returns-clause-done : goal.returns-clause-done
returns-clause-done g c = λ t.
    done_along c.args.seq c.in_ok-path.path c.deref.result.now (g.T.FileTree.disk c.replace.new.tree) c.replace.result c.in_ok-path.ensures (c.deref.ensures.value ∙ c.in_ok-text.ensures) (c.replace.ensures.done (search rules))
