use Rattle.std.proofs.Common.{◌∙◌, sym, subst, rules}
use Rattle.store_turns.proofs.Redone.{same_ops}
use Rattle.store_turns.proofs.replaying.redo.Goals as goal

pub returns-in_err-apply-clause-keeps : goal.returns-in_err-apply-clause-keeps
returns-in_err-apply-clause-keeps g c = λ tells lt h hi ops le all dec is here reads.
    c.apply.ensures.keeps tells h c.args.committed c.args.committed hi lt le all (is ∙ same_ops ops _ _ dec c.in-Ok.ensures.ok ∙ sym c.slice-2.ensures) here reads

pub returns-clause-keeps : goal.returns-clause-keeps
returns-clause-keeps g c = λ tells lt h hi ops le all dec is here reads.
    c.apply.ensures.keeps tells h c.args.committed c.args.committed hi lt le all (is ∙ same_ops ops _ _ dec c.in-Ok.ensures.ok ∙ sym c.slice-2.ensures) here reads

pub returns-clause-done : goal.returns-clause-done
returns-clause-done g c = λ tells lt h hi ops le all dec is here reads.
    c.in_ok-apply.ensures.done tells h c.args.committed c.args.committed hi lt le all (is ∙ same_ops ops _ _ dec c.in-Ok.ensures.ok ∙ sym c.slice-2.ensures) here reads

pub returns-clause-spelled : goal.returns-clause-spelled
returns-clause-spelled g c = λ lt. (_, c.in-Ok.ensures.ok, subst g.S.Side.fits c.slice.ensures (search rules))
