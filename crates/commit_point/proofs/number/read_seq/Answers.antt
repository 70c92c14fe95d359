use Rattle.std.proofs.Common.{◌≡◌, ℕ, List, Option, IfNone, subst}
use Rattle.commit_point.specs.Number.{HasNumber}
use Rattle.commit_point.proofs.number.read_seq.Goals as goal

pub returns-in-None-clause-none : goal.returns-in-None-clause-none
returns-in-None-clause-none g c = λ t.
    subst (λ (o : Option (List ℕ)). IfNone o ((n : ℕ) → HasNumber (g.T.FileTree.disk c.args.tree.now).tree n → ⊥)) c.in-None.is (c.in_ok-text.ensures.none t)
