use Rattle.std.proofs.Common.{sym, ◌∙◌}
use Rattle.std.proofs.lemmas.Bool.{true≢false}
use Rattle.tree_memory.proofs.Lefts.{left_settled}
use Rattle.tree_memory.proofs.Oldests.{settled_oldest}
use Rattle.tree_memory.proofs.leave.flush.Goals as goal

pub returns-in_ok-image-clause-image : goal.returns-in_ok-image-clause-image
returns-in_ok-image-clause-image c = λ h reads left.
    left_settled c.args.synced h c.args.now.now c.args.image.now c.in_ok-image.field-0 reads left (λ t. c.in_ok-image.ensures.tree) (λ f. absurd (true≢false (sym c.if-synced.true ∙ f)))

pub returns-in_ok-image-clause-oldest : goal.returns-in_ok-image-clause-oldest
returns-in_ok-image-clause-oldest c = λ h reads was.
    settled_oldest c.args.synced h c.args.now.now c.args.image.now c.in_ok-image.field-0 reads was (λ t. c.in_ok-image.ensures.tree) (λ f. absurd (true≢false (sym c.if-synced.true ∙ f)))
