use Rattle.std.proofs.Common.{◌++◌, [], ◌∷◌, take, sym, ap, ◌∙◌, append_assoc}
use Rattle.tree_memory.proofs.Lists.{take_get}
use Rattle.tree_memory.proofs.paths.joined.Goals as goal

pub loop-i-preserved : goal.loop-i-preserved
loop-i-preserved c =
    let d = c.args.dir.now in
    let r = c.args.rest.now in
    c.in_ok-path-2.ensures
    ∙ ap (λ l. l ++ c.step.result.now ∷ []) c.loop-i.invariant
    ∙ append_assoc d (take c.loop-i.i r) (c.step.result.now ∷ [])
    ∙ ap (λ l. d ++ l) (sym (take_get r c.loop-i.i _ c.step.ensures.bytes))
