use Rattle.std.proofs.Common.{◌≤◌, ◌++◌, [], ◌∷◌, length, take, drop, sym, ap, ◌∙◌, arith}
use Rattle.tree_memory.proofs.Lists.{take_get, drop_push, length_take_below}
use Rattle.tree_memory.proofs.paths.rest_from.Goals as goal

pub loop-i-preserved : goal.loop-i-preserved
loop-i-preserved c =
    let p = c.args.path.now in
    let i = c.loop-i.i in
    let low : i ≤ length p = omega (arith, c.steps-i-end.ensures, c.loop-i-test.true) in
    let fits : c.args.first ≤ length (take i p) = omega (arith, length_take_below i p low, c.loop-i.auto.i) in
    c.in_ok-rest.ensures
    ∙ ap (λ l. l ++ c.step.result.now ∷ []) c.loop-i.invariant
    ∙ sym (drop_push c.args.first (take i p) c.step.result.now fits)
    ∙ ap (drop c.args.first) (sym (take_get p i _ c.step.ensures.bytes))
