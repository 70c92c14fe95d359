use Rattle.std.proofs.Common.{◌≡◌, ◌+◌, Bool, true, false, cond, None, drop, is_some, sym, ap, ◌∙◌, arith}
use Rattle.std.specs.Ordering.{is_eq}
use Rattle.tree_memory.specs.Paths.{strip}
use Rattle.tree_memory.proofs.Stripped.{strip_short, strip_step}
use Rattle.tree_memory.proofs.paths.leads_to.Goals as goal

pub returns-then-steps : goal.returns-then-steps
returns-then-steps c = sym (ap is_some (strip_short c.args.dir.now c.args.path.now (omega arith)))

pub returns-then-not-is_eq : goal.returns-then-not-is_eq
returns-then-not-is_eq c =
    let i = c.loop-i.i in
    let d = c.args.dir.now in
    let q = c.args.path.now in
    let step = strip_step d q i _ _ c.step_bytes.ensures.bytes c.step_bytes-in-loop-i.ensures.bytes in
    let unequal : is_eq c.cmp.result ≡ false = grind (arith, c.is_eq.ensures, c.if-not-is_eq.true) in
    sym (ap is_some (c.loop-i.invariant ∙ step ∙ ap (λ (o : _). cond (is_eq o) (strip (drop (i + 1) d) (drop (i + 1) q)) None) (sym c.cmp.ensures) ∙ ap (λ (b : Bool). cond b (strip (drop (i + 1) d) (drop (i + 1) q)) None) unequal))

pub loop-i-preserved : goal.loop-i-preserved
loop-i-preserved c =
    let i = c.loop-i.i in
    let d = c.args.dir.now in
    let q = c.args.path.now in
    let step = strip_step d q i _ _ c.step_bytes.ensures.bytes c.step_bytes-in-loop-i.ensures.bytes in
    let equal : is_eq c.cmp.result ≡ true = grind (arith, c.is_eq.ensures, c.if-not-is_eq.false) in
    c.loop-i.invariant ∙ step ∙ ap (λ (o : _). cond (is_eq o) (strip (drop (i + 1) d) (drop (i + 1) q)) None) (sym c.cmp.ensures) ∙ ap (λ (b : Bool). cond b (strip (drop (i + 1) d) (drop (i + 1) q)) None) equal
