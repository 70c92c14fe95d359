use Rattle.std.proofs.Common.{◌≡◌, map, ap, ◌∙◌, arith}
use Rattle.std.proofs.lemmas.List.{take_all}
use Rattle.tree_memory.specs.Kept.{pair}
use Rattle.tree_memory.proofs.Keeps.{same_content, same_each}
use Rattle.tree_memory.proofs.snap.Snap.copy.Goals as goal

pub invariant_of-result : goal.invariant_of-result
invariant_of-result c =
    let all = c.args.self.now.kept.items in
    let e : map pair c.loop-one.kept.items ≡ map pair all = c.loop-one.invariant ∙ ap (map pair) (take_all c.loop-one.one-index all (omega arith)) in
    record { each = same_each c.loop-one.kept.items all e c.args.self.now.each }

pub returns : goal.returns
returns c =
    let all = c.args.self.now.kept.items in
    let e : map pair c.loop-one.kept.items ≡ map pair all = c.loop-one.invariant ∙ ap (map pair) (take_all c.loop-one.one-index all (omega arith)) in
    same_content c.loop-one.kept.items all e
