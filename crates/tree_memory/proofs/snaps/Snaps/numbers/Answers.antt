use Rattle.std.proofs.Common.{rules, ◌≡◌, map, subst, sym, ◌∙◌}
use Rattle.std.specs.Map.Iter.{deref}
use Rattle.std.specs.BTreeMap.{keys}
use Rattle.std.proofs.lemmas.Map.Iter.{iter_end}
use Rattle.tree_api.specs.Answer.{RisingNumbers}
use Rattle.tree_memory.proofs.Rising.{rising_numbers, are_numbers}
use Rattle.tree_memory.proofs.snaps.Snaps.numbers.Goals as goal

pub returns-clause-rising : goal.returns-clause-rising
returns-clause-rising c =
    let e : map deref c.loop-seq.yielded ≡ keys c.args.self.now.map = search (rules, iter_end) in
    subst RisingNumbers (sym (c.loop-seq.invariant ∙ e)) (rising_numbers _ c.keys-seq-items.ensures.ordered)

pub returns-clause-numbers : goal.returns-clause-numbers
returns-clause-numbers c =
    let e : map deref c.loop-seq.yielded ≡ keys c.args.self.now.map = search (rules, iter_end) in
    are_numbers c.args.self.now c.loop-seq.numbers.items (c.loop-seq.invariant ∙ e)
