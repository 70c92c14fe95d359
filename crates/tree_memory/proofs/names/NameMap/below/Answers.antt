use Rattle.std.proofs.Common.{rules, ◌≡◌, ℕ, List, [], ◌∷◌, ◌++◌, map, sym, ap, ◌∙◌}
use Rattle.std.specs.Map.Iter.{deref_pair}
use Rattle.std.proofs.lemmas.Map.Iter.{iter_end, rest_so_far, rest_more}
use Rattle.std.proofs.lemmas.List.{map-append}
use Rattle.tree_api.specs.Tree.{Path}
use Rattle.tree_memory.proofs.Belows.{below_list, below_some}
use Rattle.tree_memory.proofs.Spans.{from, saw_all, saw_enough}
use Rattle.tree_memory.proofs.names.NameMap.below.Goals as goal

pub loop-place-preserved : goal.loop-place-preserved
loop-place-preserved c =
    below_some c.args.dir.now (map deref_pair c.loop-place.yielded) c.loop-place.names.items _ _ _ _ _ _ c.loop-place.invariant c.place.view_is c.in_ok-rest.ensures c.in-Some-2.is c.in_ok-push.ensures.items
    ∙ ap (below_list c.args.dir.now) (sym (map-append deref_pair c.loop-place.yielded ((c.in-Some.place, c.in-Some.node) ∷ [])))

pub returns-in_default : goal.returns-in_default
returns-in_default c =
    let so_far : from c.args.dir.now c.args.self.now.map.entries ≡ map deref_pair c.loop-place.yielded ++ c.loop-place.place-iterator = search (rules, rest_so_far) in
    let more : c.loop-place.place-iterator ≡ deref_pair (c.in-Some.place, c.in-Some.node) ∷ c.next.new.self = search (rules, rest_more) in
    saw_enough c.args.self.now c.args.dir.now c.loop-place.names.items (map deref_pair c.loop-place.yielded) _ _ _ c.next.new.self _
    c.range-place-items.ensures.ordered c.loop-place.invariant (so_far ∙ ap (λ (l : List (Path × ℕ)). map deref_pair c.loop-place.yielded ++ l) more) c.place.view_is c.in_ok-rest.ensures c.in_default.is

pub returns : goal.returns
returns c =
    let e : map deref_pair c.loop-place.yielded ≡ from c.args.dir.now c.args.self.now.map.entries = search (rules, iter_end) in
    saw_all c.args.self.now c.args.dir.now c.loop-place.names.items (map deref_pair c.loop-place.yielded) c.range-place-items.ensures.ordered c.loop-place.invariant e
