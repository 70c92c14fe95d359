use Rattle.std.proofs.Common.{rules, ◌≡◌, ◌++◌, [], ◌∷◌, map, sym, ap, ◌∙◌}
use Rattle.std.specs.Map.Iter.{deref}
use Rattle.std.specs.BTreeMap.{keys}
use Rattle.std.proofs.lemmas.Map.Iter.{iter_end}
use Rattle.std.proofs.lemmas.List.{map-append}
use Rattle.tree_api.specs.Answer.{names_of}
use Rattle.tree_memory.proofs.Rising.{are_attrs, names_push}
use Rattle.tree_memory.proofs.node.Node.attr_names.Goals as goal

pub loop-name-preserved : goal.loop-name-preserved
loop-name-preserved c =
    ap names_of c.in_ok-push.ensures.items
    ∙ names_push c.loop-name.names.items _
    ∙ ap (λ l. l ++ c.in_ok-clone.field-0 ∷ []) c.loop-name.invariant
    ∙ ap (λ o. map deref c.loop-name.yielded ++ o ∷ []) c.in_ok-clone.ensures.cases
    ∙ sym (map-append deref c.loop-name.yielded (c.in-Some.name ∷ []))

pub returns : goal.returns
returns c =
    let e : map deref c.loop-name.yielded ≡ keys c.args.self.now.attrs = search (rules, iter_end) in
    are_attrs c.args.self.now c.loop-name.names.items (c.loop-name.invariant ∙ e) c.keys-name-items.ensures.ordered
