use Rattle.std.proofs.Common.{◌++◌, [], ◌∷◌, take, sym, ap, ◌∙◌, append_assoc, arith}
use Rattle.std.proofs.lemmas.List.{take_more}
use Rattle.tree_memory.specs.Names.{unlinks}
use Rattle.tree_memory.specs.declared.event.Edit.TheVariants.{Unlink}
use Rattle.tree_memory.proofs.Stores.{unlinks_push}
use Rattle.tree_memory.proofs.store.add_unlinks.Goals as goal

pub loop-name-preserved : goal.loop-name-preserved
loop-name-preserved c =
    let xs = c.args.names.now in
    let i = c.loop-name.name-index in
    let x = c.name-item.result in
    let d = c.args.dir.now in
    c.in_ok-push.ensures.items
    ∙ ap (λ l. l ++ Unlink c.in_ok-path.path ∷ []) c.loop-name.invariant
    ∙ ap (λ p. (c.args.edits.now.items ++ unlinks d (take i xs)) ++ Unlink p ∷ []) c.in_ok-path.ensures
    ∙ append_assoc c.args.edits.now.items (unlinks d (take i xs)) (Unlink (d ++ x.rest) ∷ [])
    ∙ ap (λ l. c.args.edits.now.items ++ l) (sym (unlinks_push d (take i xs) x))
    ∙ ap (λ l. c.args.edits.now.items ++ unlinks d l) (ap (λ y. take i xs ++ y ∷ []) c.name-item.is ∙ sym (take_more xs i x (omega arith)))
