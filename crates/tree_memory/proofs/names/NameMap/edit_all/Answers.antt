use Rattle.std.proofs.Common.{◌++◌, [], ◌∷◌, take, sym, ap, ◌∙◌, arith}
use Rattle.std.proofs.lemmas.List.{take_more}
use Rattle.tree_memory.specs.Names.{names_at, edited, edited_once}
use Rattle.tree_memory.proofs.Belows.{edited_push}
use Rattle.tree_memory.proofs.names.NameMap.edit_all.Goals as goal

pub loop-edit-preserved : goal.loop-edit-preserved
loop-edit-preserved c =
    let es = c.args.edits.now in
    let i = c.loop-edit.edit-index in
    let item = c.edit-item.result in
    let at = names_at c.args.self.now in
    c.in_ok-edit.ensures
    ∙ ap (edited_once item) c.loop-edit.invariant
    ∙ sym (edited_push (take i es) item at)
    ∙ ap (λ l. edited l at) (ap (λ x. take i es ++ x ∷ []) c.edit-item.is ∙ sym (take_more es i item (omega arith)))
