use Rattle.std.proofs.Common.{◌≡◌, true, cond, sym, ap, ◌∙◌}
use Rattle.std.specs.Option.{is_some}
use Rattle.std.specs.FinMap as map
use Rattle.fs_model.specs.Objects.{look, read_object, with_object, without_object}
use Rattle.fs_model.specs.Rows.{both_there}
use Rattle.fs_model.proofs.Moves.{read-touched, moved, there-moved, second}
use Rattle.fs_model.proofs.plain.PlainObjects.move_object.Goals as goal

pub replace-requires : goal.replace-requires
replace-requires c =
    let O = c.args.self.now in
    let coll = c.args.c.now in
    let o = c.args.o.now in
    let c2 = c.args.c2.now in
    let o2 = c.args.o2.now in
    let both : both_there O coll c2 ≡ true = sym c.if-not-has_both.ensures in
    ap (λ X. is_some (look X c2 o2)) (c.take-moved.ensures.left ∙ ap (λ X. without_object X coll o) c.in_ok-edit.ensures.ok)
    ∙ there-moved O coll o c2 o2 (read_object O c2 o2) (second (map.contains_key O coll) (map.contains_key O c2) both) c.requires

pub returns-clause-ok : goal.returns-clause-ok
returns-clause-ok c =
    let O = c.args.self.now in
    let coll = c.args.c.now in
    let o = c.args.o.now in
    let c2 = c.args.c2.now in
    let o2 = c.args.o2.now in
    let x = read_object O c2 o2 in
    let both : both_there O coll c2 ≡ true = sym c.if-not-has_both.ensures in
    let made : c.edit.new.self ≡ with_object O c2 o2 x = c.in_ok-edit.ensures.ok in
    c.replace.ensures
    ∙ ap (λ X. with_object X c2 o2 c.take-moved.result) (c.take-moved.ensures.left ∙ ap (λ X. without_object X coll o) made)
    ∙ ap (with_object (without_object (with_object O c2 o2 x) coll o) c2 o2) (c.take-moved.ensures.taken ∙ ap (λ X. read_object X coll o) made ∙ read-touched O c2 o2 coll o)
    ∙ moved O coll o c2 o2 x (read_object O coll o)
    ∙ ap (λ b. cond b (with_object (without_object O coll o) c2 o2 (read_object O coll o)) O) (sym both)
