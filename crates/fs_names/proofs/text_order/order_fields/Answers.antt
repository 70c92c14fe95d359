use Rattle.std.proofs.Common.{sym, ap, ◌∙◌}
use Rattle.std.specs.Cmp.Lexicographic.{slice_cmp}
use Rattle.std.specs.Ordering.{nat_cmp}
use Rattle.fs_names.specs.Order.{unit_at}
use Rattle.fs_names.proofs.SpelledOrder.{fields_order}
use Rattle.fs_names.proofs.text_order.order_fields.Goals as goal

pub returns : goal.returns
returns c =
    let a = c.args.a.now in
    let b = c.args.b.now in
    let d = c.first_difference-place in
    c.cmp.ensures ∙ ap (λ l. slice_cmp nat_cmp l c.slice-2.result.now) (c.slice.ensures.value ∙ c.at.ensures)
    ∙ ap (slice_cmp nat_cmp (unit_at a d.result)) (c.slice-2.ensures.value ∙ c.at-2.ensures)
    ∙ sym (fields_order d.result a b c.are_bytes.ensures c.are_bytes-2.ensures d.ensures.same d.ensures.first d.ensures.second d.ensures.differs)
