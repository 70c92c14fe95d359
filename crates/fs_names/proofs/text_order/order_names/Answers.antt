use Rattle.std.proofs.Common.{sym, ap, ◌≡◌, ◌∙◌}
use Rattle.std.specs.Cmp.Lexicographic.{slice_cmp}
use Rattle.std.specs.Ordering.{nat_cmp}
use Rattle.fs_names.specs.Order.{name_unit}
use Rattle.fs_names.proofs.Loops.{differs_by, ties_by}
use Rattle.fs_names.proofs.SpelledOrder.{names_order}
use Rattle.fs_names.proofs.text_order.order_names.Goals as goal

pub returns-then-is_ne : goal.returns-then-is_ne
returns-then-is_ne c =
    let a = c.args.a.now in
    let b = c.args.b.now in
    let units : c.cmp-start.result ≡ slice_cmp nat_cmp (name_unit a) (name_unit b) =
    c.cmp-start.ensures ∙ ap (λ l. slice_cmp nat_cmp l c.slice-2.result.now) (c.slice.ensures.value ∙ c.name_unit.ensures)
    ∙ ap (slice_cmp nat_cmp (name_unit a)) (c.slice-2.ensures.value ∙ c.name_unit-2.ensures) in
    units ∙ sym ((names_order a b c.are_bytes.ensures c.are_bytes-2.ensures).other (λ e. differs_by c.cmp-start.result c.is_ne.result c.is_ne.ensures c.if-is_ne.true (units ∙ e)))

pub returns : goal.returns
returns c =
    let a = c.args.a.now in
    let b = c.args.b.now in
    let units : c.cmp-start.result ≡ slice_cmp nat_cmp (name_unit a) (name_unit b) =
    c.cmp-start.ensures ∙ ap (λ l. slice_cmp nat_cmp l c.slice-2.result.now) (c.slice.ensures.value ∙ c.name_unit.ensures)
    ∙ ap (slice_cmp nat_cmp (name_unit a)) (c.slice-2.ensures.value ∙ c.name_unit-2.ensures) in
    c.order_fields.ensures
    ∙ sym ((names_order a b c.are_bytes.ensures c.are_bytes-2.ensures).same (sym units ∙ ties_by c.cmp-start.result c.is_ne.result c.is_ne.ensures c.if-is_ne.false))
