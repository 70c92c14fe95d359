use Rattle.std.proofs.Common.{List, ℕ, sym, ap, ◌≡◌, ◌∙◌}
use Rattle.std.specs.declared.cmp.Ordering.{Ordering}
use Rattle.fs_names.specs.Order.{ended_cmp}
use Rattle.fs_names.specs.Text.{field_text, name_text}
use Rattle.fs_names.proofs.Loops.{first_decides, next_decides}
use Rattle.fs_names.proofs.SpelledOrder.{texts_order}
use Rattle.fs_names.proofs.text_order.order_texts.Goals as goal

pieces : (spell : List ℕ → List ℕ) (r : Ordering) (x y a b : List ℕ) → x ≡ a → y ≡ b → r ≡ ended_cmp (spell x) (spell y) → r ≡ ended_cmp (spell a) (spell b)
pieces spell r x y a b p q e = e ∙ ap (λ l. ended_cmp (spell l) (spell y)) p ∙ ap (λ l. ended_cmp (spell a) (spell l)) q

pub returns-then-is_ne : goal.returns-then-is_ne
returns-then-is_ne c = λ e.
    let a = c.args.a.now in
    let b = c.args.b.now in
    first_decides c.order_names-name.result _ c.is_ne.result _
    (pieces name_text c.order_names-name.result c.bytes.result.now c.bytes-2.result.now a.name b.name c.bytes.ensures.value c.bytes-2.ensures.value c.order_names-name.ensures)
    c.is_ne.ensures c.if-is_ne.true
    ∙ sym (texts_order a b c.fits.ensures c.fits-2.ensures e)

pub returns-then-is_ne-2 : goal.returns-then-is_ne-2
returns-then-is_ne-2 c = λ e.
    let a = c.args.a.now in
    let b = c.args.b.now in
    next_decides c.order_names-name.result _ c.is_ne.result _ _
    (pieces name_text c.order_names-name.result c.bytes.result.now c.bytes-2.result.now a.name b.name c.bytes.ensures.value c.bytes-2.ensures.value c.order_names-name.ensures)
    c.is_ne.ensures c.if-is_ne.false
    (first_decides c.order_fields-key.result _ c.is_ne-2.result _
    (pieces field_text c.order_fields-key.result c.bytes-3.result.now c.bytes-4.result.now a.key b.key c.bytes-3.ensures.value c.bytes-4.ensures.value c.order_fields-key.ensures)
    c.is_ne-2.ensures c.if-is_ne-2.true)
    ∙ sym (texts_order a b c.fits.ensures c.fits-2.ensures e)

pub returns : goal.returns
returns c = λ e.
    let a = c.args.a.now in
    let b = c.args.b.now in
    next_decides c.order_names-name.result _ c.is_ne.result _ _
    (pieces name_text c.order_names-name.result c.bytes.result.now c.bytes-2.result.now a.name b.name c.bytes.ensures.value c.bytes-2.ensures.value c.order_names-name.ensures)
    c.is_ne.ensures c.if-is_ne.false
    (next_decides c.order_fields-key.result _ c.is_ne-2.result _ _
    (pieces field_text c.order_fields-key.result c.bytes-3.result.now c.bytes-4.result.now a.key b.key c.bytes-3.ensures.value c.bytes-4.ensures.value c.order_fields-key.ensures)
    c.is_ne-2.ensures c.if-is_ne-2.false c.order_ends.ensures)
    ∙ sym (texts_order a b c.fits.ensures c.fits-2.ensures e)
