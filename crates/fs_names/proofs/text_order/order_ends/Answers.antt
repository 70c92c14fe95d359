use Rattle.std.proofs.Common.{List, ℕ, ap, ◌≡◌, ◌∙◌}
use Rattle.std.specs.Cmp.Lexicographic.{slice_cmp}
use Rattle.std.specs.Ordering.{nat_cmp}
use Rattle.std.specs.declared.cmp.Ordering.{Ordering}
use Rattle.fs_names.specs.declared.oid.Snap.{Snap}
use Rattle.fs_names.specs.Order.{ended_cmp}
use Rattle.fs_names.specs.Text.{field_text, snap_text, pool_text}
use Rattle.fs_names.proofs.Inner.{snap_field}
use Rattle.fs_names.proofs.Loops.{first_decides, next_decides}
use Rattle.fs_names.proofs.text_order.order_ends.Goals as goal

snaps : (r : Ordering) (x y : List ℕ) (a b : Snap) → x ≡ snap_text a → y ≡ snap_text b → r ≡ ended_cmp (field_text x) (field_text y) → r ≡ ended_cmp (snap_text a) (snap_text b)
snaps r x y a b p q e =
    e ∙ ap (λ l. ended_cmp l (field_text y)) (ap field_text p ∙ snap_field a) ∙ ap (ended_cmp (snap_text a)) (ap field_text q ∙ snap_field b)

spaces : (r : Ordering) (x y a b : List ℕ) → x ≡ a → y ≡ b → r ≡ ended_cmp (field_text x) (field_text y) → r ≡ ended_cmp (field_text a) (field_text b)
spaces r x y a b p q e = e ∙ ap (λ l. ended_cmp (field_text l) (field_text y)) p ∙ ap (λ l. ended_cmp (field_text a) (field_text l)) q

pub returns-then-is_ne : goal.returns-then-is_ne
returns-then-is_ne c =
    let a = c.args.a.now in
    let b = c.args.b.now in
    first_decides c.order_fields-snap.result _ c.is_ne.result _
    (snaps c.order_fields-snap.result c.slice.result.now c.slice-2.result.now a.snap b.snap (c.slice.ensures.value ∙ c.of_snap.ensures) (c.slice-2.ensures.value ∙ c.of_snap-2.ensures)
    c.order_fields-snap.ensures) c.is_ne.ensures c.if-is_ne.true

pub returns-then-is_ne-2 : goal.returns-then-is_ne-2
returns-then-is_ne-2 c =
    let a = c.args.a.now in
    let b = c.args.b.now in
    next_decides c.order_fields-snap.result _ c.is_ne.result _ _
    (snaps c.order_fields-snap.result c.slice.result.now c.slice-2.result.now a.snap b.snap (c.slice.ensures.value ∙ c.of_snap.ensures) (c.slice-2.ensures.value ∙ c.of_snap-2.ensures)
    c.order_fields-snap.ensures) c.is_ne.ensures c.if-is_ne.false
    (first_decides c.order_fields-nspace.result _ c.is_ne-2.result _
    (spaces c.order_fields-nspace.result c.bytes.result.now c.bytes-2.result.now a.nspace b.nspace c.bytes.ensures.value c.bytes-2.ensures.value c.order_fields-nspace.ensures)
    c.is_ne-2.ensures c.if-is_ne-2.true)

pub returns : goal.returns
returns c =
    let a = c.args.a.now in
    let b = c.args.b.now in
    next_decides c.order_fields-snap.result _ c.is_ne.result _ _
    (snaps c.order_fields-snap.result c.slice.result.now c.slice-2.result.now a.snap b.snap (c.slice.ensures.value ∙ c.of_snap.ensures) (c.slice-2.ensures.value ∙ c.of_snap-2.ensures)
    c.order_fields-snap.ensures) c.is_ne.ensures c.if-is_ne.false
    (next_decides c.order_fields-nspace.result _ c.is_ne-2.result _ _
    (spaces c.order_fields-nspace.result c.bytes.result.now c.bytes-2.result.now a.nspace b.nspace c.bytes.ensures.value c.bytes-2.ensures.value c.order_fields-nspace.ensures)
    c.is_ne-2.ensures c.if-is_ne-2.false
    (c.cmp.ensures ∙ ap (λ l. slice_cmp nat_cmp l c.slice-4.result.now) (c.slice-3.ensures.value ∙ c.of_pool-pool.ensures)
    ∙ ap (slice_cmp nat_cmp (pool_text a.pool)) (c.slice-4.ensures.value ∙ c.of_pool.ensures)))
