use Rattle.std.proofs.Common.{sym, ◌∙◌}
use Rattle.fs_names.proofs.Loops.{first_decides, next_decides, ties_by}
use Rattle.fs_names.proofs.OidLaw.{oid_order_by_texts}
use Rattle.fs_names.proofs.order.OidOrd.cmp.Goals as goal

pub returns-then-is_ne : goal.returns-then-is_ne
returns-then-is_ne c =
    let d = c.order_hash-digits in
    first_decides d.result _ c.is_ne.result _ d.ensures c.is_ne.ensures c.if-is_ne.true
    ∙ sym (oid_order_by_texts c.args.self.now c.args.other.now c.fits.ensures c.fits-2.ensures)

pub returns : goal.returns
returns c =
    let d = c.order_hash-digits in
    next_decides d.result _ c.is_ne.result c.order_texts.result _ d.ensures c.is_ne.ensures c.if-is_ne.false
    (c.order_texts.ensures (sym d.ensures ∙ ties_by d.result c.is_ne.result c.is_ne.ensures c.if-is_ne.false))
    ∙ sym (oid_order_by_texts c.args.self.now c.args.other.now c.fits.ensures c.fits-2.ensures)
