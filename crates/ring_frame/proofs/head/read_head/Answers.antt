use Rattle.std.proofs.Common.{rules, sym, ap, ◌∙◌, arith}
use Rattle.std.specs.Prelude.{Some}
use Rattle.ring_frame.specs.Frame.{stands_at}
use Rattle.ring_frame.specs.Heads.{Head, head_fits}
use Rattle.ring_frame.proofs.Headers.{read_no_magic, read_bad_digest, read_unfit, read_told}
use Rattle.ring_frame.proofs.head.read_head.Goals as goal

pub returns-then-not-stands_at : goal.returns-then-not-stands_at
returns-then-not-stands_at c =
    sym (read_no_magic c.args.bytes.now c.args.size (omega (arith, c.told-bytes)) (search rules) (sym c.stands_at.ensures ∙ c.if-not-stands_at.true))

pub returns-then-not-stands_at-2 : goal.returns-then-not-stands_at-2
returns-then-not-stands_at-2 c =
    sym (read_bad_digest c.args.bytes.now c.args.size (omega (arith, c.told-bytes)) (search rules) (sym c.stands_at.ensures ∙ c.if-not-stands_at.false)
    (ap (stands_at c.args.bytes.now 64) (sym c.digest.ensures) ∙ sym c.stands_at-2.ensures ∙ c.if-not-stands_at-2.true))

pub returns-then-fits : goal.returns-then-fits
returns-then-fits c =
    ap (λ (h : Head). Some h) c.told_head-head.ensures
    ∙ sym (read_told c.args.bytes.now c.args.size (omega (arith, c.told-bytes)) (search rules) (sym c.stands_at.ensures ∙ c.if-not-stands_at.false)
    (ap (stands_at c.args.bytes.now 64) (sym c.digest.ensures) ∙ sym c.stands_at-2.ensures ∙ c.if-not-stands_at-2.false)
    (ap (head_fits c.args.size) (sym c.told_head-head.ensures) ∙ sym c.fits.ensures ∙ c.if-fits.true))

pub returns-else-fits : goal.returns-else-fits
returns-else-fits c =
    sym (read_unfit c.args.bytes.now c.args.size (omega (arith, c.told-bytes)) (search rules) (sym c.stands_at.ensures ∙ c.if-not-stands_at.false)
    (ap (head_fits c.args.size) (sym c.told_head-head.ensures) ∙ sym c.fits.ensures ∙ c.if-fits.false))
