use Rattle.std.proofs.Common.{sym, ap, ◌∙◌}
use Rattle.ring_frame.specs.Frame.{stands_at}
use Rattle.ring_frame.proofs.Seals.{fault_short, fault_magic, fault_ring, fault_place, fault_seal}
use Rattle.ring_frame.proofs.reading.first_fault.Goals as goal

pub returns-then-bytes-lt64 : goal.returns-then-bytes-lt64
returns-then-bytes-lt64 c = sym (fault_short c.args.fsid.now c.args.place c.args.bytes.now c.if-bytes-lt64.true)

pub returns-then-not-stands_at : goal.returns-then-not-stands_at
returns-then-not-stands_at c = sym (fault_magic c.args.fsid.now c.args.place c.args.bytes.now c.if-bytes-lt64.false (sym c.stands_at.ensures ∙ c.if-not-stands_at.true))

pub returns-then-not-stands_at-2 : goal.returns-then-not-stands_at-2
returns-then-not-stands_at-2 c =
    sym (fault_ring c.args.fsid.now c.args.place c.args.bytes.now c.if-bytes-lt64.false (sym c.stands_at.ensures ∙ c.if-not-stands_at.false)
    (sym c.stands_at-2.ensures ∙ c.if-not-stands_at-2.true))

pub returns-then-not-stands_at-3 : goal.returns-then-not-stands_at-3
returns-then-not-stands_at-3 c =
    sym (fault_place c.args.fsid.now c.args.place c.args.bytes.now c.if-bytes-lt64.false (sym c.stands_at.ensures ∙ c.if-not-stands_at.false)
    (sym c.stands_at-2.ensures ∙ c.if-not-stands_at-2.false)
    (ap (stands_at c.args.bytes.now 16) (sym c.to_be_bytes.ensures) ∙ sym c.stands_at-3.ensures ∙ c.if-not-stands_at-3.true))

pub returns : goal.returns
returns c =
    c.seal_fault.ensures
    ∙ sym (fault_seal c.args.fsid.now c.args.place c.args.bytes.now c.if-bytes-lt64.false (sym c.stands_at.ensures ∙ c.if-not-stands_at.false)
    (sym c.stands_at-2.ensures ∙ c.if-not-stands_at-2.false)
    (ap (stands_at c.args.bytes.now 16) (sym c.to_be_bytes.ensures) ∙ sym c.stands_at-3.ensures ∙ c.if-not-stands_at-3.false))
