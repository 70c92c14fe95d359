use Rattle.std.proofs.Common.{arith, ◌∙◌, sym, inl, rules}
use Rattle.store_turns.proofs.Stages.{first_pair}
use Rattle.store_turns.proofs.Next.{here_at, due_at}
use Rattle.store_turns.proofs.draining.drain.Goals as goal

pub returns-in_err-round-clause-exit : goal.returns-in_err-round-clause-exit
returns-in_err-round-clause-exit g c = λ tells told fsid h k due t may b img so fresh.
    let inv = c.loop-one.invariant in
    let k1 = inv.kept (search rules) (search rules) fsid h k due in
    let at = here_at c.args.waiting.now c.loop-one.one-index c.one-item.result _ c.loop-one-test.true c.one-item.is in
    let one = due_at h _ c.loop-one.one-index c.loop-one.core.journalled c.args.waiting.now c.one-item.result _ _ due c.loop-one-test.true at c.slice.ensures c.slice-in-loop-one.ensures inv.number in
    c.round.ensures.exit (search rules) (search rules) fsid h k1 one t may b img so fresh

pub loop-one-preserved : goal.loop-one-preserved
loop-one-preserved g c =
    let inv = c.loop-one.invariant in
    let e = c.in_ok-round.ensures in
    record {
      counts = e.counts;
      number = omega (arith, e.number, inv.number);
      extent = e.extent ∙ inv.extent ∙ sym e.size;
      size = e.size ∙ inv.size;
      fsid = e.fsid ∙ inv.fsid;
      told = λ t. inv.told (e.told t);
      honest = λ t. inv.honest (e.honest t);
      ready = e.ready;
      holds = e.holds;
      tree_faults = omega (arith, inv.tree_faults, e.tree_faults);
      device_faults = omega (arith, inv.device_faults, e.device_faults);
      kept = λ tells told fsid h k due.
          let k1 = inv.kept (e.told tells) (e.honest told) fsid h k due in
          let at = here_at c.args.waiting.now c.loop-one.one-index c.one-item.result _ c.loop-one-test.true c.one-item.is in
          let one = due_at h _ c.loop-one.one-index c.loop-one.core.journalled c.args.waiting.now c.one-item.result _ _ due c.loop-one-test.true at c.slice.ensures c.slice-in-loop-one.ensures inv.number in
          e.done tells told fsid h k1 one;
    }

pub returns-then-core-clause-exit : goal.returns-then-core-clause-exit
returns-then-core-clause-exit g c = λ tells told fsid h k0 due t may b img so fresh.
    let S = g.S.Side in
    let set = S.set c.args.side.now in
    let inv = c.loop-one.invariant in
    let k = inv.kept (search rules) (search rules) fsid h k0 due in
    first_pair (S.image set) (S.reads set) S.number (S.laid set) (g.met.S.Side.theory set) h _ _ k.ring.low fsid k.ring.base k.ring.fits k.small t b (inl (k.images t may))
    (c.journal_law.ensures fsid h _ _ _ c.loop-one.ring _ k.ring b img so)

pub returns-clause-exit : goal.returns-clause-exit
returns-clause-exit g c = λ tells told fsid h k0 due t may b img so fresh.
    let inv = c.loop-one.invariant in
    let k = inv.kept (search rules) (search rules) fsid h k0 due in
    c.commit.ensures.exit (search rules) (search rules) fsid h k t may b img so fresh
