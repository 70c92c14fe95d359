use Rattle.std.proofs.Common.{arith, inl}
use Rattle.store_turns.proofs.Stages.{first_pair, must_raise}
use Rattle.store_turns.proofs.rounds.make_room.Goals as goal

pub returns-then-room-free-clause-exit : goal.returns-then-room-free-clause-exit
returns-then-room-free-clause-exit g c = λ tells told fsid h k t may b img so fresh.
    let S = g.S.Side in
    let set = S.set c.args.side.now in
    first_pair (S.image set) (S.reads set) S.number (S.laid set) (g.met.S.Side.theory set) h _ _ k.ring.low fsid k.ring.base k.ring.fits k.small t b (inl (k.images t may))
    (c.journal_law.ensures fsid h _ _ _ c.args.ring.now _ k.ring b img so)

pub commit-requires-clause-raises : goal.commit-requires-clause-raises
commit-requires-clause-raises g c = must_raise c.args.core.now c.args.ring.now c.args.room c.requires.counts c.requires.fits (omega (arith, c.if-room-free.false, c.free.ensures))
