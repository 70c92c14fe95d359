use Rattle.std.proofs.Common.{arith, rules}
use Rattle.tree_api.proofs.Moments.{now_from}
use Rattle.store_turns.proofs.Stages.{first_pair, second_pair, committed_kept, committed_counts}
use Rattle.store_turns.proofs.committing.commit.Goals as goal

pub returns-in_err-put_number-clause-exit : goal.returns-in_err-put_number-clause-exit
returns-in_err-put_number-clause-exit g c = λ tells told fsid h k t may b img so fresh.
    let S = g.S.Side in
    let set = S.set c.args.side.now in
    let keeps = c.put_number.ensures.keeps (search rules) h _ k.ring.low k.images k.reads in
    let j = c.journal_law.ensures fsid h _ _ _ c.args.ring.now _ k.ring b img so in
    first_pair (S.image set) (S.reads set) S.number (S.laid set) (g.met.S.Side.theory set) h _ _ k.ring.low fsid k.ring.base k.ring.fits k.small t b
    (now_from _ _ _ (g.met.T.FileTree.sound c.put_number.new.tree (search rules)) keeps t may) j

pub returns-in_err-give_up-clause-exit : goal.returns-in_err-give_up-clause-exit
returns-in_err-give_up-clause-exit g c = λ tells told fsid h k t may b img so fresh.
    let S = g.S.Side in
    let set = S.set c.args.side.now in
    let images = c.in_ok-put_number.ensures.done (search rules) h _ k.ring.low k.images k.reads in
    second_pair (S.image set) (S.reads set) S.number (S.laid set) (g.met.S.Side.theory set) h _ _ k.ring.low fsid k.ring.base k.ring.fits k.small t b (images t may)
    ((c.give_up.ensures.crash (search rules) fsid h _ _ _ (omega arith) k.ring).has b img so)

pub returns-clause-exit : goal.returns-clause-exit
returns-clause-exit g c = λ tells told fsid h k t may b img so fresh.
    let S = g.S.Side in
    let set = S.set c.args.side.now in
    let images = c.in_ok-put_number.ensures.done (search rules) h _ k.ring.low k.images k.reads in
    second_pair (S.image set) (S.reads set) S.number (S.laid set) (g.met.S.Side.theory set) h _ _ k.ring.low fsid k.ring.base k.ring.fits k.small t b (images t may)
    ((c.give_up.ensures.crash (search rules) fsid h _ _ _ (omega arith) k.ring).has b img so)

pub returns-clause-counts : goal.returns-clause-counts
returns-clause-counts g c =
    committed_counts c.args.core.now c.args.ring.now c.give_up.new.ring c.requires.counts c.requires.raises c.in_ok-give_up.ensures.numbers

pub returns-clause-emptied : goal.returns-clause-emptied
returns-clause-emptied g c =
    let on = c.in_ok-give_up.ensures.numbers in
    let k = c.requires.counts.counts in
    on.emptied (on.none (omega (arith, k.count)))

pub returns-clause-done : goal.returns-clause-done
returns-clause-done g c = λ tells told fsid h k.
    let S = g.S.Side in
    let set = S.set c.args.side.now in
    let images = c.in_ok-put_number.ensures.done (search rules) h _ k.ring.low k.images k.reads in
    committed_kept (S.image set) (S.reads set) fsid h c.args.core.now (g.T.FileTree.disk c.args.tree.now) _ _ k (g.T.FileTree.disk c.put_number.new.tree) _ _ images (c.put_number.ensures.reads (search rules) h k.reads) (c.in_ok-give_up.ensures.done (search rules) fsid h _ _ _ (omega arith) k.ring)
