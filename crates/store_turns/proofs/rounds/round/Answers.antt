use Rattle.std.proofs.Common.{arith, ◌+◌, sym, rules}
use Rattle.tree_api.specs.Disk.{Everywhere}
use Rattle.tree_api.proofs.Moments.{now_from}
use Rattle.store_turns.proofs.Next.{due_as, next_of}
use Rattle.store_turns.proofs.Stages.{entering, applying, entered_kept, entered_counts, back_one}
use Rattle.store_turns.proofs.rounds.round.Goals as goal

pub returns-in_err-enter-clause-exit : goal.returns-in_err-enter-clause-exit
returns-in_err-enter-clause-exit g c = λ tells told fsid h k due t may b img so fresh.
    let S = g.S.Side in
    let set = S.set c.args.side.now in
    let th = g.met.S.Side.theory set in
    let k1 = c.in_ok-make_room.ensures.done (search rules) (search rules) fsid h k in
    let n1 = c.make_room.new.core.committed in
    let m1 = c.make_room.new.core.journalled in
    let e = c.in_ok-make_room.ensures.same in
    let due1 = due_as h _ m1 _ _ (sym e) due in
    let next = next_of h m1 _ _ due1 in
    let j = (c.enter.ensures.crash (search rules) fsid h n1 m1 m1 next k1.ring).has b img so in
    entering (S.image set) (S.reads set) S.number (S.laid set) th h n1 m1 k1.ring.low fsid k1.ring.base due1.room k1.small t b (k1.images t may) j

pub returns-in_err-apply-clause-exit : goal.returns-in_err-apply-clause-exit
returns-in_err-apply-clause-exit g c = λ tells told fsid h k due t may b img so fresh.
    let S = g.S.Side in
    let set = S.set c.args.side.now in
    let th = g.met.S.Side.theory set in
    let k1 = c.in_ok-make_room.ensures.done (search rules) (search rules) fsid h k in
    let n1 = c.make_room.new.core.committed in
    let m1 = c.make_room.new.core.journalled in
    let e = c.in_ok-make_room.ensures.same in
    let due1 = due_as h _ m1 _ _ (sym e) due in
    let next = next_of h m1 _ _ due1 in
    let begun : Everywhere (g.T.FileTree.disk c.make_room.new.tree) (S.image set h n1 n1 (m1 + 1)) = λ u may. th.laws.more h n1 n1 m1 u due1.room (k1.images u may) in
    let keeps = c.apply.ensures.keeps (search rules) h n1 n1 (m1 + 1) (omega (arith, k1.ring.low)) (omega arith) tt due1.is begun (back_one (S.reads set) h m1 _ k1.reads) in
    let images = now_from _ _ _ (g.met.T.FileTree.sound c.apply.new.tree (search rules)) keeps in
    let ring = c.in_ok-enter.ensures.done (search rules) fsid h n1 m1 m1 next k1.ring in
    let j = c.journal_law.ensures fsid h n1 (m1 + 1) (m1 + 1) c.enter.new.ring _ ring b img so in
    applying (S.image set) (S.reads set) S.number (S.laid set) th h n1 m1 k1.ring.low fsid k1.ring.base due1.room k1.small t b m1 (omega arith) (images t may) j

pub returns-clause-exit : goal.returns-clause-exit
returns-clause-exit g c = λ tells told fsid h k due t may b img so fresh.
    let S = g.S.Side in
    let set = S.set c.args.side.now in
    let th = g.met.S.Side.theory set in
    let k1 = c.in_ok-make_room.ensures.done (search rules) (search rules) fsid h k in
    let n1 = c.make_room.new.core.committed in
    let m1 = c.make_room.new.core.journalled in
    let e = c.in_ok-make_room.ensures.same in
    let due1 = due_as h _ m1 _ _ (sym e) due in
    let next = next_of h m1 _ _ due1 in
    let begun : Everywhere (g.T.FileTree.disk c.make_room.new.tree) (S.image set h n1 n1 (m1 + 1)) = λ u may. th.laws.more h n1 n1 m1 u due1.room (k1.images u may) in
    let keeps = c.apply.ensures.keeps (search rules) h n1 n1 (m1 + 1) (omega (arith, k1.ring.low)) (omega arith) tt due1.is begun (back_one (S.reads set) h m1 _ k1.reads) in
    let images = now_from _ _ _ (g.met.T.FileTree.sound c.apply.new.tree (search rules)) keeps in
    let ring = c.in_ok-enter.ensures.done (search rules) fsid h n1 m1 m1 next k1.ring in
    let j = c.journal_law.ensures fsid h n1 (m1 + 1) (m1 + 1) c.enter.new.ring _ ring b img so in
    applying (S.image set) (S.reads set) S.number (S.laid set) th h n1 m1 k1.ring.low fsid k1.ring.base due1.room k1.small t b (m1 + 1) (omega arith) (images t may) j

pub returns-clause-done : goal.returns-clause-done
returns-clause-done g c = λ tells told fsid h k due.
    let S = g.S.Side in
    let set = S.set c.args.side.now in
    let th = g.met.S.Side.theory set in
    let k1 = c.in_ok-make_room.ensures.done (search rules) (search rules) fsid h k in
    let n1 = c.make_room.new.core.committed in
    let m1 = c.make_room.new.core.journalled in
    let e = c.in_ok-make_room.ensures.same in
    let due1 = due_as h _ m1 _ _ (sym e) due in
    let next = next_of h m1 _ _ due1 in
    let begun : Everywhere (g.T.FileTree.disk c.make_room.new.tree) (S.image set h n1 n1 (m1 + 1)) = λ u may. th.laws.more h n1 n1 m1 u due1.room (k1.images u may) in
    let keeps = c.apply.ensures.keeps (search rules) h n1 n1 (m1 + 1) (omega (arith, k1.ring.low)) (omega arith) tt due1.is begun (back_one (S.reads set) h m1 _ k1.reads) in
    let images = now_from _ _ _ (g.met.T.FileTree.sound c.apply.new.tree (search rules)) keeps in
    let ring = c.in_ok-enter.ensures.done (search rules) fsid h n1 m1 m1 next k1.ring in
    let live = c.in_ok-apply.ensures.done (search rules) h n1 n1 (m1 + 1) (omega (arith, k1.ring.low)) (omega arith) tt due1.is begun (back_one (S.reads set) h m1 _ k1.reads) in
    entered_kept (S.image set) (S.reads set) fsid h c.make_room.new.core (g.T.FileTree.disk c.make_room.new.tree) _ _ k1 (g.T.FileTree.disk c.apply.new.tree) _ _ images live ring

pub returns-clause-counts : goal.returns-clause-counts
returns-clause-counts g c =
    entered_counts c.make_room.new.core c.make_room.new.ring c.enter.new.ring c.in_ok-make_room.ensures.counts c.enter.ensures.head c.in_ok-enter.ensures.count
    (omega (arith, c.requires.small, c.in_ok-make_room.ensures.same))
