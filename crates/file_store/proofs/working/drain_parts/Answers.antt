use Rattle.std.proofs.Common.{ℕ, ◌+◌, ◌<◌, ◌^◌, length, sym, subst, arith, rules}
use Rattle.store_turns.specs.Waiting.{AllFit}
use Rattle.file_store.specs.Store.{Store, working}
use Rattle.file_store.proofs.Draining.{last_is, due, on_long, leaves, holds_after, drained, counted_after}
use Rattle.file_store.proofs.working.drain_parts.Goals as goal

pub drain-requires-clause-small : goal.drain-requires-clause-small
drain-requires-clause-small g c =
    let s : Store = working c.args.parts.now.identity c.args.numbers.now c.args.ring.now c.args.queue.now in
    omega (arith, last_is s c.waiting-waiting.result.now c.waiting-waiting.ensures.txns c.requires.counted, c.last-last.ensures.number, c.last-last.ensures.small)

pub drain-requires-clause-fits : goal.drain-requires-clause-fits
drain-requires-clause-fits g c = subst (λ (n : ℕ). AllFit n c.waiting-waiting.result.now) c.requires.counted.size c.waiting-waiting.ensures.fits

pub returns-in-Err-clause-exit : goal.returns-in-Err-clause-exit
returns-in-Err-clause-exit g c = λ tells told h k.
    let s : Store = working c.args.parts.now.identity c.args.numbers.now c.args.ring.now c.args.queue.now in
    let ws = c.waiting-waiting.result.now in
    let same = c.waiting-waiting.ensures.txns in
    let t = g.T.FileTree.disk c.args.tree.now in
    let d = (g.D.Device.state c.args.dev.now).disk in
    let small : s.numbers.journalled + length ws < 2 ^ 63 = omega (arith, last_is s ws same c.requires.counted, c.last-last.ensures.number, c.last-last.ensures.small) in
    let on = on_long s ws same h t d k (g.met.T.FileTree.sound c.args.tree.now (search rules)).now c.waiting-waiting.ensures.meets small in
    leaves s ws same h t d k c.drain.new.core.journalled (g.T.FileTree.disk c.drain.new.tree) _ c.drain.ensures.grows
    (c.drain.ensures.exit (search rules) (search rules) s.identity.fsid _ on (due s ws same h t d k c.waiting-waiting.ensures.spells))

pub returns-clause-exit : goal.returns-clause-exit
returns-clause-exit g c = λ tells told h k.
    let s : Store = working c.args.parts.now.identity c.args.numbers.now c.args.ring.now c.args.queue.now in
    let ws = c.waiting-waiting.result.now in
    let same = c.waiting-waiting.ensures.txns in
    let t = g.T.FileTree.disk c.args.tree.now in
    let d = (g.D.Device.state c.args.dev.now).disk in
    let small : s.numbers.journalled + length ws < 2 ^ 63 = omega (arith, last_is s ws same c.requires.counted, c.last-last.ensures.number, c.last-last.ensures.small) in
    let on = on_long s ws same h t d k (g.met.T.FileTree.sound c.args.tree.now (search rules)).now c.waiting-waiting.ensures.meets small in
    leaves s ws same h t d k c.drain.new.core.journalled (g.T.FileTree.disk c.drain.new.tree) _ c.drain.ensures.grows
    (c.drain.ensures.exit (search rules) (search rules) s.identity.fsid _ on (due s ws same h t d k c.waiting-waiting.ensures.spells))

pub returns-clause-drained : goal.returns-clause-drained
returns-clause-drained g c =
    let e = c.in-Ok.ensures in
    drained c.args.parts.now.identity c.args.numbers.now c.drain.new.core c.args.ring.now c.drain.new.ring c.args.queue.now c.applied.new.self c.waiting-waiting.result.now
    c.requires.counted c.waiting-waiting.ensures.txns e.number e.committed c.applied.ensures e.size

pub returns-clause-counted : goal.returns-clause-counted
returns-clause-counted g c =
    let e = c.in-Ok.ensures in
    counted_after c.args.parts.now.identity c.args.numbers.now c.drain.new.core c.args.ring.now c.drain.new.ring c.args.queue.now c.applied.new.self
    c.requires.counted (drained c.args.parts.now.identity c.args.numbers.now c.drain.new.core c.args.ring.now c.drain.new.ring c.args.queue.now c.applied.new.self c.waiting-waiting.result.now
    c.requires.counted c.waiting-waiting.ensures.txns e.number e.committed c.applied.ensures e.size) e.counts e.fsid

pub returns-clause-holds : goal.returns-clause-holds
returns-clause-holds g c = λ tells told h k.
    let s : Store = working c.args.parts.now.identity c.args.numbers.now c.args.ring.now c.args.queue.now in
    let ws = c.waiting-waiting.result.now in
    let same = c.waiting-waiting.ensures.txns in
    let t = g.T.FileTree.disk c.args.tree.now in
    let d = (g.D.Device.state c.args.dev.now).disk in
    let e = c.in-Ok.ensures in
    let small : s.numbers.journalled + length ws < 2 ^ 63 = omega (arith, last_is s ws same c.requires.counted, c.last-last.ensures.number, c.last-last.ensures.small) in
    let on = on_long s ws same h t d k (g.met.T.FileTree.sound c.args.tree.now (search rules)).now c.waiting-waiting.ensures.meets small in
    holds_after s ws same h t d k c.drain.new.core c.drain.new.ring c.applied.new.self (g.T.FileTree.disk c.drain.new.tree) (g.D.Device.state c.drain.new.dev).disk
    (drained c.args.parts.now.identity c.args.numbers.now c.drain.new.core c.args.ring.now c.drain.new.ring c.args.queue.now c.applied.new.self ws
    c.requires.counted same e.number e.committed c.applied.ensures e.size) (sym e.number)
    (e.done (search rules) (search rules) s.identity.fsid _ on (due s ws same h t d k c.waiting-waiting.ensures.spells))
