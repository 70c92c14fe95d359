use Rattle.std.proofs.Common.{◌+◌, inr, rules}
use Rattle.dev_api.proofs.Run.{keeps_weaker}
use Rattle.ring_images.specs.Held.{readable}
use Rattle.store_journal.proofs.GivesUp.{give_up_crash, give_up_done}
use Rattle.store_journal.proofs.giving_up.give_up.Goals as goal

pub returns-in_err-trim-clause-crash : goal.returns-in_err-trim-clause-crash
returns-in_err-trim-clause-crash g c = λ t fsid h p synced hi most side.
    let d = (g.D.Device.state c.args.dev.now).disk in
    let s = c.args.ring.now in
    let n = c.args.number in
    let numbered = c.numbers_law.ensures.read d.asked s.head side.ring.holds.2.ready.on.header_now in
    let kept = c.numbers_law.ensures.from (n + 1) s.head.seq (readable d.asked) numbered in
    keeps_weaker _ _ (give_up_crash fsid h p synced hi s d side n c.requires.least most numbered kept) _ _ _ (c.trim.ensures.crash (search rules))

pub returns-clause-crash : goal.returns-clause-crash
returns-clause-crash g c = λ t fsid h p synced hi most side.
    let d = (g.D.Device.state c.args.dev.now).disk in
    let s = c.args.ring.now in
    let n = c.args.number in
    let numbered = c.numbers_law.ensures.read d.asked s.head side.ring.holds.2.ready.on.header_now in
    let kept = c.numbers_law.ensures.from (n + 1) s.head.seq (readable d.asked) numbered in
    keeps_weaker _ _ (give_up_crash fsid h p synced hi s d side n c.requires.least most numbered kept) _ _ _ (c.trim.ensures.crash (search rules))

pub returns-clause-done : goal.returns-clause-done
returns-clause-done g c = λ t fsid h p synced hi most side.
    let d = (g.D.Device.state c.args.dev.now).disk in
    let s = c.args.ring.now in
    let n = c.args.number in
    let numbered = c.numbers_law.ensures.read d.asked s.head side.ring.holds.2.ready.on.header_now in
    let kept = c.numbers_law.ensures.from (n + 1) s.head.seq (readable d.asked) numbered in
    give_up_done fsid h p synced hi s d side n c.requires.least most numbered kept c.trim.new.self (g.D.Device.state c.trim.new.dev).disk (c.in_ok-trim.ensures.head (search rules)) (c.in_ok-trim.ensures.done (search rules))

pub trim-requires-clause-at_end : goal.trim-requires-clause-at_end
trim-requires-clause-at_end g c = λ t. inr (c.requires.holds t)
