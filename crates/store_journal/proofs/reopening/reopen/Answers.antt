use Rattle.std.proofs.Common.{◌+◌, rules}
use Rattle.dev_api.proofs.Run.{keeps_weaker}
use Rattle.ring_images.specs.Held.{readable}
use Rattle.store_journal.proofs.Reopens.{reopen_crash, reopen_done}
use Rattle.store_journal.proofs.reopening.reopen.Goals as goal

pub returns-in_err-begin-clause-crash : goal.returns-in_err-begin-clause-crash
returns-in_err-begin-clause-crash g c = λ t txns spells.
    let d = (g.D.Device.state c.args.dev.now).disk in
    let s = c.args.ring.now in
    let n = c.args.committed in
    let ended = c.requires.ended (search rules) in
    let numbered = c.numbers_law.ensures.read d.stable s.head ended.1.header in
    let kept = c.numbers_law.ensures.from (n + 1) s.head.seq (readable d.stable) numbered in
    keeps_weaker _ _ (reopen_crash s d ended n c.requires.no_gap numbered kept txns spells) _ _ _ (c.begin.ensures.crash (search rules))

pub returns-clause-crash : goal.returns-clause-crash
returns-clause-crash g c = λ t txns spells.
    let d = (g.D.Device.state c.args.dev.now).disk in
    let s = c.args.ring.now in
    let n = c.args.committed in
    let ended = c.requires.ended (search rules) in
    let numbered = c.numbers_law.ensures.read d.stable s.head ended.1.header in
    let kept = c.numbers_law.ensures.from (n + 1) s.head.seq (readable d.stable) numbered in
    keeps_weaker _ _ (reopen_crash s d ended n c.requires.no_gap numbered kept txns spells) _ _ _ (c.begin.ensures.crash (search rules))

pub returns-clause-done : goal.returns-clause-done
returns-clause-done g c = λ t txns before spells.
    let d = (g.D.Device.state c.args.dev.now).disk in
    let s = c.args.ring.now in
    let n = c.args.committed in
    let ended = c.requires.ended (search rules) in
    let numbered = c.numbers_law.ensures.read d.stable s.head ended.1.header in
    let kept = c.numbers_law.ensures.from (n + 1) s.head.seq (readable d.stable) numbered in
    reopen_done s d ended n c.requires.no_gap numbered kept txns spells before c.begin.new.self (g.D.Device.state c.begin.new.dev).disk (c.in_ok-begin.ensures.head (search rules)) (c.in_ok-begin.ensures.done (search rules))
