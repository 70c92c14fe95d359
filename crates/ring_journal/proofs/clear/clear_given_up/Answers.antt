use Rattle.std.proofs.Common.{rules}
use Rattle.dev_api.proofs.Run.{keeps_then}
use Rattle.ring_images.specs.Held.{Leaves}
use Rattle.ring_journal.proofs.Clears.{sync_keeps, sync_goes}
use Rattle.ring_journal.proofs.clear.clear_given_up.Goals as goal

pub returns-in_err-sync-clause-crash : goal.returns-in_err-sync-clause-crash
returns-in_err-sync-clause-crash g c = λ told h heads es was.
    let disk = λ (k : g.row.D.Denot). (g.D.Device.state k).disk in
    let past = λ (k : g.row.D.Denot). (g.D.Device.state k).past in
    let one = c.in_ok-clear_each.ensures.done (search rules) h heads es was in
    keeps_then (Leaves h es es) (disk c.clear_each.new.dev) (disk c.sync.new.self) (past c.args.dev.now) (past c.clear_each.new.dev) (past c.sync.new.self) (c.clear_each.ensures.crash (search rules) h heads es was)
    (sync_keeps h c.args.size heads es c.args.to c.sync.result (disk c.clear_each.new.dev) (disk c.sync.new.self) (past c.clear_each.new.dev) (past c.sync.new.self) one (c.sync.ensures.done (search rules)) (c.sync.ensures.refused (search rules)))

pub returns-clause-crash : goal.returns-clause-crash
returns-clause-crash g c = λ told h heads es was.
    let disk = λ (k : g.row.D.Denot). (g.D.Device.state k).disk in
    let past = λ (k : g.row.D.Denot). (g.D.Device.state k).past in
    let one = c.in_ok-clear_each.ensures.done (search rules) h heads es was in
    keeps_then (Leaves h es es) (disk c.clear_each.new.dev) (disk c.sync.new.self) (past c.args.dev.now) (past c.clear_each.new.dev) (past c.sync.new.self) (c.clear_each.ensures.crash (search rules) h heads es was)
    (sync_keeps h c.args.size heads es c.args.to c.sync.result (disk c.clear_each.new.dev) (disk c.sync.new.self) (past c.clear_each.new.dev) (past c.sync.new.self) one (c.sync.ensures.done (search rules)) (c.sync.ensures.refused (search rules)))

pub returns-clause-done : goal.returns-clause-done
returns-clause-done g c = λ told h heads es was.
    let disk = λ (k : g.row.D.Denot). (g.D.Device.state k).disk in
    let past = λ (k : g.row.D.Denot). (g.D.Device.state k).past in
    sync_goes h c.args.size heads es c.args.to (disk c.clear_each.new.dev) (disk c.sync.new.self) (past c.clear_each.new.dev) (past c.sync.new.self) (c.in_ok-clear_each.ensures.done (search rules) h heads es was) (c.in_ok-sync.ensures.done (search rules))
