use Rattle.std.proofs.Common.{◌≡◌, ◌+◌, ◌-◌, ◌≤◌, ◌∙◌, length, refl, ap, rules}
use Rattle.std.proofs.lemmas.List.{places}
use Rattle.dev_file.specs.Honest.{Contents, replay}
use Rattle.dev_file.proofs.Pieces.{front_kept, front_read}
use Rattle.dev_file.proofs.device.FileDeviceDevice.read_at.Goals as goal
use Rattle.dev_file.proofs.device.FileDeviceDevice.read_at.Goals.{in-Ok, in-Err}

pub loop-preserved : goal.loop-preserved
loop-preserved g c =
    let done = c.loop.done in
    let inv = c.loop.invariant in
    let old = replay g.S.Start.first (g.C.Calls.history c.args.self.now.calls) in
    let m = replay g.S.Start.first (g.C.Calls.history c.loop.self.calls) in
    let new = c.read_some.new.into in
    let left : length new ≡ length c.loop.into - done = search (rules, places) in
    let reads : m.disk.reads ≡ old.disk.reads = ap (λ (x : Contents). x.disk.reads) inv.same in
    elim c.match-read_some.branch [
      | in-Ok w ↦
          let room : w.in-Ok.n ≤ length new = search (rules, places) in
          rw w.self-is (rw w.done-is (rw w.in-Ok.ensures.noted (record {
            within = search (rules, places);
            long = search (rules, places);
            size = inv.size;
            faults = inv.faults;
            same = inv.same;
            honest = λ h. inv.honest h.0;
            came = λ h. front_read old.disk.reads c.loop.into new c.args.at (c.args.at + done) done (length c.loop.into - done) w.in-Ok.n refl inv.within room (inv.came h.0)
                (rw (← reads) h.1);
          })))
      | in-Err w ↦
          rw w.self-is (rw w.done-is (rw w.in-Err.ensures.noted (record {
            within = search (rules, places);
            long = search (rules, places);
            size = inv.size;
            faults = inv.faults;
            same = inv.same;
            honest = λ h. inv.honest h.0;
            came = λ h. front_kept done (length c.loop.into - done) c.loop.into new inv.within ∙ inv.came h.0;
          })))
    ]
