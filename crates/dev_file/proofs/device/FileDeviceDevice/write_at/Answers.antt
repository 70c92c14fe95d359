use Rattle.std.proofs.Common.{◌≡◌, ◌+◌, ◌-◌, ◌≤◌, length, take, slice_range, inl, arith, rules}
use Rattle.std.proofs.lemmas.List.{places}
use Rattle.dev_api.specs.Disk.{put}
use Rattle.dev_file.specs.Honest.{replay}
use Rattle.dev_file.proofs.Pieces.{so_far-more, past_more}
use Rattle.dev_file.proofs.device.FileDeviceDevice.write_at.Goals as goal
use Rattle.dev_file.proofs.device.FileDeviceDevice.write_at.Goals.{in-Ok, in-Err}

pub loop-preserved : goal.loop-preserved
loop-preserved g c =
    let b = c.args.bytes.now in
    let done = c.loop.done in
    let inv = c.loop.invariant in
    let old = replay g.S.Start.first (g.C.Calls.history c.args.self.now.calls) in
    let m = replay g.S.Start.first (g.C.Calls.history c.loop.self.calls) in
    let left : length (slice_range b done (length b)) ≡ length b - done = search (rules, places) in
    elim c.match-write_some.branch [
      | in-Ok w ↦
          let n = w.in-Ok.n in
          let le : done + n ≤ length b = omega (arith, left, w.in-Ok.ensures.count.1, inv.within) in
          rw w.self-is (rw w.done-is (rw w.in-Ok.ensures.noted (record {
            within = le;
            size = inv.size;
            faults = inv.faults;
            honest = λ h. inv.honest h.0;
            fits = λ h. inv.fits h.0;
            disk = λ h. so_far-more old.disk m.disk c.args.at done n b le (inv.fits h.0) (inv.disk h.0);
            past = λ h. past_more old.disk m.disk old.past m.past c.args.at done n b le (inv.fits h.0) (inv.disk h.0) (inv.past h.0);
          })))
      | in-Err w ↦
          rw w.self-is (rw w.done-is (rw w.in-Err.ensures.noted (record {
            within = inv.within;
            size = inv.size;
            faults = inv.faults;
            honest = λ h. inv.honest h.0;
            fits = λ h. inv.fits h.0;
            disk = λ h. inv.disk h.0;
            past = λ h. inv.past h.0;
          })))
    ]

pub returns-in-Err-2-clause-refused : goal.returns-in-Err-2-clause-refused
returns-in-Err-2-clause-refused g c =
    let inv = c.loop.invariant in
    let old = replay g.S.Start.first (g.C.Calls.history c.args.self.now.calls) in
    rw c.in-Err-2.ensures.noted λ told err. (put old.disk.reads c.args.at (take c.loop.done c.args.bytes.now), record { is = inv.disk told.1.0; history = inl (inv.past told.1.0) })
