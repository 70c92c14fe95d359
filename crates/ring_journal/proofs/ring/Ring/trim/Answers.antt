use Rattle.std.proofs.Common.{rules, ◌≡◌, ℕ, ◌+◌, List, subst}
use Rattle.dev_api.specs.Disk.{Disk}
use Rattle.dev_api.specs.Run.{Keeps}
use Rattle.dev_api.proofs.Run.{keeps_sync}
use Rattle.ring_frame.specs.Frame.{Entry}
use Rattle.ring_images.specs.Held.{readable, LeavesEither}
use Rattle.ring_journal.specs.State.{State, NowHolds, GoesOn, from, head_from, trimmed_head}
use Rattle.ring_journal.proofs.Anew.{sync_done, sync_refused, then_keeps, mid_reads, mid_ended}
use Rattle.ring_journal.proofs.ring.Ring.trim.Goals as goal

pub returns-in_err-sync-clause-crash : goal.returns-in_err-sync-clause-crash
returns-in_err-sync-clause-crash g c = λ told.
    let s : State = c.args.self.now in
    let d : Disk = (g.D.Device.state c.args.dev.now).disk in
    let R : List Entry = readable d.asked in
    let h = trimmed_head s c.args.seq R in
    let rest : List Entry = from (c.args.seq + 1) R in
    let at_end = c.requires.at_end (search rules) in
    keeps_sync (LeavesEither s.head (readable d.stable) R h rest) c.sync.result d (g.D.Device.state c.sync.new.self).disk (g.D.Device.state c.args.dev.now).past (g.D.Device.state c.sync.new.self).past
    (c.sync.ensures.done (search rules)) (c.sync.ensures.refused (search rules)) (sync_done s d h rest at_end) (sync_refused s d h rest at_end)

pub go_on-requires-clause-ended : goal.go_on-requires-clause-ended
go_on-requires-clause-ended g c = λ told.
    mid_ended c.args.self.now (g.D.Device.state c.args.dev.now).disk (g.D.Device.state c.sync.new.self).disk (c.requires.at_end (search rules)) (c.in_ok-sync.ensures.done (search rules)).is

pub returns-in_err-go_on-clause-crash : goal.returns-in_err-go_on-clause-crash
returns-in_err-go_on-clause-crash g c = λ told.
    let s : State = c.args.self.now in
    let d : Disk = (g.D.Device.state c.args.dev.now).disk in
    let mid : Disk = (g.D.Device.state c.sync.new.self).disk in
    let at_end = c.requires.at_end (search rules) in
    let goes = c.in_ok-sync.ensures.done (search rules) in
    let e : readable mid.stable ≡ readable d.asked = mid_reads s d mid at_end goes.is in
    let new : Disk = (g.D.Device.state c.go_on.new.dev).disk in
    let now = (g.D.Device.state c.go_on.new.dev).past in
    let between = (g.D.Device.state c.sync.new.self).past in
    let seq : ℕ = (c.args.seq + 1) in
    let kept = subst (λ (x : ℕ). Keeps (LeavesEither s.head (readable mid.stable) (readable mid.stable) (head_from s x seq (readable mid.stable)) (from seq (readable mid.stable))) new between now)
    c.epoch-epoch.ensures (c.go_on.ensures.crash (search rules)) in
    then_keeps s d (trimmed_head s c.args.seq (readable d.asked)) (from seq (readable d.asked)) at_end mid new (g.D.Device.state c.args.dev.now).past between now goes
    (subst (λ (l : List Entry). Keeps (LeavesEither s.head (readable mid.stable) (readable mid.stable) (trimmed_head s c.args.seq l) (from seq l)) new between now) e kept)

pub returns-clause-crash : goal.returns-clause-crash
returns-clause-crash g c = λ told.
    let s : State = c.args.self.now in
    let d : Disk = (g.D.Device.state c.args.dev.now).disk in
    let mid : Disk = (g.D.Device.state c.sync.new.self).disk in
    let at_end = c.requires.at_end (search rules) in
    let goes = c.in_ok-sync.ensures.done (search rules) in
    let e : readable mid.stable ≡ readable d.asked = mid_reads s d mid at_end goes.is in
    let new : Disk = (g.D.Device.state c.go_on.new.dev).disk in
    let now = (g.D.Device.state c.go_on.new.dev).past in
    let between = (g.D.Device.state c.sync.new.self).past in
    let seq : ℕ = (c.args.seq + 1) in
    let kept = subst (λ (x : ℕ). Keeps (LeavesEither s.head (readable mid.stable) (readable mid.stable) (head_from s x seq (readable mid.stable)) (from seq (readable mid.stable))) new between now)
    c.epoch-epoch.ensures (c.go_on.ensures.crash (search rules)) in
    then_keeps s d (trimmed_head s c.args.seq (readable d.asked)) (from seq (readable d.asked)) at_end mid new (g.D.Device.state c.args.dev.now).past between now goes
    (subst (λ (l : List Entry). Keeps (LeavesEither s.head (readable mid.stable) (readable mid.stable) (trimmed_head s c.args.seq l) (from seq l)) new between now) e kept)

pub returns-clause-head : goal.returns-clause-head
returns-clause-head g c = λ told.
    let s : State = c.args.self.now in
    let d : Disk = (g.D.Device.state c.args.dev.now).disk in
    let mid : Disk = (g.D.Device.state c.sync.new.self).disk in
    let e : readable mid.stable ≡ readable d.asked = mid_reads s d mid (c.requires.at_end (search rules)) (c.in_ok-sync.ensures.done (search rules)).is in
    let seq : ℕ = (c.args.seq + 1) in
    let is = subst (λ (x : ℕ). c.go_on.new.self.head ≡ head_from s x seq (readable mid.stable)) c.epoch-epoch.ensures (c.in_ok-go_on.ensures.head (search rules)) in
    subst (λ (l : List Entry). c.go_on.new.self.head ≡ trimmed_head s c.args.seq l) e is

pub returns-clause-done : goal.returns-clause-done
returns-clause-done g c = λ told.
    let s : State = c.args.self.now in
    let d : Disk = (g.D.Device.state c.args.dev.now).disk in
    let mid : Disk = (g.D.Device.state c.sync.new.self).disk in
    let e : readable mid.stable ≡ readable d.asked = mid_reads s d mid (c.requires.at_end (search rules)) (c.in_ok-sync.ensures.done (search rules)).is in
    let seq : ℕ = (c.args.seq + 1) in
    subst (λ (l : List Entry). NowHolds c.go_on.new.self (from seq l) (from seq l) (g.D.Device.state c.go_on.new.dev).disk) e (c.in_ok-go_on.ensures.done (search rules))

pub returns-clause-numbers : goal.returns-clause-numbers
returns-clause-numbers g c =
    subst (λ (x : ℕ). GoesOn c.args.self.now x (c.args.seq + 1) c.go_on.new.self) c.epoch-epoch.ensures c.in_ok-go_on.ensures.numbers
