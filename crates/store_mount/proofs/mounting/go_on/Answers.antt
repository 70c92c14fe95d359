use Rattle.std.proofs.Common.{rules, arith, ◌≡◌, ◌+◌, List, length, ap}
use Rattle.dev_api.proofs.Run.{keeps_same}
use Rattle.ring_frame.specs.Frame.{Entry}
use Rattle.ring_frame.specs.Heads.{Head}
use Rattle.ring_images.specs.Held.{readable, EachSound}
use Rattle.store_history.specs.History.{replay_of}
use Rattle.store_history.specs.Journal.{Spells, above, IsAbove, RingSide}
use Rattle.store_mount.proofs.Going.{tidied_keeps, tidied_reads}
use Rattle.store_mount.proofs.Numbers.{last_number}
use Rattle.store_mount.proofs.Reopened.{loaded_above, as_loaded}
use Rattle.store_mount.proofs.Told.{ended_length}
use Rattle.store_mount.proofs.mounting.go_on.Goals as goal

pub returns-in-Err-clause-crash : goal.returns-in-Err-clause-crash
returns-in-Err-clause-crash g c = λ told txns spells.
    keeps_same (EachSound (IsAbove c.args.ring.now.head.fsid c.args.committed txns)) (g.D.Device.state c.args.dev.now).disk (g.D.Device.state c.replay.new.dev).disk _ _
    (c.replay.ensures.disk told) (c.replay.ensures.past told) (loaded_above c.args.ring.now _ c.args.committed (c.requires.loaded (search rules)) c.requires.no_gap txns spells)

pub returns-in_err-tidy-clause-keeps : goal.returns-in_err-tidy-clause-keeps
returns-in_err-tidy-clause-keeps g c = λ tells told.
    let S = g.S.Side in
    tidied_keeps (S.image (S.set c.args.side.now)) c.args.committed c.args.ring.now.head.seq (readable (g.D.Device.state c.args.dev.now).disk.stable)
    (g.T.FileTree.disk c.args.tree.now) (g.T.FileTree.disk c.replay.new.tree) (g.T.FileTree.disk c.tidy.new.tree) (g.met.T.FileTree.sound c.replay.new.tree (search rules))
    (c.replay.ensures.keeps (search rules) (search rules)) (c.tidy.ensures.keeps (search rules))

pub returns-in_err-tidy-clause-crash : goal.returns-in_err-tidy-clause-crash
returns-in_err-tidy-clause-crash g c = λ told txns spells.
    keeps_same (EachSound (IsAbove c.args.ring.now.head.fsid c.args.committed txns)) (g.D.Device.state c.args.dev.now).disk (g.D.Device.state c.replay.new.dev).disk _ _
    (c.replay.ensures.disk told) (c.replay.ensures.past told) (loaded_above c.args.ring.now _ c.args.committed (c.requires.loaded (search rules)) c.requires.no_gap txns spells)

pub returns-in_err-reopen-clause-keeps : goal.returns-in_err-reopen-clause-keeps
returns-in_err-reopen-clause-keeps g c = λ tells told.
    let S = g.S.Side in
    tidied_keeps (S.image (S.set c.args.side.now)) c.args.committed c.args.ring.now.head.seq (readable (g.D.Device.state c.args.dev.now).disk.stable)
    (g.T.FileTree.disk c.args.tree.now) (g.T.FileTree.disk c.replay.new.tree) (g.T.FileTree.disk c.tidy.new.tree) (g.met.T.FileTree.sound c.replay.new.tree (search rules))
    (c.replay.ensures.keeps (search rules) (search rules)) (c.tidy.ensures.keeps (search rules))

pub returns-clause-keeps : goal.returns-clause-keeps
returns-clause-keeps g c = λ tells told.
    let S = g.S.Side in
    tidied_keeps (S.image (S.set c.args.side.now)) c.args.committed c.args.ring.now.head.seq (readable (g.D.Device.state c.args.dev.now).disk.stable)
    (g.T.FileTree.disk c.args.tree.now) (g.T.FileTree.disk c.replay.new.tree) (g.T.FileTree.disk c.tidy.new.tree) (g.met.T.FileTree.sound c.replay.new.tree (search rules))
    (c.replay.ensures.keeps (search rules) (search rules)) (c.tidy.ensures.keeps (search rules))

pub returns-clause-done : goal.returns-clause-done
returns-clause-done g c = λ tells told.
    let S = g.S.Side in
    let set = S.set c.args.side.now in
    tidied_reads (S.image set) c.args.committed c.args.ring.now.head.seq (readable (g.D.Device.state c.args.dev.now).disk.stable)
    (g.T.FileTree.disk c.args.tree.now) (g.T.FileTree.disk c.replay.new.tree) (g.T.FileTree.disk c.tidy.new.tree) (S.reads set)
    (c.in-Ok.ensures.done (search rules) (search rules)) (c.tidy.ensures.reads (search rules))

pub returns-clause-ring : goal.returns-clause-ring
returns-clause-ring g c = λ told before txns.
    let m = c.args.committed in
    as_loaded (λ (h : Head) (es : List Entry). Spells (above m h.seq es) txns
    → RingSide h.fsid (replay_of m before txns) m (m + length txns) (m + length txns) c.reopen.new.ring (g.D.Device.state c.reopen.new.dev).disk)
    c.args.ring.now.head c.replay.new.ring.head (g.D.Device.state c.args.dev.now).disk (g.D.Device.state c.replay.new.dev).disk
    c.replay.ensures.head (c.replay.ensures.disk (search rules)) (c.in_ok-reopen.ensures.done told txns before)

pub returns-clause-last : goal.returns-clause-last
returns-clause-last g c = λ told txns.
    let m = c.args.committed in
    let seq : c.replay.new.ring.head.seq ≡ c.args.ring.now.head.seq = ap (λ (h : Head). h.seq) c.replay.ensures.head in
    as_loaded (λ (h : Head) (es : List Entry). Spells (above m h.seq es) txns → c.reopen.new.ring.head.seq + c.reopen.new.ring.count ≡ m + length txns + 1)
    c.args.ring.now.head c.replay.new.ring.head (g.D.Device.state c.args.dev.now).disk (g.D.Device.state c.replay.new.dev).disk
    c.replay.ensures.head (c.replay.ensures.disk (search rules))
    (last_number c.replay.new.ring c.reopen.new.ring (c.replay.new.ring.head.epoch + 1) m (readable (g.D.Device.state c.replay.new.dev).disk.stable) txns c.in_ok-reopen.ensures.numbers
    (omega (arith, seq, c.requires.no_gap)) (ended_length c.replay.new.ring (g.D.Device.state c.replay.new.dev).disk (c.in-Ok.ensures.ended (search rules))))
