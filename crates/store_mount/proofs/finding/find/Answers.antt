use Rattle.std.proofs.Common.{rules, arith, subst, ◌∙◌}
use Rattle.tree_api.specs.Tree.{Tree}
use Rattle.store_mount.specs.Causes.{RefusesNumber, RefusesLook, Loads}
use Rattle.store_mount.proofs.Refusals.{number_explains, look_explains}
use Rattle.store_mount.proofs.finding.find.Goals as goal

pub returns-in-Err-committed_number-clause-refused : goal.returns-in-Err-committed_number-clause-refused
returns-in-Err-committed_number-clause-refused g c = λ tells told.
    let S = g.S.Side in
    let set = S.set c.args.side.now in
    let same = (c.sync_all.ensures.synced (search rules)).stays.tree in
    let ring = c.in_ok-ring.ensures in
    let loads : Loads (g.D.Device.state c.args.dev.now).disk.reads c.args.fsid.now = record { head = c.in_ok-ring.ring.head; header = ring.head told; fsid_is = ring.fsid; unspent = ring.unspent } in
    number_explains S.fits S.number (S.laid set) (g.T.FileTree.disk c.args.tree.now).tree (g.D.Device.state c.args.dev.now).disk.reads c.args.fsid.now loads c.in-Err-committed_number.fault
    (subst (λ (t : Tree). RefusesNumber S.number t c.in-Err-committed_number.fault) same (c.in-Err-committed_number.ensures.refused (search rules)))

pub returns-then-start-committed-clause-refused : goal.returns-then-start-committed-clause-refused
returns-then-start-committed-clause-refused g c = λ tells told.
    let ring = c.in_ok-ring.ensures in
    let loads : Loads (g.D.Device.state c.args.dev.now).disk.reads c.args.fsid.now = record { head = c.in_ok-ring.ring.head; header = ring.head told; fsid_is = ring.fsid; unspent = ring.unspent } in
    let same = (c.sync_all.ensures.synced (search rules)).stays.tree in
    record {
      loads = loads;
      start_is = c.start_seq-start.ensures;
      number_is = subst (λ (t : Tree). g.S.Side.number t c.in-Ok-committed_number.committed) same (c.in-Ok-committed_number.ensures.number tells);
      gap = c.if-start-committed.true;
    }

pub returns-in-Err-look-clause-refused : goal.returns-in-Err-look-clause-refused
returns-in-Err-look-clause-refused g c = λ tells told.
    let S = g.S.Side in
    let set = S.set c.args.side.now in
    let ring = c.in_ok-ring.ensures in
    let loads : Loads (g.D.Device.state c.args.dev.now).disk.reads c.args.fsid.now = record { head = c.in_ok-ring.ring.head; header = ring.head told; fsid_is = ring.fsid; unspent = ring.unspent } in
    let one = (c.sync_all.ensures.synced (search rules)).stays.tree in
    let two = (c.committed_number.ensures.still (search rules)).stays.tree in
    let n = c.in-Ok-committed_number.committed in
    look_explains S.fits S.number (S.laid set) (g.T.FileTree.disk c.args.tree.now).tree (g.D.Device.state c.args.dev.now).disk.reads c.args.fsid.now loads n
    (subst (λ (t : Tree). S.number t n) one (c.in-Ok-committed_number.ensures.number (search rules))) (omega (arith, c.start_seq-start.ensures, c.if-start-committed.false)) c.in-Err-look.fault
    (subst (λ (t : Tree). RefusesLook (S.laid set) t c.in-Err-look.fault) (two ∙ one) (c.in-Err-look.ensures.refused (search rules)))
