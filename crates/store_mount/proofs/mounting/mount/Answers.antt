use Rattle.std.proofs.Common.{rules, arith, ap, subst, sym, ◌∙◌, Err}
use Rattle.dev_api.specs.Disk.{Disk}
use Rattle.dev_api.proofs.Run.{keeps_weaker, keeps_then}
use Rattle.tree_api.specs.Tree.{Tree}
use Rattle.store_history.specs.Journal.{EachImage, Spells, above}
use Rattle.store_history.specs.Pair.{StandsAt}
use Rattle.ring_images.specs.Held.{readable, Within}
use Rattle.store_mount.specs.Causes.{RefusesReplay, Loads}
use Rattle.store_mount.specs.Mounts.{WasOrServes}
use Rattle.store_mount.proofs.Carried.{found_carries, found_trees, found_journals, run_trees, run_journals, run_carries, mounted, spells_loaded, settled_sound, all_moments}
use Rattle.store_mount.proofs.Refusals.{outside, replay_explains}
use Rattle.store_mount.proofs.mounting.mount.Goals as goal

-- ---- it finds no store

pub returns-in-Err-clause-exit : goal.returns-in-Err-clause-exit
returns-in-Err-clause-exit g c = λ tells told so.
    let S = g.S.Side in
    let set = S.set c.args.side.now in
    let d = g.D.Device.state in
    found_carries (S.image set) c.args.fsid.now (g.T.FileTree.disk c.args.tree.now) (g.T.FileTree.disk c.find.new.tree) (c.find.ensures.stays (search rules))
    (d c.args.dev.now).disk (d c.find.new.dev).disk (c.find.ensures.crash (search rules) so).has

pub returns-in-Err-clause-trees : goal.returns-in-Err-clause-trees
returns-in-Err-clause-trees g c = λ tells told o n last s.
    let S = g.S.Side in
    let set = S.set c.args.side.now in
    found_trees (S.image set) c.args.fsid.now (g.T.FileTree.disk c.args.tree.now) (g.T.FileTree.disk c.find.new.tree) (c.find.ensures.stays (search rules))
    (g.met.T.FileTree.sound c.args.tree.now (search rules)) (g.D.Device.state c.args.dev.now).disk.reads o n last

pub returns-in-Err-clause-journals : goal.returns-in-Err-clause-journals
returns-in-Err-clause-journals g c = λ tells told so o n last s.
    keeps_weaker _ _ (found_journals (g.S.Side.image (g.S.Side.set c.args.side.now)) c.args.fsid.now (g.D.Device.state c.args.dev.now).disk o n last) _ _ _ (c.find.ensures.crash (search rules) so)

pub returns-in-Err-clause-only : goal.returns-in-Err-clause-only
returns-in-Err-clause-only g c = λ tells told o n last s fit fresh.
    let S = g.S.Side in
    let set = S.set c.args.side.now in
    outside S.fits (S.image set) (S.reads set) S.number (S.laid set) (g.met.S.Side.theory set) c.args.fsid.now (g.D.Device.state c.args.dev.now).disk.reads (g.T.FileTree.disk c.args.tree.now).tree o n last s fit fresh
    c.in-Err.fault (c.in-Err.ensures.refused (search rules) (search rules))

pub returns-in-Err-clause-no_image : goal.returns-in-Err-clause-no_image
returns-in-Err-clause-no_image g c = λ told so first. (c.find.ensures.crash (search rules) so).has

pub returns-in-Err-clause-moments : goal.returns-in-Err-clause-moments
returns-in-Err-clause-moments g c = λ tells told settled fresh o n last all.
    let S = g.S.Side in
    let set = S.set c.args.side.now in
    let d = g.D.Device.state in
    let entry = (d c.args.dev.now).disk in
    let so = settled_sound entry settled (c.sound_law.ensures.stable entry) in
    let stand : (t : Tree) → (g.T.FileTree.disk c.args.tree.now).may t → StandsAt (S.image set) c.args.fsid.now t entry.reads o n last = λ t may. all t may entry.reads (g.met.D.Device.reads_image c.args.dev.now (search rules)) so fresh in
    let s = stand (g.T.FileTree.disk c.args.tree.now).tree (g.met.T.FileTree.sound c.args.tree.now (search rules)).now in
    all_moments (S.image set) c.args.fsid.now (g.T.FileTree.disk c.args.tree.now) (g.T.FileTree.disk c.find.new.tree) (d c.args.dev.now) (d c.find.new.dev) settled o n last stand
    (returns-in-Err-clause-trees g c tells told o n last s) (returns-in-Err-clause-journals g c tells told so o n last s)

-- ---- entries are done again

pub returns-in-Err-go_on-clause-exit : goal.returns-in-Err-go_on-clause-exit
returns-in-Err-go_on-clause-exit g c = λ tells told so.
    let S = g.S.Side in
    let set = S.set c.args.side.now in
    let d = g.D.Device.state in
    let found = c.in-Ok.found in
    run_carries (S.image set) (S.reads set) S.number (S.laid set) (g.met.S.Side.theory set) c.args.fsid.now (g.T.FileTree.disk c.args.tree.now) (g.T.FileTree.disk c.find.new.tree) (g.T.FileTree.disk c.go_on.new.tree) (d c.args.dev.now).disk
    found.ring.head (c.in-Ok.ensures.head (search rules)) c.in-Ok.ensures.fsid found.committed (c.in-Ok.ensures.number (search rules)) (c.in-Ok.ensures.settled (search rules))
    (g.met.T.FileTree.sound c.go_on.new.tree (search rules)) (d c.find.new.dev).disk (c.in-Ok.ensures.same (search rules)) (c.go_on.ensures.keeps (search rules) (search rules))
    (g.met.T.FileTree.sound c.args.tree.now (search rules)).now (g.met.D.Device.reads_image c.args.dev.now (search rules)) so c.in-Ok.ensures.unspent
    (d c.go_on.new.dev).disk (λ txns spells. (c.go_on.ensures.crash (search rules) txns spells).has)

pub returns-in-Err-go_on-clause-trees : goal.returns-in-Err-go_on-clause-trees
returns-in-Err-go_on-clause-trees g c = λ tells told o n last s.
    let S = g.S.Side in
    let set = S.set c.args.side.now in
    let d = g.D.Device.state in
    let found = c.in-Ok.found in
    run_trees (S.image set) (S.reads set) S.number (S.laid set) (g.met.S.Side.theory set) c.args.fsid.now (g.T.FileTree.disk c.args.tree.now) (g.T.FileTree.disk c.find.new.tree) (g.T.FileTree.disk c.go_on.new.tree) (d c.args.dev.now).disk
    found.ring.head (c.in-Ok.ensures.head (search rules)) c.in-Ok.ensures.fsid found.committed (c.in-Ok.ensures.number (search rules)) (c.in-Ok.ensures.settled (search rules))
    (g.met.T.FileTree.sound c.go_on.new.tree (search rules)) (d c.find.new.dev).disk (c.in-Ok.ensures.same (search rules)) (c.go_on.ensures.keeps (search rules) (search rules))
    o n last s
    (found_trees (S.image set) c.args.fsid.now (g.T.FileTree.disk c.args.tree.now) (g.T.FileTree.disk c.find.new.tree) (c.find.ensures.stays (search rules)) (g.met.T.FileTree.sound c.args.tree.now (search rules)) (d c.args.dev.now).disk.reads o n last)

pub returns-in-Err-go_on-clause-journals : goal.returns-in-Err-go_on-clause-journals
returns-in-Err-go_on-clause-journals g c = λ tells told so o n last s.
    let S = g.S.Side in
    let set = S.set c.args.side.now in
    let d = g.D.Device.state in
    let found = c.in-Ok.found in
    let entry = (d c.args.dev.now).disk in
    let theory = g.met.S.Side.theory set in
    let spells = spells_loaded (S.image set) (S.reads set) S.number (S.laid set) theory c.args.fsid.now (g.T.FileTree.disk c.args.tree.now) (g.T.FileTree.disk c.find.new.tree) (g.T.FileTree.disk c.go_on.new.tree) entry
    found.ring.head (c.in-Ok.ensures.head (search rules)) c.in-Ok.ensures.fsid found.committed (c.in-Ok.ensures.number (search rules)) (c.in-Ok.ensures.settled (search rules))
    (g.met.T.FileTree.sound c.go_on.new.tree (search rules)) (d c.find.new.dev).disk (c.in-Ok.ensures.same (search rules)) (c.go_on.ensures.keeps (search rules) (search rules)) o n last s in
    let P : Disk → Type 0 = EachImage (WasOrServes (S.image set) c.args.fsid.now entry o n last) in
    keeps_then P _ _ _ _ _
    (keeps_weaker _ P (found_journals (S.image set) c.args.fsid.now entry o n last) _ _ _ (c.find.ensures.crash (search rules) so))
    (keeps_weaker _ P (run_journals (S.image set) (S.reads set) S.number (S.laid set) theory c.args.fsid.now (g.T.FileTree.disk c.args.tree.now) (g.T.FileTree.disk c.find.new.tree) (g.T.FileTree.disk c.go_on.new.tree) entry
    found.ring.head (c.in-Ok.ensures.head (search rules)) c.in-Ok.ensures.fsid found.committed (c.in-Ok.ensures.number (search rules)) (c.in-Ok.ensures.settled (search rules))
    (g.met.T.FileTree.sound c.go_on.new.tree (search rules)) (d c.find.new.dev).disk (c.in-Ok.ensures.same (search rules)) (c.go_on.ensures.keeps (search rules) (search rules)) o n last s)
    _ _ _ (c.go_on.ensures.crash (search rules) s.txns spells))

pub returns-in-Err-go_on-clause-refused : goal.returns-in-Err-go_on-clause-refused
returns-in-Err-go_on-clause-refused g c = λ tells told.
    let S = g.S.Side in
    let set = S.set c.args.side.now in
    let found = c.in-Ok.found in
    let entry = (g.D.Device.state c.args.dev.now).disk in
    let loads : Loads entry.reads c.args.fsid.now = record { head = found.ring.head; header = c.in-Ok.ensures.head (search rules); fsid_is = c.in-Ok.ensures.fsid; unspent = c.in-Ok.ensures.unspent } in
    replay_explains S.fits S.number (S.laid set) (g.T.FileTree.disk c.args.tree.now).tree c.args.fsid.now entry.reads loads found.committed (c.in-Ok.ensures.number (search rules)) c.in-Ok.ensures.no_gap (c.in-Ok.ensures.laid (search rules))
    c.in-Err-go_on.fault (λ p e. c.in-Err-go_on.ensures.undamaged (search rules) p (ap Err e))
    (subst (λ (d : Disk). RefusesReplay S.fits found.committed found.ring.head.seq (readable d.stable) c.in-Err-go_on.fault) (c.in-Ok.ensures.same (search rules)) (c.in-Err-go_on.ensures.refused (search rules)))

pub returns-in-Err-go_on-clause-only : goal.returns-in-Err-go_on-clause-only
returns-in-Err-go_on-clause-only g c = λ tells told o n last s fit fresh.
    let S = g.S.Side in
    let set = S.set c.args.side.now in
    let found = c.in-Ok.found in
    let entry = (g.D.Device.state c.args.dev.now).disk in
    let loads : Loads entry.reads c.args.fsid.now = record { head = found.ring.head; header = c.in-Ok.ensures.head (search rules); fsid_is = c.in-Ok.ensures.fsid; unspent = c.in-Ok.ensures.unspent } in
    outside S.fits (S.image set) (S.reads set) S.number (S.laid set) (g.met.S.Side.theory set) c.args.fsid.now entry.reads (g.T.FileTree.disk c.args.tree.now).tree o n last s fit fresh c.in-Err-go_on.fault
    (replay_explains S.fits S.number (S.laid set) (g.T.FileTree.disk c.args.tree.now).tree c.args.fsid.now entry.reads loads found.committed (c.in-Ok.ensures.number (search rules)) c.in-Ok.ensures.no_gap (c.in-Ok.ensures.laid (search rules))
    c.in-Err-go_on.fault (λ p e. c.in-Err-go_on.ensures.undamaged (search rules) p (ap Err e))
    (subst (λ (d : Disk). RefusesReplay S.fits found.committed found.ring.head.seq (readable d.stable) c.in-Err-go_on.fault) (c.in-Ok.ensures.same (search rules)) (c.in-Err-go_on.ensures.refused (search rules))))

pub returns-in-Err-go_on-clause-device_reads : goal.returns-in-Err-go_on-clause-device_reads
returns-in-Err-go_on-clause-device_reads g c = λ told first.
    ap (λ (d : Disk). d.reads) (c.in-Err-go_on.ensures.device_stays told first) ∙ ap (λ (d : Disk). d.reads) (c.in-Ok.ensures.same (search rules))

pub returns-in-Err-go_on-clause-no_image : goal.returns-in-Err-go_on-clause-no_image
returns-in-Err-go_on-clause-no_image g c = λ told so first.
    subst (Within (g.D.Device.state c.args.dev.now).disk) (sym (c.in-Err-go_on.ensures.device_stays told first)) (c.find.ensures.crash (search rules) so).has

pub returns-in-Err-go_on-clause-moments : goal.returns-in-Err-go_on-clause-moments
returns-in-Err-go_on-clause-moments g c = λ tells told settled fresh o n last all.
    let S = g.S.Side in
    let set = S.set c.args.side.now in
    let d = g.D.Device.state in
    let entry = (d c.args.dev.now).disk in
    let so = settled_sound entry settled (c.sound_law.ensures.stable entry) in
    let stand : (t : Tree) → (g.T.FileTree.disk c.args.tree.now).may t → StandsAt (S.image set) c.args.fsid.now t entry.reads o n last = λ t may. all t may entry.reads (g.met.D.Device.reads_image c.args.dev.now (search rules)) so fresh in
    let s = stand (g.T.FileTree.disk c.args.tree.now).tree (g.met.T.FileTree.sound c.args.tree.now (search rules)).now in
    all_moments (S.image set) c.args.fsid.now (g.T.FileTree.disk c.args.tree.now) (g.T.FileTree.disk c.go_on.new.tree) (d c.args.dev.now) (d c.go_on.new.dev) settled o n last stand
    (returns-in-Err-go_on-clause-trees g c tells told o n last s) (returns-in-Err-go_on-clause-journals g c tells told so o n last s)

-- ---- it is mounted

pub returns-clause-exit : goal.returns-clause-exit
returns-clause-exit g c = λ tells told so.
    let S = g.S.Side in
    let set = S.set c.args.side.now in
    let d = g.D.Device.state in
    let found = c.in-Ok.found in
    run_carries (S.image set) (S.reads set) S.number (S.laid set) (g.met.S.Side.theory set) c.args.fsid.now (g.T.FileTree.disk c.args.tree.now) (g.T.FileTree.disk c.find.new.tree) (g.T.FileTree.disk c.go_on.new.tree) (d c.args.dev.now).disk
    found.ring.head (c.in-Ok.ensures.head (search rules)) c.in-Ok.ensures.fsid found.committed (c.in-Ok.ensures.number (search rules)) (c.in-Ok.ensures.settled (search rules))
    (g.met.T.FileTree.sound c.go_on.new.tree (search rules)) (d c.find.new.dev).disk (c.in-Ok.ensures.same (search rules)) (c.go_on.ensures.keeps (search rules) (search rules))
    (g.met.T.FileTree.sound c.args.tree.now (search rules)).now (g.met.D.Device.reads_image c.args.dev.now (search rules)) so c.in-Ok.ensures.unspent
    (d c.go_on.new.dev).disk (λ txns spells. (c.go_on.ensures.crash (search rules) txns spells).has)

pub returns-clause-trees : goal.returns-clause-trees
returns-clause-trees g c = λ tells told o n last s.
    let S = g.S.Side in
    let set = S.set c.args.side.now in
    let d = g.D.Device.state in
    let found = c.in-Ok.found in
    run_trees (S.image set) (S.reads set) S.number (S.laid set) (g.met.S.Side.theory set) c.args.fsid.now (g.T.FileTree.disk c.args.tree.now) (g.T.FileTree.disk c.find.new.tree) (g.T.FileTree.disk c.go_on.new.tree) (d c.args.dev.now).disk
    found.ring.head (c.in-Ok.ensures.head (search rules)) c.in-Ok.ensures.fsid found.committed (c.in-Ok.ensures.number (search rules)) (c.in-Ok.ensures.settled (search rules))
    (g.met.T.FileTree.sound c.go_on.new.tree (search rules)) (d c.find.new.dev).disk (c.in-Ok.ensures.same (search rules)) (c.go_on.ensures.keeps (search rules) (search rules))
    o n last s
    (found_trees (S.image set) c.args.fsid.now (g.T.FileTree.disk c.args.tree.now) (g.T.FileTree.disk c.find.new.tree) (c.find.ensures.stays (search rules)) (g.met.T.FileTree.sound c.args.tree.now (search rules)) (d c.args.dev.now).disk.reads o n last)

pub returns-clause-journals : goal.returns-clause-journals
returns-clause-journals g c = λ tells told so o n last s.
    let S = g.S.Side in
    let set = S.set c.args.side.now in
    let d = g.D.Device.state in
    let found = c.in-Ok.found in
    let entry = (d c.args.dev.now).disk in
    let theory = g.met.S.Side.theory set in
    let spells = spells_loaded (S.image set) (S.reads set) S.number (S.laid set) theory c.args.fsid.now (g.T.FileTree.disk c.args.tree.now) (g.T.FileTree.disk c.find.new.tree) (g.T.FileTree.disk c.go_on.new.tree) entry
    found.ring.head (c.in-Ok.ensures.head (search rules)) c.in-Ok.ensures.fsid found.committed (c.in-Ok.ensures.number (search rules)) (c.in-Ok.ensures.settled (search rules))
    (g.met.T.FileTree.sound c.go_on.new.tree (search rules)) (d c.find.new.dev).disk (c.in-Ok.ensures.same (search rules)) (c.go_on.ensures.keeps (search rules) (search rules)) o n last s in
    let P : Disk → Type 0 = EachImage (WasOrServes (S.image set) c.args.fsid.now entry o n last) in
    keeps_then P _ _ _ _ _
    (keeps_weaker _ P (found_journals (S.image set) c.args.fsid.now entry o n last) _ _ _ (c.find.ensures.crash (search rules) so))
    (keeps_weaker _ P (run_journals (S.image set) (S.reads set) S.number (S.laid set) theory c.args.fsid.now (g.T.FileTree.disk c.args.tree.now) (g.T.FileTree.disk c.find.new.tree) (g.T.FileTree.disk c.go_on.new.tree) entry
    found.ring.head (c.in-Ok.ensures.head (search rules)) c.in-Ok.ensures.fsid found.committed (c.in-Ok.ensures.number (search rules)) (c.in-Ok.ensures.settled (search rules))
    (g.met.T.FileTree.sound c.go_on.new.tree (search rules)) (d c.find.new.dev).disk (c.in-Ok.ensures.same (search rules)) (c.go_on.ensures.keeps (search rules) (search rules)) o n last s)
    _ _ _ (c.go_on.ensures.crash (search rules) s.txns spells))

pub returns-clause-counts : goal.returns-clause-counts
returns-clause-counts g c = c.in-Ok-go_on.ensures.counts c.last_seq-journalled.result c.last_seq-journalled.ensures

pub returns-clause-done : goal.returns-clause-done
returns-clause-done g c = λ tells told o n last s.
    let S = g.S.Side in
    let set = S.set c.args.side.now in
    let d = g.D.Device.state in
    let found = c.in-Ok.found in
    let theory = g.met.S.Side.theory set in
    let entry = (d c.args.dev.now).disk in
    let spells = spells_loaded (S.image set) (S.reads set) S.number (S.laid set) theory c.args.fsid.now (g.T.FileTree.disk c.args.tree.now) (g.T.FileTree.disk c.find.new.tree) (g.T.FileTree.disk c.go_on.new.tree) entry
    found.ring.head (c.in-Ok.ensures.head (search rules)) c.in-Ok.ensures.fsid found.committed (c.in-Ok.ensures.number (search rules)) (c.in-Ok.ensures.settled (search rules))
    (g.met.T.FileTree.sound c.go_on.new.tree (search rules)) (d c.find.new.dev).disk (c.in-Ok.ensures.same (search rules)) (c.go_on.ensures.keeps (search rules) (search rules)) o n last s in
    let end = c.in-Ok-go_on.ensures.last (search rules) s.txns spells in
    mounted (S.image set) (S.reads set) S.number (S.laid set) theory c.args.fsid.now (g.T.FileTree.disk c.args.tree.now) (g.T.FileTree.disk c.find.new.tree) (g.T.FileTree.disk c.go_on.new.tree) entry
    found.ring.head (c.in-Ok.ensures.head (search rules)) c.in-Ok.ensures.fsid found.committed (c.in-Ok.ensures.number (search rules)) (c.in-Ok.ensures.settled (search rules))
    (g.met.T.FileTree.sound c.go_on.new.tree (search rules)) (d c.find.new.dev).disk (c.in-Ok.ensures.same (search rules)) (c.go_on.ensures.keeps (search rules) (search rules)) o n last s
    c.last_seq-journalled.result c.go_on.new.ring (d c.go_on.new.dev).disk (omega (arith, c.last_seq-journalled.ensures, end)) (c.in-Ok-go_on.ensures.done (search rules) (search rules))
    (c.in-Ok-go_on.ensures.ring (search rules) s.before s.txns spells)

pub returns-clause-can : goal.returns-clause-can
returns-clause-can g c = λ tells told.
    let found = c.in-Ok.found in
    let entry = (g.D.Device.state c.args.dev.now).disk in
    let loads : Loads entry.reads c.args.fsid.now = record { head = found.ring.head; header = c.in-Ok.ensures.head (search rules); fsid_is = c.in-Ok.ensures.fsid; unspent = c.in-Ok.ensures.unspent } in
    let spelled = c.in-Ok-go_on.ensures.spelled (search rules) in
    record {
      loads = loads;
      number_is = c.in-Ok.ensures.number (search rules);
      no_gap = c.in-Ok.ensures.no_gap;
      is_laid = c.in-Ok.ensures.laid (search rules);
      txns = spelled.0;
      spelled = subst (λ (d : Disk). Spells (above found.committed found.ring.head.seq (readable d.stable)) spelled.0) (c.in-Ok.ensures.same (search rules)) spelled.1;
      fit = spelled.2;
    }

pub returns-clause-moments : goal.returns-clause-moments
returns-clause-moments g c = λ tells told settled fresh o n last all.
    let S = g.S.Side in
    let set = S.set c.args.side.now in
    let d = g.D.Device.state in
    let entry = (d c.args.dev.now).disk in
    let so = settled_sound entry settled (c.sound_law.ensures.stable entry) in
    let stand : (t : Tree) → (g.T.FileTree.disk c.args.tree.now).may t → StandsAt (S.image set) c.args.fsid.now t entry.reads o n last = λ t may. all t may entry.reads (g.met.D.Device.reads_image c.args.dev.now (search rules)) so fresh in
    let s = stand (g.T.FileTree.disk c.args.tree.now).tree (g.met.T.FileTree.sound c.args.tree.now (search rules)).now in
    all_moments (S.image set) c.args.fsid.now (g.T.FileTree.disk c.args.tree.now) (g.T.FileTree.disk c.go_on.new.tree) (d c.args.dev.now) (d c.go_on.new.dev) settled o n last stand
    (returns-clause-trees g c tells told o n last s) (returns-clause-journals g c tells told so o n last s)
