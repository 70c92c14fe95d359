use Rattle.std.proofs.Common.{ℕ, subst, rules}
use Rattle.fs_model.specs.Objects.{Objects}
use Rattle.tree_api.specs.Tree.{Tree}
use Rattle.tree_api.specs.Disk.{Keeps}
use Rattle.dev_api.specs.Run.{KeepsSince}
use Rattle.ring_journal.specs.State.{IsUnspentImage}
use Rattle.store_history.specs.Journal.{EachImage}
use Rattle.store_history.specs.Pair.{StandsAt}
use Rattle.tree_places.specs.Images.{StoreImage}
use Rattle.store_files.specs.declared.reading.Identity.{Identity}
use Rattle.store_mount.specs.Mounts.{PairsCarry, StandsNow, AllStand}
use Rattle.store_mount.proofs.Carried.{settled_sound}
use Rattle.store_opening.specs.Mounts.{ExplainsOf, IsOutside, MountsAs}
use Rattle.store_opening.proofs.Opened.{then_carry, carry_same, then_trees, stands_then, moments_of, untouched_moments}
use Rattle.store_opening.proofs.Refused.{as_store, refuses, told_refuses, told_outside}
use Rattle.store_opening.proofs.mounting.mount.Goals as goal

-- ---- the tree is no store

pub returns-in-Err-clause-exit : goal.returns-in-Err-clause-exit
returns-in-Err-clause-exit g c = λ tells told so id is.
    carry_same (StoreImage id) id.fsid (g.T.FileTree.disk c.args.tree.now) (g.T.FileTree.disk c.identity.new.tree) (g.D.Device.state c.args.dev.now).disk (c.identity.ensures.still (search rules)).stays

pub returns-in-Err-clause-refused : goal.returns-in-Err-clause-refused
returns-in-Err-clause-refused g c = λ tells told.
    told_refuses (g.T.FileTree.disk c.args.tree.now).tree (g.D.Device.state c.args.dev.now).disk.reads c.in-Err.fault (c.in-Err.ensures.store (search rules))

pub returns-in-Err-clause-only : goal.returns-in-Err-clause-only
returns-in-Err-clause-only g c = λ tells told id is o n last s fresh.
    told_outside (g.T.FileTree.disk c.args.tree.now).tree id is c.in-Err.fault (c.in-Err.ensures.store (search rules))

-- ---- it isn't mounted

pub returns-in-Err-open-clause-exit : goal.returns-in-Err-open-clause-exit
returns-in-Err-open-clause-exit g c = λ tells told so id is.
    let old = g.T.FileTree.disk c.args.tree.now in
    let mid = g.T.FileTree.disk c.identity.new.tree in
    let d = (g.D.Device.state c.args.dev.now).disk in
    let new = g.T.FileTree.disk c.open.new.tree in
    let e = (g.D.Device.state c.open.new.dev).disk in
    let found = c.in-Ok.identity in
    as_store (λ (x : Identity). PairsCarry (StoreImage x) x.fsid old.may d new.may e) found id
    (c.one_law.ensures old.tree found.fsid id.fsid found.settings id.settings (c.in-Ok.ensures.store (search rules)) is)
    (then_carry (StoreImage found) found.fsid old mid d new.may e (c.identity.ensures.still (search rules)).stays (c.open.ensures.exit (search rules) (search rules) so))

pub returns-in-Err-open-clause-only : goal.returns-in-Err-open-clause-only
returns-in-Err-open-clause-only g c = λ tells told id is.
    let old = g.T.FileTree.disk c.args.tree.now in
    let mid = g.T.FileTree.disk c.identity.new.tree in
    let d = (g.D.Device.state c.args.dev.now).disk in
    let found = c.in-Ok.identity in
    as_store (λ (x : Identity). (o : Objects) (n last : ℕ) → StandsNow (StoreImage x) x.fsid old d o n last → IsUnspentImage d.reads → IsOutside c.in-Err-open.fault) found id
    (c.one_law.ensures old.tree found.fsid id.fsid found.settings id.settings (c.in-Ok.ensures.store (search rules)) is)
    (λ o n last s fresh. c.in-Err-open.ensures.only (search rules) (search rules) o n last (stands_then (StoreImage found) found.fsid old mid d o n last (c.identity.ensures.still (search rules)).stays s) fresh)

pub returns-in-Err-open-clause-refused : goal.returns-in-Err-open-clause-refused
returns-in-Err-open-clause-refused g c = λ tells told.
    let found = c.in-Ok.identity in
    let back = (c.identity.ensures.still (search rules)).stays.tree in
    let bytes = (g.D.Device.state c.args.dev.now).disk.reads in
    refuses (g.T.FileTree.disk c.args.tree.now).tree bytes found (c.in-Ok.ensures.store (search rules)) c.in-Err-open.fault
    (subst (λ (t : Tree). ExplainsOf found t bytes c.in-Err-open.fault) back (c.in-Err-open.ensures.refused (search rules) (search rules)))

pub returns-in-Err-open-clause-no_store : goal.returns-in-Err-open-clause-no_store
returns-in-Err-open-clause-no_store g c = λ tells none. absurd (c.in-Err-open.ensures.usable none)

-- ---- it is

pub returns-clause-exit : goal.returns-clause-exit
returns-clause-exit g c = λ tells told so id is.
    let old = g.T.FileTree.disk c.args.tree.now in
    let mid = g.T.FileTree.disk c.identity.new.tree in
    let d = (g.D.Device.state c.args.dev.now).disk in
    let new = g.T.FileTree.disk c.open.new.tree in
    let e = (g.D.Device.state c.open.new.dev).disk in
    let found = c.in-Ok.identity in
    as_store (λ (x : Identity). PairsCarry (StoreImage x) x.fsid old.may d new.may e) found id
    (c.one_law.ensures old.tree found.fsid id.fsid found.settings id.settings (c.in-Ok.ensures.store (search rules)) is)
    (then_carry (StoreImage found) found.fsid old mid d new.may e (c.identity.ensures.still (search rules)).stays (c.open.ensures.exit (search rules) (search rules) so))

pub returns-clause-done : goal.returns-clause-done
returns-clause-done g c = λ tells told id is.
    let old = g.T.FileTree.disk c.args.tree.now in
    let mid = g.T.FileTree.disk c.identity.new.tree in
    let new = g.T.FileTree.disk c.open.new.tree in
    let d = (g.D.Device.state c.args.dev.now).disk in
    let e = (g.D.Device.state c.open.new.dev).disk in
    let found = c.in-Ok.identity in
    as_store (λ (x : Identity). (o : Objects) (n last : ℕ) → StandsNow (StoreImage x) x.fsid old d o n last → MountsAs o n last c.in-Ok-open.store new e) found id
    (c.one_law.ensures old.tree found.fsid id.fsid found.settings id.settings (c.in-Ok.ensures.store (search rules)) is)
    (λ o n last s. c.in-Ok-open.ensures.done (search rules) (search rules) o n last (stands_then (StoreImage found) found.fsid old mid d o n last (c.identity.ensures.still (search rules)).stays s))

-- ---- at each moment

pub returns-in-Err-clause-moments : goal.returns-in-Err-clause-moments
returns-in-Err-clause-moments g c = λ tells told settled fresh id is o n last all.
    let before = g.D.Device.state c.args.dev.now in
    untouched_moments (StoreImage id) id.fsid (g.T.FileTree.disk c.args.tree.now) (g.T.FileTree.disk c.identity.new.tree) (g.met.T.FileTree.sound c.args.tree.now (search rules))
    (c.identity.ensures.still (search rules)).stays before (g.met.D.Device.reads_image c.args.dev.now (search rules))
    (settled_sound before.disk settled (c.sound_law.ensures.stable before.disk)) settled fresh o n last all

pub returns-in-Err-open-clause-moments : goal.returns-in-Err-open-clause-moments
returns-in-Err-open-clause-moments g c = λ tells told settled fresh id is o n last all.
    let old = g.T.FileTree.disk c.args.tree.now in
    let mid = g.T.FileTree.disk c.identity.new.tree in
    let new = g.T.FileTree.disk c.open.new.tree in
    let before = g.D.Device.state c.args.dev.now in
    let now = g.D.Device.state c.open.new.dev in
    let sound = g.met.T.FileTree.sound c.args.tree.now (search rules) in
    let so = settled_sound before.disk settled (c.sound_law.ensures.stable before.disk) in
    let img = g.met.D.Device.reads_image c.args.dev.now (search rules) in
    let stays = (c.identity.ensures.still (search rules)).stays in
    let found = c.in-Ok.identity in
    as_store (λ (x : Identity). AllStand (StoreImage x) x.fsid o n last old.may before.disk
    → Keeps (λ t. KeepsSince (EachImage (λ b. StandsAt (StoreImage x) x.fsid t b o n last)) before now) old new) found id
    (c.one_law.ensures old.tree found.fsid id.fsid found.settings id.settings (c.in-Ok.ensures.store (search rules)) is)
    (λ each. moments_of (StoreImage found) found.fsid old new sound.now before now img so settled fresh o n last each
    (λ s. then_trees (StoreImage found) found.fsid before.disk.reads o n last old mid new sound stays
    (c.open.ensures.trees (search rules) (search rules) o n last (stands_then (StoreImage found) found.fsid old mid before.disk o n last stays s)))
    (λ s. c.open.ensures.journals (search rules) (search rules) so o n last (stands_then (StoreImage found) found.fsid old mid before.disk o n last stays s)))
    all

pub returns-clause-moments : goal.returns-clause-moments
returns-clause-moments g c = λ tells told settled fresh id is o n last all.
    let old = g.T.FileTree.disk c.args.tree.now in
    let mid = g.T.FileTree.disk c.identity.new.tree in
    let new = g.T.FileTree.disk c.open.new.tree in
    let before = g.D.Device.state c.args.dev.now in
    let now = g.D.Device.state c.open.new.dev in
    let sound = g.met.T.FileTree.sound c.args.tree.now (search rules) in
    let so = settled_sound before.disk settled (c.sound_law.ensures.stable before.disk) in
    let img = g.met.D.Device.reads_image c.args.dev.now (search rules) in
    let stays = (c.identity.ensures.still (search rules)).stays in
    let found = c.in-Ok.identity in
    as_store (λ (x : Identity). AllStand (StoreImage x) x.fsid o n last old.may before.disk
    → Keeps (λ t. KeepsSince (EachImage (λ b. StandsAt (StoreImage x) x.fsid t b o n last)) before now) old new) found id
    (c.one_law.ensures old.tree found.fsid id.fsid found.settings id.settings (c.in-Ok.ensures.store (search rules)) is)
    (λ each. moments_of (StoreImage found) found.fsid old new sound.now before now img so settled fresh o n last each
    (λ s. then_trees (StoreImage found) found.fsid before.disk.reads o n last old mid new sound stays
    (c.open.ensures.trees (search rules) (search rules) o n last (stands_then (StoreImage found) found.fsid old mid before.disk o n last stays s)))
    (λ s. c.open.ensures.journals (search rules) (search rules) so o n last (stands_then (StoreImage found) found.fsid old mid before.disk o n last stays s)))
    all
