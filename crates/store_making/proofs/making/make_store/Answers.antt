use Rattle.std.proofs.Common.{sym, subst, rules}
use Rattle.tree_api.specs.Tree.{Tree}
use Rattle.tree_api.proofs.Moments.{stays_joins}
use Rattle.store_files.specs.News.{IsNew}
use Rattle.store_files.specs.Steps.{Unfinished}
use Rattle.store_making.specs.Making.{VersionLast}
use Rattle.store_making.proofs.Made.{closed}
use Rattle.store_making.proofs.Orders.{then_made, each_early, order_early, order_late, is_store, came}
use Rattle.store_making.proofs.Telling.{begun_new}
use Rattle.store_making.proofs.Unmade.{unmade_late}
use Rattle.store_making.proofs.making.make_store.Goals as goal

pub returns-in-Err-make_files-clause-refused : goal.returns-in-Err-make_files-clause-refused
returns-in-Err-make_files-clause-refused g c = λ tells refusal.
    let old = g.T.FileTree.disk c.args.tree.now in
    let seen = g.T.FileTree.disk c.look.new.tree in
    let mid = g.T.FileTree.disk c.settle.new.tree in
    let now = g.T.FileTree.disk c.make_files.new.tree in
    let stays = stays_joins old seen mid (g.met.T.FileTree.sound c.args.tree.now (search rules)) (c.look.ensures.still (search rules)).stays (c.settle.ensures.stays (search rules)) in
    let new = c.in-Ok.ensures.fits (search rules) in
    absurd (begun_new _ mid.tree c.in-Err-make_files.fault (subst IsNew (sym stays.tree) new) (c.in-Err-make_files.ensures.fits (search rules)) c.in-Err-make_files.ensures.size refusal)

pub returns-in-Err-make_files-clause-untouched : goal.returns-in-Err-make_files-clause-untouched
returns-in-Err-make_files-clause-untouched g c = λ tells refusal.
    let old = g.T.FileTree.disk c.args.tree.now in
    let seen = g.T.FileTree.disk c.look.new.tree in
    let mid = g.T.FileTree.disk c.settle.new.tree in
    let now = g.T.FileTree.disk c.make_files.new.tree in
    let stays = stays_joins old seen mid (g.met.T.FileTree.sound c.args.tree.now (search rules)) (c.look.ensures.still (search rules)).stays (c.settle.ensures.stays (search rules)) in
    let new = c.in-Ok.ensures.fits (search rules) in
    absurd (begun_new _ mid.tree c.in-Err-make_files.fault (subst IsNew (sym stays.tree) new) (c.in-Err-make_files.ensures.fits (search rules)) c.in-Err-make_files.ensures.size refusal)

pub returns-in-Err-make_files-clause-each : goal.returns-in-Err-make_files-clause-each
returns-in-Err-make_files-clause-each g c = λ tells bare.
    let old = g.T.FileTree.disk c.args.tree.now in
    let seen = g.T.FileTree.disk c.look.new.tree in
    let mid = g.T.FileTree.disk c.settle.new.tree in
    let now = g.T.FileTree.disk c.make_files.new.tree in
    let stays = stays_joins old seen mid (g.met.T.FileTree.sound c.args.tree.now (search rules)) (c.look.ensures.still (search rules)).stays (c.settle.ensures.stays (search rules)) in
    let new = c.in-Ok.ensures.fits (search rules) in
    let bare_mid = c.in-Ok-settle.ensures.bare (search rules) (subst IsNew (sym (c.look.ensures.still (search rules)).stays.tree) new) in
    let P : Tree → Type 0 = Unfinished c.args.fsid.now c.args.set.now in
    then_made P (each_early c.args.fsid.now c.args.set.now) old (g.met.T.FileTree.sound c.args.tree.now (search rules)) bare mid now stays
    (c.make_files.ensures.each (search rules) bare_mid)

pub returns-in-Err-make_files-clause-order : goal.returns-in-Err-make_files-clause-order
returns-in-Err-make_files-clause-order g c = λ tells told bare.
    let old = g.T.FileTree.disk c.args.tree.now in
    let seen = g.T.FileTree.disk c.look.new.tree in
    let mid = g.T.FileTree.disk c.settle.new.tree in
    let now = g.T.FileTree.disk c.make_files.new.tree in
    let stays = stays_joins old seen mid (g.met.T.FileTree.sound c.args.tree.now (search rules)) (c.look.ensures.still (search rules)).stays (c.settle.ensures.stays (search rules)) in
    let new = c.in-Ok.ensures.fits (search rules) in
    let bare_mid = c.in-Ok-settle.ensures.bare (search rules) (subst IsNew (sym (c.look.ensures.still (search rules)).stays.tree) new) in
    let size = (g.D.Device.state c.args.dev.now).size in
    let d = (g.D.Device.state c.make_ring.new.dev).disk in
    let P : Tree → Type 0 = VersionLast c.args.fsid.now c.args.set.now size d in
    then_made P (order_early c.args.fsid.now c.args.set.now size d) old (g.met.T.FileTree.sound c.args.tree.now (search rules)) bare mid now stays
    (order_late c.args.fsid.now c.args.set.now size d mid now (c.in-Ok-make_ring.ensures.made (search rules)) (c.make_files.ensures.each (search rules) bare_mid))

pub returns-clause-each : goal.returns-clause-each
returns-clause-each g c = λ tells bare.
    let old = g.T.FileTree.disk c.args.tree.now in
    let seen = g.T.FileTree.disk c.look.new.tree in
    let mid = g.T.FileTree.disk c.settle.new.tree in
    let now = g.T.FileTree.disk c.make_files.new.tree in
    let stays = stays_joins old seen mid (g.met.T.FileTree.sound c.args.tree.now (search rules)) (c.look.ensures.still (search rules)).stays (c.settle.ensures.stays (search rules)) in
    let new = c.in-Ok.ensures.fits (search rules) in
    let bare_mid = c.in-Ok-settle.ensures.bare (search rules) (subst IsNew (sym (c.look.ensures.still (search rules)).stays.tree) new) in
    let P : Tree → Type 0 = Unfinished c.args.fsid.now c.args.set.now in
    then_made P (each_early c.args.fsid.now c.args.set.now) old (g.met.T.FileTree.sound c.args.tree.now (search rules)) bare mid now stays
    (c.make_files.ensures.each (search rules) bare_mid)

pub returns-clause-order : goal.returns-clause-order
returns-clause-order g c = λ tells told bare.
    let old = g.T.FileTree.disk c.args.tree.now in
    let seen = g.T.FileTree.disk c.look.new.tree in
    let mid = g.T.FileTree.disk c.settle.new.tree in
    let now = g.T.FileTree.disk c.make_files.new.tree in
    let stays = stays_joins old seen mid (g.met.T.FileTree.sound c.args.tree.now (search rules)) (c.look.ensures.still (search rules)).stays (c.settle.ensures.stays (search rules)) in
    let new = c.in-Ok.ensures.fits (search rules) in
    let bare_mid = c.in-Ok-settle.ensures.bare (search rules) (subst IsNew (sym (c.look.ensures.still (search rules)).stays.tree) new) in
    let size = (g.D.Device.state c.args.dev.now).size in
    let d = (g.D.Device.state c.make_ring.new.dev).disk in
    let P : Tree → Type 0 = VersionLast c.args.fsid.now c.args.set.now size d in
    then_made P (order_early c.args.fsid.now c.args.set.now size d) old (g.met.T.FileTree.sound c.args.tree.now (search rules)) bare mid now stays
    (order_late c.args.fsid.now c.args.set.now size d mid now (c.in-Ok-make_ring.ensures.made (search rules)) (c.make_files.ensures.each (search rules) bare_mid))

pub returns-clause-stores : goal.returns-clause-stores
returns-clause-stores g c = λ tells usable t may.
    (is_store c.args.fsid.now c.args.set.now t c.is_fsid.ensures usable (c.in-Ok-make_files.ensures.stand (search rules) t may)).0

pub returns-clause-closed : goal.returns-clause-closed
returns-clause-closed g c = λ tells told usable t may b img so.
    let old = g.T.FileTree.disk c.args.tree.now in
    let seen = g.T.FileTree.disk c.look.new.tree in
    let mid = g.T.FileTree.disk c.settle.new.tree in
    let now = g.T.FileTree.disk c.make_files.new.tree in
    let stays = stays_joins old seen mid (g.met.T.FileTree.sound c.args.tree.now (search rules)) (c.look.ensures.still (search rules)).stays (c.settle.ensures.stays (search rules)) in
    let new = c.in-Ok.ensures.fits (search rules) in
    let bare_mid = c.in-Ok-settle.ensures.bare (search rules) (subst IsNew (sym (c.look.ensures.still (search rules)).stays.tree) new) in
    let size = (g.D.Device.state c.args.dev.now).size in
    let both = is_store c.args.fsid.now c.args.set.now t c.is_fsid.ensures usable (c.in-Ok-make_files.ensures.stand (search rules) t may) in
    let from = came mid now (g.met.T.FileTree.sound c.make_files.new.tree (search rules)) (c.make_files.ensures.leaves (search rules)) bare_mid t may in
    closed c.args.set.now c.args.fsid.now from.0 t from.1 from.2 both.0 both.1 size b (c.in-Ok-make_ring.ensures.made (search rules) b img so)

pub returns-in-Err-make_files-clause-each_pair : goal.returns-in-Err-make_files-clause-each_pair
returns-in-Err-make_files-clause-each_pair g c = λ tells told bare usable.
    let old = g.T.FileTree.disk c.args.tree.now in
    let seen = g.T.FileTree.disk c.look.new.tree in
    let mid = g.T.FileTree.disk c.settle.new.tree in
    let now = g.T.FileTree.disk c.make_files.new.tree in
    let stays = stays_joins old seen mid (g.met.T.FileTree.sound c.args.tree.now (search rules)) (c.look.ensures.still (search rules)).stays (c.settle.ensures.stays (search rules)) in
    let new = c.in-Ok.ensures.fits (search rules) in
    let bare_mid = c.in-Ok-settle.ensures.bare (search rules) (subst IsNew (sym (c.look.ensures.still (search rules)).stays.tree) new) in
    let size = (g.D.Device.state c.args.dev.now).size in
    let d = (g.D.Device.state c.make_ring.new.dev).disk in
    let P : Tree → Type 0 = VersionLast c.args.fsid.now c.args.set.now size d in
    let order = then_made P (order_early c.args.fsid.now c.args.set.now size d) old (g.met.T.FileTree.sound c.args.tree.now (search rules)) bare mid now stays
    (order_late c.args.fsid.now c.args.set.now size d mid now (c.in-Ok-make_ring.ensures.made (search rules)) (c.make_files.ensures.each (search rules) bare_mid)) in
    unmade_late c.args.fsid.now c.args.set.now c.is_fsid.ensures usable size d old mid now (g.met.T.FileTree.sound c.make_files.new.tree (search rules)) bare_mid (c.make_files.ensures.leaves (search rules)) order

pub returns-clause-each_pair : goal.returns-clause-each_pair
returns-clause-each_pair g c = λ tells told bare usable.
    let old = g.T.FileTree.disk c.args.tree.now in
    let seen = g.T.FileTree.disk c.look.new.tree in
    let mid = g.T.FileTree.disk c.settle.new.tree in
    let now = g.T.FileTree.disk c.make_files.new.tree in
    let stays = stays_joins old seen mid (g.met.T.FileTree.sound c.args.tree.now (search rules)) (c.look.ensures.still (search rules)).stays (c.settle.ensures.stays (search rules)) in
    let new = c.in-Ok.ensures.fits (search rules) in
    let bare_mid = c.in-Ok-settle.ensures.bare (search rules) (subst IsNew (sym (c.look.ensures.still (search rules)).stays.tree) new) in
    let size = (g.D.Device.state c.args.dev.now).size in
    let d = (g.D.Device.state c.make_ring.new.dev).disk in
    let P : Tree → Type 0 = VersionLast c.args.fsid.now c.args.set.now size d in
    let order = then_made P (order_early c.args.fsid.now c.args.set.now size d) old (g.met.T.FileTree.sound c.args.tree.now (search rules)) bare mid now stays
    (order_late c.args.fsid.now c.args.set.now size d mid now (c.in-Ok-make_ring.ensures.made (search rules)) (c.make_files.ensures.each (search rules) bare_mid)) in
    unmade_late c.args.fsid.now c.args.set.now c.is_fsid.ensures usable size d old mid now (g.met.T.FileTree.sound c.make_files.new.tree (search rules)) bare_mid (c.make_files.ensures.leaves (search rules)) order
