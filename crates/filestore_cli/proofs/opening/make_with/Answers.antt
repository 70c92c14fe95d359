use Rattle.std.proofs.Common.{rules, ap, Err}
use Rattle.dev_api.specs.DeviceState.{DeviceState}
use Rattle.filestore_cli.specs.Seen.{turns, sides}
use Rattle.filestore_cli.proofs.Starts.{could_all, remade_caused, unmade, unmade_caused, unmade_free}
use Rattle.filestore_cli.proofs.NewStore.{made_can, remade_opens, remade, unmade_keeps}
use Rattle.filestore_cli.proofs.opening.make_with.Goals as goal

pub returns-in-Ok-clause-could : goal.returns-in-Ok-clause-could
returns-in-Ok-clause-could g c = could_all c.mount_store.result (λ told. (c.in-Ok.ensures.fits (search rules), c.in-Ok.ensures.size))

pub returns-in-Ok-clause-opens : goal.returns-in-Ok-clause-opens
returns-in-Ok-clause-opens g c = λ told.
    let made = sides (g.T.FileTree.disk c.make_store.new.tree) (g.D.Device.state c.make_store.new.dev) in
    let old = sides (g.T.FileTree.disk c.args.tree.now) (g.D.Device.state c.args.dev.now) in
    let new = sides (g.T.FileTree.disk c.mount_store.new.tree) (g.D.Device.state c.mount_store.new.dev) in
    let t = g.T.FileTree.tells c.mount_store.new.tree × g.D.Device.tells c.mount_store.new.dev in
    remade_opens made c.args.identity.now (g.D.Device.state c.args.dev.now).size (g.met.T.FileTree.sound c.make_store.new.tree (search rules)) (c.in-Ok.ensures.closed (search rules) (search rules) c.requires.usable) (c.in-Ok.ensures.ring (search rules)) (c.in-Ok.ensures.settled (search rules)) c.requires.is t t old new
    c.mount_store.result c.make_store.ensures.extent (c.mount_store.ensures.opens told)

pub returns-in-Ok-clause-refused : goal.returns-in-Ok-clause-refused
returns-in-Ok-clause-refused g c = λ told.
    let made = sides (g.T.FileTree.disk c.make_store.new.tree) (g.D.Device.state c.make_store.new.dev) in
    let old = sides (g.T.FileTree.disk c.args.tree.now) (g.D.Device.state c.args.dev.now) in
    let new = sides (g.T.FileTree.disk c.mount_store.new.tree) (g.D.Device.state c.mount_store.new.dev) in
    let t = g.T.FileTree.tells c.mount_store.new.tree × g.D.Device.tells c.mount_store.new.dev in
    remade made c.args.identity.now (g.D.Device.state c.args.dev.now).size (g.met.T.FileTree.sound c.make_store.new.tree (search rules)) (c.in-Ok.ensures.closed (search rules) (search rules) c.requires.usable) (c.in-Ok.ensures.ring (search rules)) (c.in-Ok.ensures.settled (search rules)) c.requires.is t t old new
    c.mount_store.result (c.mount_store.ensures.free told (made_can made c.args.identity.now (g.D.Device.state c.args.dev.now).size (g.met.T.FileTree.sound c.make_store.new.tree (search rules)) (c.in-Ok.ensures.closed (search rules) (search rules) c.requires.usable) (c.in-Ok.ensures.ring (search rules)) (c.in-Ok.ensures.settled (search rules)) c.requires.is))
    (c.mount_store.ensures.refused told)

pub returns-in-Ok-clause-free : goal.returns-in-Ok-clause-free
returns-in-Ok-clause-free g c = λ told can.
    let made = sides (g.T.FileTree.disk c.make_store.new.tree) (g.D.Device.state c.make_store.new.dev) in
    c.mount_store.ensures.free told (made_can made c.args.identity.now (g.D.Device.state c.args.dev.now).size (g.met.T.FileTree.sound c.make_store.new.tree (search rules)) (c.in-Ok.ensures.closed (search rules) (search rules) c.requires.usable) (c.in-Ok.ensures.ring (search rules)) (c.in-Ok.ensures.settled (search rules)) c.requires.is)

pub returns-in-Ok-clause-cause : goal.returns-in-Ok-clause-cause
returns-in-Ok-clause-cause g c =
    let made = sides (g.T.FileTree.disk c.make_store.new.tree) (g.D.Device.state c.make_store.new.dev) in
    let old = sides (g.T.FileTree.disk c.args.tree.now) (g.D.Device.state c.args.dev.now) in
    let new = sides (g.T.FileTree.disk c.mount_store.new.tree) (g.D.Device.state c.mount_store.new.dev) in
    let t = g.T.FileTree.tells c.mount_store.new.tree × g.D.Device.tells c.mount_store.new.dev in
    remade_caused t t old made new c.mount_store.result c.make_store.ensures.tree_faults c.make_store.ensures.device_faults c.mount_store.ensures.cause

pub returns-in-Err-clause-refused : goal.returns-in-Err-clause-refused
returns-in-Err-clause-refused g c = λ told.
    let w = turns (g.T.FileTree.tells c.make_store.new.tree × g.D.Device.tells c.make_store.new.dev) (sides (g.T.FileTree.disk c.args.tree.now) (g.D.Device.state c.args.dev.now)) (sides (g.T.FileTree.disk c.make_store.new.tree) (g.D.Device.state c.make_store.new.dev)) in
    unmade w (unmade_keeps c.args.identity.now (g.D.Device.state c.args.dev.now).size w c.requires.is (λ bare. c.make_store.ensures.each_pair told.0 told.1 bare c.requires.usable)) _ c.in-Err.fault c.make_stop.ensures
    (c.in-Err.ensures.fits told.0) c.in-Err.ensures.size
    (λ refusal. ((c.in-Err.ensures.refused told.0 refusal).stays.tree, ap (λ (d : DeviceState). d.disk.reads) (c.in-Err.ensures.untouched told.0 refusal)))

pub returns-in-Err-clause-free : goal.returns-in-Err-clause-free
returns-in-Err-clause-free g c = λ told can. unmade_free _ c.in-Err.fault c.make_stop.ensures (sides (g.T.FileTree.disk c.args.tree.now) (g.D.Device.state c.args.dev.now)) (c.in-Err.ensures.fits told.0) c.in-Err.ensures.size can

pub returns-in-Err-clause-cause : goal.returns-in-Err-clause-cause
returns-in-Err-clause-cause g c = unmade_caused (turns (g.T.FileTree.tells c.make_store.new.tree × g.D.Device.tells c.make_store.new.dev) (sides (g.T.FileTree.disk c.args.tree.now) (g.D.Device.state c.args.dev.now)) (sides (g.T.FileTree.disk c.make_store.new.tree) (g.D.Device.state c.make_store.new.dev))) _ c.in-Err.fault c.make_stop.ensures (λ is. c.in-Err.ensures.tree_cause (ap Err is)) (λ is. c.in-Err.ensures.device_cause (ap Err is))
