use Rattle.std.proofs.Common.{ap, Err, refl}
use Rattle.filestore_cli.specs.Seen.{turns, sides}
use Rattle.filestore_cli.proofs.Starts.{run_opens, unmounted, unmounted_caused, unmounted_free}
use Rattle.filestore_cli.proofs.opening.mount_store.Goals as goal

pub returns-in-Ok-clause-keeps : goal.returns-in-Ok-clause-keeps
returns-in-Ok-clause-keeps g c = λ told sound id is. c.mount.ensures.exit told.0 told.1 sound id is

pub returns-in-Err-clause-keeps : goal.returns-in-Err-clause-keeps
returns-in-Err-clause-keeps g c = λ told sound id is. c.mount.ensures.exit told.0 told.1 sound id is

pub returns-in-Ok-clause-could : goal.returns-in-Ok-clause-could
returns-in-Ok-clause-could g c = λ told. (c.in-Ok.store.identity, c.in-Ok.ensures.is_store told.0)

pub returns-in-Ok-clause-opens : goal.returns-in-Ok-clause-opens
returns-in-Ok-clause-opens g c = λ told id s starts.
    let old = sides (g.T.FileTree.disk c.args.tree.now) (g.D.Device.state c.args.dev.now) in
    let new = sides (g.T.FileTree.disk c.mount.new.tree) (g.D.Device.state c.mount.new.dev) in
    run_opens c.one_law.ensures _ old new c.mount.ensures.extent (c.in-Ok.ensures.is_store told.0) (λ i o n last reads. c.in-Ok.ensures.done told.0 told.1 i reads.good.store o n last reads)
    c.in-Ok.ensures.fresh refl c.in-Ok.ensures.room id s starts

pub returns-in-Err-clause-refused : goal.returns-in-Err-clause-refused
returns-in-Err-clause-refused g c = λ told.
    let w = turns (g.T.FileTree.tells c.mount.new.tree × g.D.Device.tells c.mount.new.dev) (sides (g.T.FileTree.disk c.args.tree.now) (g.D.Device.state c.args.dev.now)) (sides (g.T.FileTree.disk c.mount.new.tree) (g.D.Device.state c.mount.new.dev)) in
    unmounted w (λ sound id is. c.mount.ensures.exit told.0 told.1 sound id is) _ c.in-Err.fault c.mount_stop.ensures (c.in-Err.ensures.refused told.0 told.1)
    (λ first. ((c.in-Err.ensures.tree_stays told.0 first).tree, c.in-Err.ensures.device_reads told.0 told.1 first))

pub returns-in-Err-clause-free : goal.returns-in-Err-clause-free
returns-in-Err-clause-free g c = λ told can.
    let starts = can.2 in
    let reads = starts.3 in
    unmounted_free _ c.in-Err.fault c.mount_stop.ensures (c.in-Err.ensures.only told.0 told.1 can.0 reads.good.store starts.0 starts.1 starts.2 reads can.3)

pub returns-in-Err-clause-cause : goal.returns-in-Err-clause-cause
returns-in-Err-clause-cause g c =
    let w = turns (g.T.FileTree.tells c.mount.new.tree × g.D.Device.tells c.mount.new.dev) (sides (g.T.FileTree.disk c.args.tree.now) (g.D.Device.state c.args.dev.now)) (sides (g.T.FileTree.disk c.mount.new.tree) (g.D.Device.state c.mount.new.dev)) in
    unmounted_caused w _ c.in-Err.fault c.mount_stop.ensures (λ is. c.in-Err.ensures.tree_cause (ap Err is)) (λ is. c.in-Err.ensures.device_cause (ap Err is))
