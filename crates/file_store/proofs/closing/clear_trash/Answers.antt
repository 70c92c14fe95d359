use Rattle.file_store.proofs.Swept.{images_swept, images_synced}
use Rattle.file_store.proofs.closing.clear_trash.Goals as goal

pub returns-in-Err-clause-images : goal.returns-in-Err-clause-images
returns-in-Err-clause-images g c = λ tells.
    let disk = g.T.FileTree.disk in
    let e = c.sweep_trash.ensures in
    images_swept (disk c.args.tree.now) (disk c.sweep_trash.new.tree) (g.met.T.FileTree.sound c.sweep_trash.new.tree tells) (e.leaves tells) (e.elsewhere tells) (e.free tells)

pub returns-in_default-clause-images : goal.returns-in_default-clause-images
returns-in_default-clause-images g c = λ tells id h n lo hi images.
    let disk = g.T.FileTree.disk in
    let e = c.sweep_trash.ensures in
    let mid = c.sync_all.ensures.told tells in
    images_synced (disk c.sweep_trash.new.tree) (disk c.sync_all.new.self) (c.sync_all.ensures.synced tells).stays id h n lo hi
    (images_swept (disk c.args.tree.now) (disk c.sweep_trash.new.tree) (g.met.T.FileTree.sound c.sweep_trash.new.tree mid) (e.leaves mid) (e.elsewhere mid) (e.free mid) id h n lo hi images)

pub returns-clause-images : goal.returns-clause-images
returns-clause-images g c = λ tells id h n lo hi images.
    let disk = g.T.FileTree.disk in
    let e = c.sweep_trash.ensures in
    let mid = c.sync_all.ensures.told tells in
    images_synced (disk c.sweep_trash.new.tree) (disk c.sync_all.new.self) (c.sync_all.ensures.synced tells).stays id h n lo hi
    (images_swept (disk c.args.tree.now) (disk c.sweep_trash.new.tree) (g.met.T.FileTree.sound c.sweep_trash.new.tree mid) (e.leaves mid) (e.elsewhere mid) (e.free mid) id h n lo hi images)
