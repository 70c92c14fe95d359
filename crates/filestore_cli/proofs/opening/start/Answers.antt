use Rattle.std.proofs.Common.{sym, subst}
use Rattle.std.specs.Prelude.{IfErr, IfOk, OnOk}
use Rattle.script_store.specs.declared.store.ScriptStore.{ScriptStore}
use Rattle.filestore_cli.specs.declared.command.Command.{Command}
use Rattle.filestore_cli.specs.Seen.{turns, sides}
use Rattle.filestore_cli.specs.Opened.{Opens}
use Rattle.filestore_cli.specs.Run.{Begun, CanStart, CouldStart, Unstarted}
use Rattle.filestore_cli.proofs.opening.start.Goals as goal

pub returns-in-RunNew-clause-opens : goal.returns-in-RunNew-clause-opens
returns-in-RunNew-clause-opens g c = λ told.
    let w = turns (g.T.FileTree.tells c.make_new.new.tree × g.D.Device.tells c.make_new.new.dev) (sides (g.T.FileTree.disk c.args.tree.now) (g.D.Device.state c.args.dev.now)) (sides (g.T.FileTree.disk c.make_new.new.tree) (g.D.Device.state c.make_new.new.dev)) in
    subst (λ (k : Command). IfOk c.make_new.result (λ (store : ScriptStore). Begun k w (Opens store w.new))) (sym c.in-RunNew.is) (c.make_new.ensures.opens told)

pub returns-in-RunNew-clause-refused : goal.returns-in-RunNew-clause-refused
returns-in-RunNew-clause-refused g c = λ told.
    let w = turns (g.T.FileTree.tells c.make_new.new.tree × g.D.Device.tells c.make_new.new.dev) (sides (g.T.FileTree.disk c.args.tree.now) (g.D.Device.state c.args.dev.now)) (sides (g.T.FileTree.disk c.make_new.new.tree) (g.D.Device.state c.make_new.new.dev)) in
    subst (λ (k : Command). IfErr c.make_new.result (Unstarted k w)) (sym c.in-RunNew.is) (c.make_new.ensures.refused told)

pub returns-in-RunNew-clause-free : goal.returns-in-RunNew-clause-free
returns-in-RunNew-clause-free g c = λ told can.
    let w = turns (g.T.FileTree.tells c.make_new.new.tree × g.D.Device.tells c.make_new.new.dev) (sides (g.T.FileTree.disk c.args.tree.now) (g.D.Device.state c.args.dev.now)) (sides (g.T.FileTree.disk c.make_new.new.tree) (g.D.Device.state c.make_new.new.dev)) in
    c.make_new.ensures.free told (subst (λ (k : Command). CanStart k w.old) c.in-RunNew.is can)

pub returns-in-Run-clause-opens : goal.returns-in-Run-clause-opens
returns-in-Run-clause-opens g c = λ told.
    let w = turns (g.T.FileTree.tells c.mount_store.new.tree × g.D.Device.tells c.mount_store.new.dev) (sides (g.T.FileTree.disk c.args.tree.now) (g.D.Device.state c.args.dev.now)) (sides (g.T.FileTree.disk c.mount_store.new.tree) (g.D.Device.state c.mount_store.new.dev)) in
    subst (λ (k : Command). IfOk c.mount_store.result (λ (store : ScriptStore). Begun k w (Opens store w.new))) (sym c.in-Run.is) (c.mount_store.ensures.opens told)

pub returns-in-Run-clause-refused : goal.returns-in-Run-clause-refused
returns-in-Run-clause-refused g c = λ told.
    let w = turns (g.T.FileTree.tells c.mount_store.new.tree × g.D.Device.tells c.mount_store.new.dev) (sides (g.T.FileTree.disk c.args.tree.now) (g.D.Device.state c.args.dev.now)) (sides (g.T.FileTree.disk c.mount_store.new.tree) (g.D.Device.state c.mount_store.new.dev)) in
    subst (λ (k : Command). IfErr c.mount_store.result (Unstarted k w)) (sym c.in-Run.is) (c.mount_store.ensures.refused told)

pub returns-in-Run-clause-free : goal.returns-in-Run-clause-free
returns-in-Run-clause-free g c = λ told can.
    let w = turns (g.T.FileTree.tells c.mount_store.new.tree × g.D.Device.tells c.mount_store.new.dev) (sides (g.T.FileTree.disk c.args.tree.now) (g.D.Device.state c.args.dev.now)) (sides (g.T.FileTree.disk c.mount_store.new.tree) (g.D.Device.state c.mount_store.new.dev)) in
    c.mount_store.ensures.free told (subst (λ (k : Command). CanStart k w.old) c.in-Run.is can)

pub returns-in-RunNew-clause-could : goal.returns-in-RunNew-clause-could
returns-in-RunNew-clause-could g c = λ told.
    let w = turns (g.T.FileTree.tells c.make_new.new.tree × g.D.Device.tells c.make_new.new.dev) (sides (g.T.FileTree.disk c.args.tree.now) (g.D.Device.state c.args.dev.now)) (sides (g.T.FileTree.disk c.make_new.new.tree) (g.D.Device.state c.make_new.new.dev)) in
    subst (λ (k : Command). OnOk c.make_new.result (CouldStart k w.old)) (sym c.in-RunNew.is) (c.make_new.ensures.could told)

pub returns-in-Run-clause-could : goal.returns-in-Run-clause-could
returns-in-Run-clause-could g c = λ told.
    let w = turns (g.T.FileTree.tells c.mount_store.new.tree × g.D.Device.tells c.mount_store.new.dev) (sides (g.T.FileTree.disk c.args.tree.now) (g.D.Device.state c.args.dev.now)) (sides (g.T.FileTree.disk c.mount_store.new.tree) (g.D.Device.state c.mount_store.new.dev)) in
    subst (λ (k : Command). OnOk c.mount_store.result (CouldStart k w.old)) (sym c.in-Run.is) (c.mount_store.ensures.could told)
