use Rattle.script_store.proofs.Stepping.{left_drained}
use Rattle.script_store.proofs.store.drain.Goals as goal

pub returns-in-Err-clause-left : goal.returns-in-Err-clause-left
returns-in-Err-clause-left g c = λ tells told h k.
    let files = g.T.FileTree.disk in
    let bytes = g.D.Device.state in
    let d = c.drain in
    left_drained h c.args.store.store d.new.self.numbers.journalled (files c.args.tree.now) (files d.new.tree) (bytes c.args.dev.now).disk (bytes d.new.dev).disk d.ensures.grows k (d.ensures.exit tells told h k)
