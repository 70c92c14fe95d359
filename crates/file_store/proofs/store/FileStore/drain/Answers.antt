use Rattle.file_store.proofs.Draining.{not_some, store_holds, store_leaves}
use Rattle.file_store.proofs.store.FileStore.drain.Goals as goal

pub returns-clause-holds : goal.returns-clause-holds
returns-clause-holds g c = λ tells told h k.
    let i = c.self.inside in
    let new = c.drain_parts-done.new in
    store_holds c.args.self.now i.parts.identity i.numbers i.ring i.queue i.first (not_some i.first c.in_default.not-Some) c.self.view_is new.numbers new.ring new.queue h
    (g.T.FileTree.disk c.args.tree.now) (g.T.FileTree.disk new.tree) (g.D.Device.state c.args.dev.now).disk (g.D.Device.state new.dev).disk k
    (λ k0. c.in_default-done.ensures.holds tells told h k0)

pub returns-clause-exit : goal.returns-clause-exit
returns-clause-exit g c = λ tells told h k.
    let i = c.self.inside in
    let new = c.drain_parts-done.new in
    store_leaves c.args.self.now i.parts.identity i.numbers i.ring i.queue i.first (not_some i.first c.in_default.not-Some) c.self.view_is new.numbers.journalled h
    (g.T.FileTree.disk c.args.tree.now) (g.T.FileTree.disk new.tree) (g.D.Device.state c.args.dev.now).disk (g.D.Device.state new.dev).disk k
    (λ k0. c.drain_parts-done.ensures.exit tells told h k0)
