use Rattle.std.proofs.Common.{ap, arith}
use Rattle.store_turns.specs.declared.numbers.Numbers.{Numbers}
use Rattle.file_store.specs.Holds.{with_waiting}
use Rattle.file_store.proofs.Closed.{closed_all, leaves_all, leaves_less}
use Rattle.file_store.proofs.Swept.{never_deep}
use Rattle.file_store.proofs.store.FileStore.close.Goals as goal

pub returns-in-Err-clause-exit : goal.returns-in-Err-clause-exit
returns-in-Err-clause-exit g c = λ tells told h k.
    leaves_less (with_waiting h c.args.self) c.args.self.numbers.journalled c.drain.new.self.numbers.journalled c.args.self
    (g.T.FileTree.disk c.drain.new.tree) (g.D.Device.state c.drain.new.dev).disk c.drain.ensures.grows (c.drain.ensures.exit tells told h k)

pub returns-in-Err-clear_trash-clause-exit : goal.returns-in-Err-clear_trash-clause-exit
returns-in-Err-clear_trash-clause-exit g c = λ tells told h k.
    let s = c.args.self in
    let done = c.drain.new.self in
    let is = c.in-Ok.ensures.drained in
    let kept = c.in-Ok.ensures.holds (c.clear_trash.ensures.told tells) told h k in
    let images = c.clear_trash.ensures.images tells done.identity kept.long done.numbers.committed done.numbers.committed done.numbers.journalled kept.on.images in
    leaves_all c.journal_law.ensures (with_waiting h s) s done (g.T.FileTree.disk c.drain.new.tree) (g.T.FileTree.disk c.clear_trash.new.tree) (g.D.Device.state c.drain.new.dev).disk
    is kept images s.numbers.journalled (omega (arith, k.end)) (omega (arith, c.drain.ensures.grows, ap (λ (x : Numbers). x.journalled) is.numbers))

pub returns-in-Err-clear_trash-clause-undamaged : goal.returns-in-Err-clear_trash-clause-undamaged
returns-in-Err-clear_trash-clause-undamaged g c = λ tells p is.
    let mid = c.clear_trash.ensures.told tells in
    let ready = c.drain.ensures.tree mid c.in-Ok.ensures.drained.works in
    never_deep (g.T.FileTree.disk c.drain.new.tree).tree p ready.own.clear.trees
    (c.in-Err-clear_trash.ensures.damaged tells p is)

pub returns-clause-closed : goal.returns-clause-closed
returns-clause-closed g c = λ tells told h k.
    let s = c.args.self in
    let done = c.drain.new.self in
    let is = c.in-Ok.ensures.drained in
    let kept = c.in-Ok.ensures.holds (c.clear_trash.ensures.told tells) told h k in
    let images = c.clear_trash.ensures.images tells done.identity kept.long done.numbers.committed done.numbers.committed done.numbers.journalled kept.on.images in
    closed_all c.journal_law.ensures (with_waiting h s) s done (g.T.FileTree.disk c.drain.new.tree) (g.T.FileTree.disk c.clear_trash.new.tree) (g.D.Device.state c.drain.new.dev).disk
    is kept images

pub returns-clause-exit : goal.returns-clause-exit
returns-clause-exit g c = λ tells told h k.
    let s = c.args.self in
    let done = c.drain.new.self in
    let is = c.in-Ok.ensures.drained in
    let kept = c.in-Ok.ensures.holds (c.clear_trash.ensures.told tells) told h k in
    let images = c.clear_trash.ensures.images tells done.identity kept.long done.numbers.committed done.numbers.committed done.numbers.journalled kept.on.images in
    leaves_all c.journal_law.ensures (with_waiting h s) s done (g.T.FileTree.disk c.drain.new.tree) (g.T.FileTree.disk c.clear_trash.new.tree) (g.D.Device.state c.drain.new.dev).disk
    is kept images s.numbers.journalled (omega (arith, k.end)) (omega (arith, c.drain.ensures.grows, ap (λ (x : Numbers). x.journalled) is.numbers))
