use Rattle.std.proofs.Common.{refl, rules}
use Rattle.script_store.specs.declared.fault.StepFault.TheVariants as stepping
use Rattle.script_store.proofs.Histories.{on_err}
use Rattle.script_store.proofs.Stepping.{is_work, left_alone, left_reading}
use Rattle.script_store.proofs.Answered.{read_after, read_holds, read_works, read_same, read_tree, read_device, drain_answers, drain_after, drain_holds, drain_works, drain_same, act_after, act_holds, act_works, act_same, act_tree, act_device, only_memory}
use Rattle.script_store.proofs.store.step.Goals as goal

pub returns-then-reads_tree-clause-answer : goal.returns-then-reads_tree-clause-answer
returns-then-reads_tree-clause-answer g c = λ tells told h k. c.read.ensures.answer tells h (record { works = k.works; long = k.long; tail = k.tail; end = k.end; shown = k.on.reads })

pub returns-then-reads_tree-clause-after : goal.returns-then-reads_tree-clause-after
returns-then-reads_tree-clause-after g c = λ tells told h k. read_after h c.args.store c.args.statement c.read.result (search rules) c.read.ensures.same

pub returns-then-reads_tree-clause-holds : goal.returns-then-reads_tree-clause-holds
returns-then-reads_tree-clause-holds g c = λ tells told h k.
    read_holds h c.args.store c.args.statement c.read.result (g.T.FileTree.disk c.args.tree.now) (g.T.FileTree.disk c.read.new.tree) (g.D.Device.state c.args.dev.now) (search rules)
    c.read.ensures.same (c.read.ensures.still tells) k

pub returns-then-reads_tree-clause-left : goal.returns-then-reads_tree-clause-left
returns-then-reads_tree-clause-left g c = λ tells told h k.
    on_err _ c.read.result (left_reading c.journal_law.ensures h c.args.store (g.T.FileTree.disk c.args.tree.now) (g.T.FileTree.disk c.read.new.tree) (g.D.Device.state c.args.dev.now) (c.read.ensures.still tells) k)

pub returns-then-reads_tree-clause-works : goal.returns-then-reads_tree-clause-works
returns-then-reads_tree-clause-works g c = read_works c.args.store c.read.result c.read.ensures.same c.requires.works

pub returns-then-reads_tree-clause-same : goal.returns-then-reads_tree-clause-same
returns-then-reads_tree-clause-same g c = read_same c.args.store c.read.result c.read.ensures.same

pub returns-then-reads_tree-clause-tree : goal.returns-then-reads_tree-clause-tree
returns-then-reads_tree-clause-tree g c = read_tree c.args.store c.read.result (g.T.FileTree.tells c.read.new.tree) (g.T.FileTree.disk c.read.new.tree) c.read.ensures.same c.read.ensures.tree

pub returns-then-reads_tree-clause-device : goal.returns-then-reads_tree-clause-device
returns-then-reads_tree-clause-device g c =
    read_device c.args.store c.read.result (g.D.Device.tells c.args.dev.now) (g.D.Device.state c.args.dev.now) c.read.ensures.same (record { extent = c.requires.device.extent; ring = c.requires.device.ring })

pub returns-then-drains-clause-answer : goal.returns-then-drains-clause-answer
returns-then-drains-clause-answer g c = λ tells told h k. drain_answers h c.args.store c.args.statement c.drain.result (search rules) c.drain.ensures.answer

pub returns-then-drains-clause-after : goal.returns-then-drains-clause-after
returns-then-drains-clause-after g c = λ tells told h k. drain_after h c.args.store c.args.statement c.drain.result (search rules) c.drain.ensures.opened c.drain.ensures.drained

pub returns-then-drains-clause-holds : goal.returns-then-drains-clause-holds
returns-then-drains-clause-holds g c = λ tells told h k.
    drain_holds h c.args.store c.args.statement c.drain.result (g.T.FileTree.disk c.drain.new.tree) (g.D.Device.state c.drain.new.dev) (search rules) (c.drain.ensures.holds tells told h k)

pub returns-then-drains-clause-left : goal.returns-then-drains-clause-left
returns-then-drains-clause-left g c = c.drain.ensures.left

pub returns-then-drains-clause-works : goal.returns-then-drains-clause-works
returns-then-drains-clause-works g c = drain_works c.args.store c.drain.result c.drain.ensures.drained

pub returns-then-drains-clause-same : goal.returns-then-drains-clause-same
returns-then-drains-clause-same g c = drain_same c.args.store c.drain.result c.drain.ensures.drained

pub act-requires-clause-work : goal.act-requires-clause-work
act-requires-clause-work g c = is_work c.args.statement (c.if-drains.ensures.no refl)

pub returns-clause-answer : goal.returns-clause-answer
returns-clause-answer g c = λ tells told h k. c.act.ensures.answer h k.waits

pub returns-clause-after : goal.returns-clause-after
returns-clause-after g c = λ tells told h k.
    act_after h c.args.store c.args.statement c.act.result (c.if-drains.ensures.no refl) (c.act.ensures.after h k.waits)

pub returns-clause-holds : goal.returns-clause-holds
returns-clause-holds g c = λ tells told h k.
    act_holds h c.args.store c.args.statement c.act.result (g.T.FileTree.disk c.args.tree.now) (g.D.Device.state c.args.dev.now) (c.if-drains.ensures.no refl)
    c.act.ensures.rest (c.act.ensures.waits h k.waits) k

pub returns-clause-left : goal.returns-clause-left
returns-clause-left g c = λ tells told h k.
    on_err _ c.act.result (left_alone c.journal_law.ensures h c.args.store.store (g.T.FileTree.disk c.args.tree.now) (g.D.Device.state c.args.dev.now).disk k)

pub returns-clause-works : goal.returns-clause-works
returns-clause-works g c = act_works c.args.store c.act.result c.act.ensures.rest c.requires.works

pub returns-clause-same : goal.returns-clause-same
returns-clause-same g c = act_same c.args.store c.act.result c.act.ensures.rest

pub returns-clause-tree : goal.returns-clause-tree
returns-clause-tree g c = act_tree c.args.store c.act.result (g.T.FileTree.tells c.args.tree.now) (g.T.FileTree.disk c.args.tree.now) c.act.ensures.rest c.requires.tree

pub returns-clause-device : goal.returns-clause-device
returns-clause-device g c =
    act_device c.args.store c.act.result (g.D.Device.tells c.args.dev.now) (g.D.Device.state c.args.dev.now) c.act.ensures.rest (record { extent = c.requires.device.extent; ring = c.requires.device.ring })

pub returns-clause-undamaged : goal.returns-clause-undamaged
returns-clause-undamaged g c = λ tells path. only_memory c.act.result (stepping.Damaged path) (λ e. absurd (cc)) c.act.ensures.memory

pub returns-clause-tree_cause : goal.returns-clause-tree_cause
returns-clause-tree_cause g c = λ is. absurd (only_memory c.act.result stepping.Tree (λ e. absurd (cc)) c.act.ensures.memory is)

pub returns-clause-device_cause : goal.returns-clause-device_cause
returns-clause-device_cause g c = λ is. absurd (only_memory c.act.result stepping.Device (λ e. absurd (cc)) c.act.ensures.memory is)
