use Rattle.std.proofs.Common.{Some, refl}
use Rattle.tree_api.specs.Tree.{AttrIs}
use Rattle.tree_memory.specs.Told.{count_of}
use Rattle.tree_memory.specs.Tells.{state_of}
use Rattle.tree_memory.specs.Nodes.{with_attr}
use Rattle.tree_memory.proofs.Dones.{change_call, change_valid, change_suits, attr_is, seen_there, if_changed}
use Rattle.tree_memory.proofs.tree.MemoryTreeFileTree.set_attr.Goals as goal

pub setting-event-requires : goal.setting-event-requires
setting-event-requires c =
    let m = c.args.self.now in
    seen_there m.store m.tied.reads c.args.path.now (c.requires.there tt)

pub call-requires-clause-suits : goal.call-requires-clause-suits
call-requires-clause-suits c =
    let m = c.args.self.now in
    change_suits (state_of m) (count_of m.store) m.tied.valid m.plan.faults m.syncs m.looks 0 0 0 c.args.path.now (λ v. with_attr v c.args.name.now (Some c.args.value.now)) c.setting-event.result (if_changed m.store m.tied.reads c.args.path.now (λ v. with_attr v c.args.name.now (Some c.args.value.now)) c.setting-event.result c.setting-event.ensures)

pub call-requires-clause-valid : goal.call-requires-clause-valid
call-requires-clause-valid c =
    let m = c.args.self.now in
    change_valid (state_of m) (count_of m.store) m.tied.valid m.plan.faults m.syncs m.looks 0 0 0 c.args.path.now (AttrIs c.args.name.now (Some c.args.value.now)) (λ v. with_attr v c.args.name.now (Some c.args.value.now)) (attr_is c.args.name.now (Some c.args.value.now)) (λ v. refl) (c.requires.there tt) c.setting-event.result (λ v short. short) (if_changed m.store m.tied.reads c.args.path.now (λ v. with_attr v c.args.name.now (Some c.args.value.now)) c.setting-event.result c.setting-event.ensures)

pub returns-clause-change : goal.returns-clause-change
returns-clause-change c = λ t.
    let m = c.args.self.now in
    let n = c.call.new.self in
    change_call (state_of m) (count_of m.store) m.tied.valid m.plan.faults m.syncs m.looks n.plan.faults n.syncs n.looks c.args.path.now (AttrIs c.args.name.now (Some c.args.value.now)) (λ v. with_attr v c.args.name.now (Some c.args.value.now)) (attr_is c.args.name.now (Some c.args.value.now)) (λ v. refl) (c.requires.there tt) c.setting-event.result (state_of n) c.call.result (if_changed m.store m.tied.reads c.args.path.now (λ v. with_attr v c.args.name.now (Some c.args.value.now)) c.setting-event.result c.setting-event.ensures) c.call.ensures.did
