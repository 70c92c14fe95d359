use Rattle.std.proofs.Common.{None, refl}
use Rattle.tree_api.specs.Tree.{AttrIs}
use Rattle.tree_memory.specs.Told.{count_of}
use Rattle.tree_memory.specs.Tells.{state_of}
use Rattle.tree_memory.specs.Nodes.{with_attr}
use Rattle.tree_memory.proofs.Dones.{change_call, change_valid, change_suits, attr_is, seen_there, if_changed}
use Rattle.tree_memory.proofs.tree.MemoryTreeFileTree.remove_attr.Goals as goal

pub unsetting-event-requires : goal.unsetting-event-requires
unsetting-event-requires c =
    let m = c.args.self.now in
    seen_there m.store m.tied.reads c.args.path.now (c.requires.there tt)

pub call-requires-clause-suits : goal.call-requires-clause-suits
call-requires-clause-suits c =
    let m = c.args.self.now in
    change_suits (state_of m) (count_of m.store) m.tied.valid m.plan.faults m.syncs m.looks 0 0 0 c.args.path.now (λ v. with_attr v c.args.name.now None) c.unsetting-event.result (if_changed m.store m.tied.reads c.args.path.now (λ v. with_attr v c.args.name.now None) c.unsetting-event.result c.unsetting-event.ensures)

pub call-requires-clause-valid : goal.call-requires-clause-valid
call-requires-clause-valid c =
    let m = c.args.self.now in
    change_valid (state_of m) (count_of m.store) m.tied.valid m.plan.faults m.syncs m.looks 0 0 0 c.args.path.now (AttrIs c.args.name.now None) (λ v. with_attr v c.args.name.now None) (attr_is c.args.name.now None) (λ v. refl) (c.requires.there tt) c.unsetting-event.result (λ v short. short) (if_changed m.store m.tied.reads c.args.path.now (λ v. with_attr v c.args.name.now None) c.unsetting-event.result c.unsetting-event.ensures)

pub returns-clause-change : goal.returns-clause-change
returns-clause-change c = λ t.
    let m = c.args.self.now in
    let n = c.call.new.self in
    change_call (state_of m) (count_of m.store) m.tied.valid m.plan.faults m.syncs m.looks n.plan.faults n.syncs n.looks c.args.path.now (AttrIs c.args.name.now None) (λ v. with_attr v c.args.name.now None) (attr_is c.args.name.now None) (λ v. refl) (c.requires.there tt) c.unsetting-event.result (state_of n) c.call.result (if_changed m.store m.tied.reads c.args.path.now (λ v. with_attr v c.args.name.now None) c.unsetting-event.result c.unsetting-event.ensures) c.call.ensures.did
