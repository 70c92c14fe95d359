use Rattle.tree_memory.specs.Tells.{state_of}
use Rattle.tree_memory.proofs.Dones.{seen_snap}
use Rattle.tree_memory.proofs.Rolls.{restore_suits, restore_valid, restore_call}
use Rattle.tree_memory.proofs.tree.MemoryTreeFileTree.rollback.Goals as goal

pub restoring-event-requires : goal.restoring-event-requires
restoring-event-requires c =
    let m = c.args.self.now in
    seen_snap m.store m.tied.reads c.args.seq (c.requires.there tt)

pub call-requires-clause-suits : goal.call-requires-clause-suits
call-requires-clause-suits c =
    let m = c.args.self.now in
    restore_suits (state_of m) m.store m.tied.valid m.tied.reads m.plan.faults m.syncs m.looks 0 0 0 c.args.seq c.restoring-event.result c.restoring-event.ensures

pub call-requires-clause-valid : goal.call-requires-clause-valid
call-requires-clause-valid c =
    let m = c.args.self.now in
    restore_valid (state_of m) m.store m.tied.valid m.tied.reads m.plan.faults m.syncs m.looks 0 0 0 c.args.seq c.restoring-event.result c.restoring-event.ensures

pub returns-clause-change : goal.returns-clause-change
returns-clause-change c = λ t kept there.
    let m = c.args.self.now in
    let n = c.call.new.self in
    restore_call (state_of m) m.store m.tied.valid m.tied.reads m.plan.faults m.syncs m.looks n.plan.faults n.syncs n.looks c.args.seq kept there c.restoring-event.result (state_of n) c.call.result c.restoring-event.ensures c.call.ensures.did
