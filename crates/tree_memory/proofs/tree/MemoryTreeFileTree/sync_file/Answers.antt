use Rattle.tree_memory.specs.Told.{count_of}
use Rattle.tree_memory.specs.Tells.{state_of}
use Rattle.tree_memory.proofs.Dones.{sync_call, sync_valid, sync_suits, seen_there, if_synced}
use Rattle.tree_memory.proofs.tree.MemoryTreeFileTree.sync_file.Goals as goal

pub syncing-event-requires : goal.syncing-event-requires
syncing-event-requires c =
    let m = c.args.self.now in
    seen_there m.store m.tied.reads c.args.path.now (c.requires.there tt)

pub call-requires-clause-suits : goal.call-requires-clause-suits
call-requires-clause-suits c =
    let m = c.args.self.now in
    sync_suits (state_of m) (count_of m.store) m.tied.valid m.plan.faults m.syncs m.looks 0 0 0 c.args.path.now c.syncing-event.result (if_synced m.store m.tied.reads c.args.path.now c.syncing-event.result c.syncing-event.ensures)

pub call-requires-clause-valid : goal.call-requires-clause-valid
call-requires-clause-valid c =
    let m = c.args.self.now in
    sync_valid (state_of m) (count_of m.store) m.tied.valid m.plan.faults m.syncs m.looks 0 0 0 c.args.path.now c.syncing-event.result (if_synced m.store m.tied.reads c.args.path.now c.syncing-event.result c.syncing-event.ensures)

pub returns-clause-synced : goal.returns-clause-synced
returns-clause-synced c = λ t.
    let m = c.args.self.now in
    let n = c.call.new.self in
    sync_call (state_of m) (count_of m.store) m.tied.valid m.plan.faults m.syncs m.looks n.plan.faults n.syncs n.looks c.args.path.now c.syncing-event.result (state_of n) c.call.result (c.requires.there tt) (if_synced m.store m.tied.reads c.args.path.now c.syncing-event.result c.syncing-event.ensures) c.call.ensures.did
