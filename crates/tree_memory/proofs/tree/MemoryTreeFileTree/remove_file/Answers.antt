use Rattle.tree_memory.specs.Told.{count_of}
use Rattle.tree_memory.specs.Tells.{state_of}
use Rattle.tree_memory.proofs.Dones.{gone_call, gone_file_valid, gone_suits}
use Rattle.tree_memory.proofs.tree.MemoryTreeFileTree.remove_file.Goals as goal

pub call-requires-clause-suits : goal.call-requires-clause-suits
call-requires-clause-suits c =
    let m = c.args.self.now in
    gone_suits (state_of m) (count_of m.store) m.tied.valid m.plan.faults m.syncs m.looks 0 0 0 c.args.path.now c.removing-event.result c.removing-event.ensures

pub call-requires-clause-valid : goal.call-requires-clause-valid
call-requires-clause-valid c =
    let m = c.args.self.now in
    gone_file_valid (state_of m) (count_of m.store) m.tied.valid m.plan.faults m.syncs m.looks 0 0 0 c.args.path.now c.removing-event.result (c.requires.file tt) c.removing-event.ensures

pub returns-clause-change : goal.returns-clause-change
returns-clause-change c = λ t.
    let m = c.args.self.now in
    let n = c.call.new.self in
    gone_call (state_of m) (count_of m.store) m.tied.valid m.plan.faults m.syncs m.looks n.plan.faults n.syncs n.looks c.args.path.now c.removing-event.result (state_of n) c.call.result c.removing-event.ensures c.call.ensures.did
