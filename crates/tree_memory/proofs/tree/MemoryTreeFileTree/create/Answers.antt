use Rattle.tree_memory.specs.Told.{count_of}
use Rattle.tree_memory.specs.Tells.{state_of}
use Rattle.std.proofs.Common.{false}
use Rattle.tree_memory.proofs.Dones.{make_call, make_valid, make_suits}
use Rattle.tree_memory.proofs.tree.MemoryTreeFileTree.create.Goals as goal

pub call-requires-clause-suits : goal.call-requires-clause-suits
call-requires-clause-suits c =
    let m = c.args.self.now in
    make_suits (state_of m) (count_of m.store) m.tied.valid m.plan.faults m.syncs m.looks 0 0 0 c.args.path.now false c.making-event.result c.making-event.ensures

pub call-requires-clause-valid : goal.call-requires-clause-valid
call-requires-clause-valid c =
    let m = c.args.self.now in
    make_valid (state_of m) (count_of m.store) m.tied.valid m.plan.faults m.syncs m.looks 0 0 0 c.args.path.now false c.making-event.result (c.requires.free tt).0 (c.requires.free tt).1 c.making-event.ensures

pub returns-clause-change : goal.returns-clause-change
returns-clause-change c = λ t.
    let m = c.args.self.now in
    let n = c.call.new.self in
    make_call (state_of m) (count_of m.store) m.tied.valid m.plan.faults m.syncs m.looks n.plan.faults n.syncs n.looks c.args.path.now false c.making-event.result (state_of n) c.call.result c.making-event.ensures c.call.ensures.did
