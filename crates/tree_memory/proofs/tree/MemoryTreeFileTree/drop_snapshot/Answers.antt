use Rattle.tree_memory.specs.Told.{count_of}
use Rattle.tree_memory.specs.Tells.{state_of}
use Rattle.tree_memory.proofs.Dones.{drop_call, drop_valid}
use Rattle.tree_memory.proofs.tree.MemoryTreeFileTree.drop_snapshot.Goals as goal

pub call-requires-clause-valid : goal.call-requires-clause-valid
call-requires-clause-valid c =
    let m = c.args.self.now in
    drop_valid (state_of m) (count_of m.store) m.tied.valid m.plan.faults m.syncs m.looks 0 0 0 c.args.seq

pub returns-clause-change : goal.returns-clause-change
returns-clause-change c = λ t.
    let m = c.args.self.now in
    let n = c.call.new.self in
    drop_call (state_of m) (count_of m.store) m.tied.valid m.plan.faults m.syncs m.looks n.plan.faults n.syncs n.looks c.args.seq (state_of n) c.call.result c.call.ensures.did
