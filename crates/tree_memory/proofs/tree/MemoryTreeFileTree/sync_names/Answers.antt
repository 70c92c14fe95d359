use Rattle.tree_memory.specs.Told.{count_of}
use Rattle.tree_memory.specs.Tells.{state_of}
use Rattle.tree_memory.proofs.Dones.{names_call, names_valid}
use Rattle.tree_memory.proofs.tree.MemoryTreeFileTree.sync_names.Goals as goal

pub call-requires-clause-valid : goal.call-requires-clause-valid
call-requires-clause-valid c =
    let m = c.args.self.now in
    names_valid (state_of m) (count_of m.store) m.tied.valid m.plan.faults m.syncs m.looks 0 0 0

pub returns-clause-synced : goal.returns-clause-synced
returns-clause-synced c = λ t.
    let m = c.args.self.now in
    let n = c.call.new.self in
    names_call (state_of m) (count_of m.store) m.tied.valid m.plan.faults m.syncs m.looks n.plan.faults n.syncs n.looks (state_of n) c.call.result c.call.ensures.did
