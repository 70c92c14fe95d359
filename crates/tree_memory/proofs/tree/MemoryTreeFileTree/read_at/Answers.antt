use Rattle.tree_memory.specs.Tells.{state_of}
use Rattle.tree_memory.proofs.Pushes.{tied_low}
use Rattle.tree_memory.proofs.Readings.{reads_bytes}
use Rattle.tree_memory.proofs.tree.MemoryTreeFileTree.read_at.Goals as goal

pub returns-clause-bytes : goal.returns-clause-bytes
returns-clause-bytes c = λ t.
    let m = c.args.self.now in
    let n = c.in_ok-node.node in
    let low = tied_low m.origin m.store m.log.items m.synced m.tied c.args.path.now n c.in_ok-node.ensures in
    reads_bytes m.store (state_of m).now.tree m.tied.reads c.args.path.now n c.in_ok-node.ensures low c.index-node.result.now c.index-node.ensures c.args.at c.args.into.now c.read_at.new.into c.read_at.result c.read_at.ensures.count c.read_at.ensures.bytes
