use Rattle.std.proofs.Common.{◌<◌, ℕ, sym, subst}
use Rattle.tree_memory.specs.Tells.{state_of}
use Rattle.tree_memory.proofs.Pushes.{tied_low}
use Rattle.tree_memory.proofs.Readings.{reads_attrs}
use Rattle.tree_memory.proofs.tree.MemoryTreeFileTree.attrs.Goals as goal

pub index-node-requires : goal.index-node-requires
index-node-requires c =
    let m = c.args.self.now in
    subst (λ (n : ℕ). c.in_ok-node.node < n) (sym m.store.nodes.ok.0) (tied_low m.origin m.store m.log.items m.synced m.tied c.args.path.now c.in_ok-node.node c.in_ok-node.ensures)

pub returns-clause-names : goal.returns-clause-names
returns-clause-names c = λ t.
    let m = c.args.self.now in
    let n = c.in_ok-node.node in
    let low = tied_low m.origin m.store m.log.items m.synced m.tied c.args.path.now n c.in_ok-node.ensures in
    reads_attrs m.store (state_of m).now.tree m.tied.reads c.args.path.now n c.in_ok-node.ensures low c.index-node.result.now c.index-node.ensures c.in_ok-attr_names.field-0.items c.in_ok-attr_names.ensures
