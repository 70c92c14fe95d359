use Rattle.std.proofs.Common.{arith}
use Rattle.std.proofs.lemmas.Grind.{common_steps}
use Rattle.tree_memory.specs.Told.{tree_of}
use Rattle.tree_memory.proofs.Dones.{sync_all_call}
use Rattle.tree_memory.proofs.Pushes.{tied_synced}
use Rattle.tree_memory.specs.Log.{replay, start}
use Rattle.tree_memory.proofs.tree.MemoryTreeFileTree.sync_all.Goals as goal

pub invariant_of-self-2 : goal.invariant_of-self-2
invariant_of-self-2 c =
    let m = c.args.self.now in
    record { few = grind (arith, common_steps, m.few, c.next.ensures.counts, c.if-next.false); tied = tied_synced m.origin m.store m.log.items m.synced m.tied }

pub returns-clause-synced : goal.returns-clause-synced
returns-clause-synced c = λ t.
    let m = c.args.self.now in
    sync_all_call (replay m.log.items (start (tree_of m.origin))) m.synced m.plan.faults m.syncs m.looks c.next.new.self.faults c.saturating_add-self.result _
