use Rattle.std.proofs.Common.{sym, subst}
use Rattle.tree_api.specs.Tree.{Tree, look}
use Rattle.tree_memory.proofs.Pushes.{tied_low}
use Rattle.tree_api.specs.Answer.{IsStat}
use Rattle.tree_memory.proofs.tree.MemoryTreeFileTree.stat.Goals as goal

pub stat-requires : goal.stat-requires
stat-requires c =
    let m = c.args.self.now in
    tied_low m.origin m.store m.log.items m.synced m.tied

pub returns-clause-answer : goal.returns-clause-answer
returns-clause-answer c = λ t.
    let m = c.args.self.now in
    subst (λ (u : Tree). IsStat (look u c.args.path.now) c.in_ok-stat.field-0) (sym m.tied.reads) c.in_ok-stat.ensures
