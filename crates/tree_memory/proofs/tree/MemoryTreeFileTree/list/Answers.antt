use Rattle.std.proofs.Common.{sym, subst}
use Rattle.tree_api.specs.Tree.{Tree}
use Rattle.tree_memory.proofs.Pushes.{tied_low}
use Rattle.tree_api.specs.Answer.{IsListing}
use Rattle.tree_memory.proofs.tree.MemoryTreeFileTree.list.Goals as goal

pub list-requires : goal.list-requires
list-requires c =
    let m = c.args.self.now in
    tied_low m.origin m.store m.log.items m.synced m.tied

pub returns-clause-entries : goal.returns-clause-entries
returns-clause-entries c = λ t.
    let m = c.args.self.now in
    subst (λ (u : Tree). IsListing u c.args.dir.now c.in_ok-list.field-0.items) (sym m.tied.reads) c.in_ok-list.ensures
