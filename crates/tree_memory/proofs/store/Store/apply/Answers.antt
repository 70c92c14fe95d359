use Rattle.std.proofs.Common.{ap}
use Rattle.std.proofs.lemmas.Result.{on_err_weaker}
use Rattle.tree_memory.specs.Told.{tree_of}
use Rattle.tree_memory.proofs.store.Store.apply.Goals as goal

pub returns-in-MoveAll-clause-err : goal.returns-in-MoveAll-clause-err
returns-in-MoveAll-clause-err c = on_err_weaker c.edit_all.result (λ same. ap (λ at. record (tree_of c.args.self.now) { at = at }) same) c.edit_all.ensures.err
