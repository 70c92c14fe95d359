use Rattle.std.proofs.Common.{◌≡◌, sym, subst, ◌∙◌}
use Rattle.std.proofs.lemmas.Result.{IfOk-weaker}
use Rattle.tree_memory.specs.History.{IsImage}
use Rattle.tree_memory.specs.Told.{tree_of}
use Rattle.tree_memory.specs.Tells.{history_of}
use Rattle.tree_memory.specs.Images.{now_image}
use Rattle.tree_memory.specs.declared.store.Store.{Store}
use Rattle.tree_memory.proofs.memory.MemoryTree.left.Goals as goal

pub returns-then-choice-eq0-clause-image : goal.returns-then-choice-eq0-clause-image
returns-then-choice-eq0-clause-image c =
    let m = c.args.self.now in
    IfOk-weaker c.copy.result (λ (s : Store). tree_of s ≡ tree_of m.store) (λ (s : Store). IsImage (history_of m) (tree_of s))
    (λ s e. subst (IsImage (history_of m)) (m.tied.reads ∙ sym e) (now_image (history_of m))) c.copy.ensures.tree
