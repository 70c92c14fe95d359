use Rattle.std.proofs.Common.{ℕ, sym, subst}
use Rattle.tree_memory.specs.History.{settled}
use Rattle.tree_memory.specs.Valid.{IsValid}
use Rattle.tree_memory.specs.Told.{tree_of, count_of}
use Rattle.tree_memory.specs.Tells.{history_of}
use Rattle.tree_memory.proofs.Valids.{valid_image}
use Rattle.tree_memory.proofs.memory.MemoryTree.leave.Goals as goal

pub holding-requires : goal.holding-requires
holding-requires c =
    let m = c.args.self.now in
    let s = c.in_ok-image.image in
    subst (λ (k : ℕ). IsValid k (settled (tree_of s))) (sym c.in_ok-image.ensures.count) (valid_image (count_of m.store) (history_of m) (tree_of s) m.tied.valid c.in_ok-image.ensures.image)
