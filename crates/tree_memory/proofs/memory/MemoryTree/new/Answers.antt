use Rattle.std.proofs.Common.{ℕ, refl, sym, subst}
use Rattle.tree_api.specs.Tree.{Tree}
use Rattle.tree_memory.specs.History.{settled}
use Rattle.tree_memory.specs.Valid.{IsValid}
use Rattle.tree_memory.specs.Told.{tree_of, root_names}
use Rattle.tree_memory.proofs.Valids.{valid_start}
use Rattle.tree_memory.proofs.memory.MemoryTree.new.Goals as goal

pub holding-requires : goal.holding-requires
holding-requires c =
    let s = c.in_ok-origin.origin in
    subst (λ (k : ℕ). IsValid k (settled (tree_of s))) (sym c.in_ok-origin.ensures.count)
    (subst (λ (t : Tree). IsValid 1 (settled t)) (sym c.in_ok-origin.ensures.tree) (valid_start root_names refl (λ s p. refl)))
