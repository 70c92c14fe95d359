use Rattle.std.proofs.Common.{◌≡◌, ◌++◌, ℕ, zero, suc, List, [], ◌∷◌, refl, ap, ◌∙◌}
use Rattle.tree_api.specs.Tree.{Path, Names, new_dir}
use Rattle.tree_memory.specs.Names.{names_at, put_at, no_names}
use Rattle.tree_memory.specs.Nodes.{version, node_of}
use Rattle.tree_memory.specs.Told.{root_names}
use Rattle.tree_memory.specs.declared.node.Node.{Node}
use Rattle.tree_memory.proofs.store.Store.new.Goals as goal

root_is : (p : Path) → put_at [] 0 no_names p ≡ root_names p
root_is [] = refl
root_is (s ∷ p) = refl

one_node : (x : Node) (xs : List Node) → version x ≡ new_dir → xs ≡ x ∷ [] → (n : ℕ) → node_of xs n ≡ new_dir
one_node x xs e is n = ap (λ (l : List Node). node_of l n) is ∙ at n
  where
    at : (n : ℕ) → node_of (x ∷ []) n ≡ new_dir
    at zero = e
    at (suc n) = refl

pub returns-clause-tree : goal.returns-clause-tree
returns-clause-tree c =
    let names : names_at c.link-2.new.self ≡ put_at [] 0 no_names = c.in_ok-link.ensures.ok ∙ ap (λ (p : Path). put_at p 0 (names_at c.new-names.result)) c.root.ensures ∙ ap (put_at [] 0) c.new-names.ensures in
    let one = one_node c.new.result c.push.new.self.items c.new.ensures (c.in_ok-push.ensures.items ∙ ap (λ l. l ++ c.new.result ∷ []) c.new-nodes.ensures.items) in
    λ i. record { at = λ p. (ap (λ (f : Names). f p) names ∙ root_is p) i; node = λ n. one n i; snap = c.new-2.ensures i }
