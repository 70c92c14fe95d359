use Rattle.std.proofs.Common.{◌≡◌, ◌++◌, ◌+◌, ℕ, false, List, [], ◌∷◌, ◌==◌, length, take, drop, ap, ◌∙◌}
use Rattle.tree_memory.specs.Nodes.{version}
use Rattle.tree_memory.proofs.Bytes.{put_bytes}
use Rattle.tree_memory.proofs.node.Node.write_at.Goals as goal

not_nil : (bs : List ℕ) → false ≡ (length bs == 0) → bs ≡ [] → ⊥
not_nil [] e h = cc
not_nil (b ∷ bs) e h = cc

pub returns-clause-ok : goal.returns-clause-ok
returns-clause-ok c =
    let bytes = c.args.bytes.now in
    let at = c.args.at in
    ap (λ (l : List ℕ). record (version c.args.self.now) { bytes = l })
    (c.put_at.ensures
    ∙ ap (λ (l : List ℕ). take at l ++ bytes ++ drop (at + length bytes) l) c.in_ok-lengthen.ensures.ok
    ∙ put_bytes c.args.self.now.bytes.items at bytes (not_nil bytes c.if-is_empty.ensures))
