use Rattle.std.proofs.Common.{◌≡◌, ℕ, true, false, Option, Some, None, refl, sym, subst}
use Rattle.tree_api.specs.Tree.{Path, Tree, held, look}
use Rattle.tree_api.specs.Answer.{IsStat, kind_of}
use Rattle.tree_api.specs.declared.tree.Stat.{Stat}
use Rattle.tree_api.specs.declared.tree.Kind.{Kind}
use Rattle.tree_memory.specs.Seen.{IsSeen}
use Rattle.tree_memory.proofs.tests.seen.Goals as goal

seen_at : (t : Tree) (p : Path) (st : Stat) (o : Option ℕ) → t.at p ≡ o → IsStat (held o t.node) (Some st) → IsSeen t p (Some st.kind)
seen_at t p st None e s = absurd s
seen_at t p st (Some n) e s = subst (λ (k : Kind). IsSeen t p (Some k)) (sym s.0) (elim (t.node n).dir as (λ b. (t.node n).dir ≡ b → IsSeen t p (Some (kind_of b))) [
  | true ↦ λ d. (n, e, d)
  | false ↦ λ d. (n, e, d)
] refl)

seen_is : (now old : Tree) (p : Path) (o : Option Stat) (st : Stat) → now ≡ old → IsStat (look old p) o → o ≡ Some st → IsSeen now p (Some st.kind)
seen_is now old p o st same s is = subst (λ (t : Tree). IsSeen t p (Some st.kind)) (sym same) (seen_at old p st (old.at p) refl (subst (IsStat (look old p)) is s))

pub returns-in-Some-clause-kind : goal.returns-in-Some-clause-kind
returns-in-Some-clause-kind c = seen_is _ _ c.args.path.now c.in_ok-stat.field-0 c.in-Some.stat (c.in_ok-stat.ensures.still tt).stays.tree (c.in_ok-stat.ensures.answer tt) c.in-Some.is
