use Rattle.std.proofs.Common.{rules, ◌≡◌, ℕ, true, false, Option, Some, None, refl, sym, subst}
use Rattle.tree_api.specs.Tree.{Path, Tree, held, look}
use Rattle.tree_api.specs.Answer.{IsStat, kind_of}
use Rattle.tree_api.specs.declared.tree.Stat.{Stat}
use Rattle.tree_api.specs.declared.tree.Kind.{Kind}
use Rattle.tree_trials.specs.Seen.{IsSeen}
use Rattle.tree_trials.proofs.seen.Goals as goal

seen_at : (t : Tree) (p : Path) (st : Stat) (o : Option ℕ) → t.at p ≡ o → IsStat (held o t.node) (Some st) → IsSeen t p (Some st.kind)
seen_at t p st None e s = absurd s
seen_at t p st (Some n) e s = subst (λ (k : Kind). IsSeen t p (Some k)) (sym s.0) (elim (t.node n).dir as (λ b. (t.node n).dir ≡ b → IsSeen t p (Some (kind_of b))) [
  | true ↦ λ d. (n, e, d)
  | false ↦ λ d. (n, e, d)
] refl)

seen_is : (t : Tree) (p : Path) (o : Option Stat) (st : Stat) → IsStat (look t p) o → o ≡ Some st → IsSeen t p (Some st.kind)
seen_is t p o st s is = seen_at t p st (t.at p) refl (subst (IsStat (look t p)) is s)

pub returns-in-Some-clause-kind : goal.returns-in-Some-clause-kind
returns-in-Some-clause-kind g c = λ t. seen_is (g.T.FileTree.disk c.args.tree.now).tree c.args.path.now c.in_ok-stat.field-0 c.in-Some.stat (c.in_ok-stat.ensures.answer (search rules)) c.in-Some.is
