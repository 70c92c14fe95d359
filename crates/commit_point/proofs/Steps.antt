-- Steps that replace a file.
use Rattle.std.proofs.Common.{◌≡◌, ◌≢◌, ◌⊎◌, inl, inr, ⊎_elim, ℕ, refl, ◌∙◌, ap, Option, Some, None}
use Rattle.tree_api.specs.Tree.{Path, Version, Tree, IsFree, held, look}
use Rattle.tree_api.proofs.Moments.{Joins}
use Rattle.commit_point.specs.Replacing.{Replaces}

-- what stands at a path whose name and node stay
pub look_stays : (a b : Tree) (q : Path) → b.at q ≡ a.at q → ((m : ℕ) → a.at q ≡ Some m → b.node m ≡ a.node m) → look b q ≡ look a q
look_stays a b q names nodes = ap (λ (o : Option ℕ). held o b.node) names ∙ one (a.at q) (λ m is. nodes m is)
  where
    one : (o : Option ℕ) → ((m : ℕ) → o ≡ Some m → b.node m ≡ a.node m) → held o b.node ≡ held o a.node
    one None f = refl
    one (Some m) f = ap Some (f m refl)

pub free_stays : (a b : Tree) (q : Path) → b.at q ≡ a.at q → ((m : ℕ) → a.at q ≡ Some m → (b.node m).dir ≡ (a.node m).dir) → IsFree a q → IsFree b q
free_stays a b q names nodes (inl none) = inl (names ∙ none)
free_stays a b q names nodes (inr (m, at, dir)) = inr (m, names ∙ at, nodes m at ∙ dir)

module _ (p to : Path) (v : Version) where
  pub replaces_same : (c : Tree) → Replaces p to v c c
  replaces_same c = record { snaps = refl; others = λ q not nor. refl; nodes = λ q m not nor here. refl; target = inl refl; place = λ free. free }

  pub replaces_joins : Joins (Replaces p to v)
  replaces_joins a b c one two = record {
    snaps = two.snaps ∙ one.snaps;
    others = λ q not nor. two.others q not nor ∙ one.others q not nor;
    nodes = λ q m not nor here. two.nodes q m not nor (one.others q not nor ∙ here) ∙ one.nodes q m not nor here;
    target = ⊎_elim (λ same. ⊎_elim (λ first. inl (same ∙ first)) (λ is. inr (same ∙ is)) one.target) (λ is. inr is) two.target;
    place = λ free. two.place (one.place free);
  }

  -- names other than p's stay, and so does each node that has such a name
  pub replaces_by : to ≢ p → (a c : Tree) → c.snap ≡ a.snap → ((q : Path) → q ≢ p → c.at q ≡ a.at q) → ((q : Path) (m : ℕ) → q ≢ p → a.at q ≡ Some m → c.node m ≡ a.node m)
      → (IsFree a p → IsFree c p) → Replaces p to v a c
  replaces_by apart a c snaps others nodes place = record {
    snaps = snaps;
    others = λ q not nor. others q not;
    nodes = λ q m not nor here. nodes q m not here;
    target = inl (look_stays a c to (others to apart) (λ m here. nodes to m apart here));
    place = place;
  }
