-- Changes of names that keep which node is which, in each image and as it reads.
use Rattle.std.proofs.Common.{◌≡◌, ◌≢◌, ◌⊎◌, inl, inr, ⊎_elim, ℕ, refl, sym, ◌∙◌, ap, subst, Some, None, Result}
use Rattle.tree_api.specs.Tree.{Path, Version, Names, Tree, Gone, Named, Made, Wrote}
use Rattle.tree_api.specs.Disk.{Disk, Sound, Steps, Stays, Everywhere, From, Keeps, Moves, Creation, Leaves}
use Rattle.tree_api.specs.declared.tree.TreeError.{TreeError}
use Rattle.tree_api.proofs.Moments.{Joins, weaker, Step, leaves_same, leaves_stays, leaves_run}
use Rattle.tree_api.proofs.Images.{names_now}
use Rattle.lfn_index.specs.Renaming.{Added, BuiltAside, Builds, Come, Makes}
use Rattle.tree_api.specs.Renaming.{SameNamed, Renamed, NoNode, Without, Removes}
use Rattle.tree_api.proofs.Renaming.{IsKept, renamed_same, renamed_joins, renamed_wider, without_kept}
use Rattle.tree_api.proofs.Nodes.{dec_path}

-- the names with one gone, with a file built aside, with a new file
pub long_without_kept : (Long : Type 0) (p : Path) (t : Tree) → IsKept (λ c. Long × Without p t c)
long_without_kept Long p t b c is same = (is.0, without_kept p t b c is.1 same)

pub built_kept : (place : Path) (n : ℕ) (t : Tree) → IsKept (BuiltAside place n t)
built_kept place n t b c is same = record {
  here = ⊎_elim
      (λ none. inl (ap (λ (f : Names). f place) same.at ∙ none))
      (λ there. inr (ap (λ (f : Names). f place) same.at ∙ there.0, ap (λ (v : Version). v.dir) (same.nodes place n there.0) ∙ there.1)) is.here;
  others = λ q not. ap (λ (f : Names). f q) same.at ∙ is.others q not;
}

pub come_kept : (Long : Type 0) (place to : Path) (n : ℕ) (v : Version) (t : Tree) → IsKept (Come Long place to n v t)
come_kept Long place to n v t b c (inl there) same = inl (subst (λ (f : Names). Added Long place to n t.at f) (sym same.at) there.0, same.nodes to n there.0.here ∙ there.1)
come_kept Long place to n v t b c (inr way) same = inr (way.0, built_kept place n t b c way.1 same)

pub builds_same : (place : Path) (n : ℕ) (t c : Tree) → Builds place n t c c
builds_same place n t = renamed_same (BuiltAside place n t) (λ m. m ≡ n)

pub builds_joins : (place : Path) (n : ℕ) (t : Tree) → Joins (Builds place n t)
builds_joins place n t = renamed_joins (BuiltAside place n t) (λ m. m ≡ n) (built_kept place n t)

pub makes_same : (Long : Type 0) (place to : Path) (n : ℕ) (v : Version) (t c : Tree) → Makes Long place to n v t c c
makes_same Long place to n v t = renamed_same (Come Long place to n v t) (λ m. m ≡ n)

pub makes_joins : (Long : Type 0) (place to : Path) (n : ℕ) (v : Version) (t : Tree) → Joins (Makes Long place to n v t)
makes_joins Long place to n v t = renamed_joins (Come Long place to n v t) (λ m. m ≡ n) (come_kept Long place to n v t)

pub removes_builds : (p : Path) (n : ℕ) (t a c : Tree) → Removes p t a c → Builds p n t a c
removes_builds p n t = renamed_wider (Without p t) NoNode (BuiltAside p n t) (λ m. m ≡ n) (λ c is. record { here = inl is.gone; others = is.others }) (λ m none. absurd none)

pub builds_makes : (Long : Type 0) (place to : Path) (n : ℕ) (v : Version) (t : Tree) → Long → (a c : Tree) → Builds place n t a c → Makes Long place to n v t a c
builds_makes Long place to n v t long = renamed_wider (BuiltAside place n t) (λ m. m ≡ n) (Come Long place to n v t) (λ m. m ≡ n) (λ c is. inr (long, is)) (λ m own. own)

-- where another node stands, it stood as it read
module _ (place : Path) (n : ℕ) (t c : Tree) where
  pub built_back : BuiltAside place n t c → (q : Path) (k : ℕ) → k ≢ n → c.at q ≡ Some k → t.at q ≡ Some k
  built_back is q k not here = elim (dec_path q place) [
    | inl same ↦ absurd (⊎_elim (λ none. no_some (sym none ∙ ap c.at (sym same) ∙ here)) (λ there. not (same_node (sym (ap c.at (sym same) ∙ here) ∙ there.0))) is.here)
    | inr other ↦ sym (is.others q other) ∙ here
  ]
    where
      no_some : None ≡ Some k → ⊥
      no_some e = cc

      same_node : Some k ≡ Some n → k ≡ n
      same_node e = cc

  pub added_back : (Long : Type 0) (to : Path) → Added Long place to n t.at c.at → (q : Path) (k : ℕ) → k ≢ n → c.at q ≡ Some k → t.at q ≡ Some k
  added_back Long to is q k not here = elim (dec_path q to) [
    | inl same ↦ absurd (not (same_node (sym here ∙ ap c.at same ∙ is.here)))
    | inr other ↦ sym (is.others q other (λ long at. no_some (sym (is.aside long) ∙ ap c.at (sym at) ∙ here))) ∙ here
  ]
    where
      no_some : None ≡ Some k → ⊥
      no_some e = cc

      same_node : Some k ≡ Some n → k ≡ n
      same_node e = cc

pub come_back : (Long : Type 0) (place to : Path) (n : ℕ) (v : Version) (t c : Tree) → Come Long place to n v t c → (q : Path) (k : ℕ) → k ≢ n → c.at q ≡ Some k → t.at q ≡ Some k
come_back Long place to n v t c (inl there) = added_back place n t c Long to there.0
come_back Long place to n v t c (inr way) = built_back place n t c way.1

-- off the place aside node n stands at its name alone
pub come_here : (Long : Type 0) (place to : Path) (n : ℕ) (v : Version) (t c : Tree) → ((q : Path) → q ≢ place → t.at q ≢ Some n) → Come Long place to n v t c → (q : Path) → q ≢ place → c.at q ≡ Some n → (q ≡ to) × (c.node n ≡ v)
come_here Long place to n v t c away (inl there) q not here = elim (dec_path q to) [
  | inl same ↦ (same, there.1)
  | inr other ↦ absurd (away q not (sym (there.0.others q other (λ long. not)) ∙ here))
]
come_here Long place to n v t c away (inr way) q not here = absurd (away q not (sym (way.1.others q not) ∙ here))

pub come_names : (Long : Type 0) (place to : Path) (n : ℕ) (v : Version) (t c : Tree) → Come Long place to n v t c → (q : Path) → q ≢ place → q ≢ to → c.at q ≡ t.at q
come_names Long place to n v t c (inl there) q not other = there.0.others q other (λ long. not)
come_names Long place to n v t c (inr way) q not other = way.1.others q not

pub without_back : (p : Path) (t c : Tree) → Without p t c → (q : Path) (k : ℕ) → c.at q ≡ Some k → t.at q ≡ Some k
without_back p t c gone q k here = elim (dec_path q p) [
  | inl same ↦ let z : None ≡ Some k = sym gone.gone ∙ ap c.at (sym same) ∙ here in cc
  | inr other ↦ sym (gone.others q other) ∙ here
]
