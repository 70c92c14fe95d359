-- Changes of names that keep which node is which, in each image and as it reads.
use Rattle.std.proofs.Common.{◌≡◌, ◌≢◌, ◌⊎◌, inl, inr, ⊎_elim, ℕ, refl, sym, ◌∙◌, ap, subst, Some, Result}
use Rattle.tree_api.specs.Tree.{Path, Version, Names, Tree, Gone, Named, Made, Wrote}
use Rattle.tree_api.specs.Disk.{Disk, Sound, Steps, Stays, Everywhere, From, Keeps, Moves, Leaves, Creation}
use Rattle.tree_api.specs.Renaming.{SameNamed, Renamed, NoNode, Without, Removes}
use Rattle.tree_api.specs.declared.tree.TreeError.{TreeError}
use Rattle.tree_api.proofs.Moments.{Joins, Step, weaker, leaves_same, leaves_stays, leaves_run}
use Rattle.tree_api.proofs.Images.{names_now}

pub named_same : (c : Tree) → SameNamed c c
named_same c = record { at = refl; nodes = λ q m here. refl }

pub named_joins : (a b c : Tree) → SameNamed a b → SameNamed b c → SameNamed a c
named_joins a b c one two = record {
  at = two.at ∙ one.at;
  nodes = λ q m here. two.nodes q m (ap (λ (f : Names). f q) one.at ∙ here) ∙ one.nodes q m here;
}

-- what holds of names and named nodes
abbrev pub IsKept : (Tree → Type 0) → Type 0
IsKept Such = (b c : Tree) → Such b → SameNamed b c → Such c

module _ (Such : Tree → Type 0) (Own : ℕ → Type 0) where
  pub renamed_same : (c : Tree) → Renamed Such Own c c
  renamed_same c = record { snaps = refl; others = λ m not. refl; names = inl (named_same c) }

  pub renamed_joins : IsKept Such → Joins (Renamed Such Own)
  renamed_joins kept a b c one two = record {
    snaps = two.snaps ∙ one.snaps;
    others = λ m not. two.others m not ∙ one.others m not;
    names = ⊎_elim (λ same. ⊎_elim (λ first. inl (named_joins a b c first same)) (λ such. inr (kept b c such same)) one.names) (λ such. inr such) two.names;
  }

  pub renamed_wider : (More : Tree → Type 0) (Owns : ℕ → Type 0) → ((c : Tree) → Such c → More c) → ((m : ℕ) → Own m → Owns m) → (a c : Tree) → Renamed Such Own a c → Renamed More Owns a c
  renamed_wider More Owns f g a c is = record {
    snaps = is.snaps;
    others = λ m not. is.others m (λ own. not (g m own));
    names = ⊎_elim (λ same. inl same) (λ such. inr (f c such)) is.names;
  }

  module _ (old new : Disk) (sound : Sound old) where
    named_pair : (at : Names) → ((d c : Tree) → old.may d → c.at ≡ at → c.node ≡ d.node → Such c) → (d c : Tree) → old.may d → Named at d c → Renamed Such Own d c
    named_pair at such d c may is = record {
      snaps = is.snaps;
      others = λ m not. ap (λ (f : ℕ → Version). f m) is.nodes;
      names = ⊎_elim (λ same. inl (record { at = same; nodes = λ q m here. ap (λ (f : ℕ → Version). f m) is.nodes })) (λ new_names. inr (such d c may new_names is.nodes)) is.names;
    }

    -- the names become these
    pub renames : (at : Names) → ((d c : Tree) → old.may d → c.at ≡ at → c.node ≡ d.node → Such c) → Steps (Named at) old new → Named at old.tree new.tree → Step (Renamed Such Own) old new
    renames at such step partly = record {
      steps = record { time = step.time; image = λ c may. let from = step.image c may in (from.0, from.1, named_pair at such from.0 c from.1 from.2) };
      now = named_pair at such old.tree new.tree sound.now partly;
    }

    module _ {T : Type 0} (p : Path) (v : Version) (r : Result T TreeError) (creation : Creation p v old new r) (own : Own creation.n)
        (such : (c : Tree) → c.at ≡ creation.at → c.node creation.n ≡ v → Such c) where
      created_pair : (d c : Tree) → old.may d → Made creation.n v creation.at d c → Renamed Such Own d c
      created_pair d c may is = record {
        snaps = is.snaps;
        others = λ m not. is.others m (λ eq. not (subst Own (sym eq) own));
        names = ⊎_elim (λ same. inl (record { at = same; nodes = λ q m here. is.others m (λ eq. creation.fresh d may q (here ∙ ap Some eq)) })) (λ made. inr (such c made.0 made.1)) is.names;
      }

      -- a new node comes
      pub creates : Step (Renamed Such Own) old new
      creates = record {
        steps = record { time = creation.step.time; image = λ c may. let from = creation.step.image c may in (from.0, from.1, created_pair from.0 c from.1 from.2) };
        now = created_pair old.tree new.tree sound.now creation.partly;
      }

    module _ (n : ℕ) (v : Version) (own : Own n) (each : (d : Tree) → old.may d → ((q : Path) → d.at q ≢ Some n) ⊎ ((c : Tree) → Wrote n v d c → Such c)) where
      wrote_pair : (d c : Tree) → old.may d → Wrote n v d c → Renamed Such Own d c
      wrote_pair d c may is = record {
        snaps = is.snaps;
        others = λ m not. is.others m (λ eq. not (subst Own (sym eq) own));
        names = ⊎_elim (λ nowhere. inl (record { at = is.names; nodes = λ q m here. is.others m (λ eq. nowhere q (here ∙ ap Some eq)) })) (λ such. inr (such c is)) (each d may);
      }

      -- a node changes that stands nowhere or where it may
      pub writes : Steps (Wrote n v) old new → Wrote n v old.tree new.tree → Step (Renamed Such Own) old new
      writes step partly = record {
        steps = record { time = step.time; image = λ c may. let from = step.image c may in (from.0, from.1, wrote_pair from.0 c from.1 from.2) };
        now = wrote_pair old.tree new.tree sound.now partly;
      }

  -- an image with its own names came from one with these; one with other names from one with the names that read
  pub moves_by : (S : Tree → Tree → Type 0) (old new : Disk) → Sound old → Leaves (Renamed Such Own) old new
      → ((a c : Tree) → old.may a → SameNamed a c → S a c)
      → ((a c : Tree) → old.may a → a.at ≡ old.tree.at → ((m : ℕ) → (Own m → ⊥) → c.node m ≡ a.node m) → Such c → S a c)
      → Moves S old new
  moves_by S old new sound leaves f g = weaker (From old (Renamed Such Own)) (From old S) old new leaves.any_moment (λ c from.
      let a = from.0 in
      ⊎_elim (λ same. (a, from.1, f a c from.1 same)) (λ such. (record a { at = old.tree.at }, names_now old sound a from.1, g (record a { at = old.tree.at }) c (names_now old sound a from.1) refl from.2.others such)) from.2.names)

  pub kept_by : (Q : Tree → Type 0) (old new : Disk) → Sound old → Leaves (Renamed Such Own) old new
      → ((a c : Tree) → old.may a → SameNamed a c → Q a → Q c)
      → ((a c : Tree) → old.may a → a.at ≡ old.tree.at → ((m : ℕ) → (Own m → ⊥) → c.node m ≡ a.node m) → Such c → Q a → Q c)
      → Everywhere old Q → Keeps Q old new
  kept_by Q old new sound leaves f g all = weaker (From old (λ a c. Q a → Q c)) Q old new (moves_by (λ a c. Q a → Q c) old new sound leaves f g) (λ c from. from.2 (all from.0 from.1))

-- after calls that change nothing
pub run_after : (R : Tree → Tree → Type 0) → ((c : Tree) → R c c) → Joins R → (d0 d1 d2 : Disk) → Sound d0 → Sound d1 → Stays d0 d1 → Leaves R d1 d2 → Leaves R d0 d2
run_after R same joins d0 d1 d2 s0 s1 stays leaves = leaves_run R same joins d0 d1 d2 s1 (leaves_stays R same joins d0 d0 d1 s0 (leaves_same R same joins d0 s0) stays) leaves

pub only_stays : (R : Tree → Tree → Type 0) → ((c : Tree) → R c c) → Joins R → (d0 d1 : Disk) → Sound d0 → Stays d0 d1 → Leaves R d0 d1
only_stays R same joins d0 d1 s0 stays = leaves_stays R same joins d0 d0 d1 s0 (leaves_same R same joins d0 s0) stays

-- a name goes
pub without_kept : (p : Path) (t : Tree) → IsKept (Without p t)
without_kept p t b c is same = subst (λ (f : Names). Gone p t.at f) (sym same.at) is

pub removes_same : (p : Path) (t c : Tree) → Removes p t c c
removes_same p t = renamed_same (Without p t) NoNode

pub removes_joins : (p : Path) (t : Tree) → Joins (Removes p t)
removes_joins p t = renamed_joins (Without p t) NoNode (without_kept p t)
