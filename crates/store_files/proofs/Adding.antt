-- A file or a directory is made at p.
use Rattle.std.proofs.Common.{◌≡◌, ◌≢◌, ⊎_elim, ℕ, List, [], refl, sym, ◌∙◌, ap, subst, Option, Some, None, Result, OnOk}
use Rattle.tree_api.specs.declared.tree.TreeError.{TreeError}
use Rattle.tree_api.specs.Tree.{Path, Version, Names, Tree, Made, Wrote, Written, file_of, look, held}
use Rattle.tree_api.specs.Disk.{Disk, Sound, Creation, Change, Synced, SyncedNames, Leaves}
use Rattle.tree_api.proofs.Images.{same_some, names_now, on_ok2}
use Rattle.tree_api.proofs.Moments.{Step, leaves_step, leaves_more, leaves_stays}
use Rattle.commit_point.specs.Replacing.{Filled}
use Rattle.commit_point.proofs.Making.{made_alone, filled}
use Rattle.store_files.specs.Steps.{Beside, Stands}

pub beside_same : (p : Path) (t : Tree) → Beside p t t
beside_same p t = record { snaps = refl; others = λ q not. refl; nodes = λ q m not here. refl }

pub beside_joins : (p : Path) (a b c : Tree) → Beside p a b → Beside p b c → Beside p a c
beside_joins p a b c one two = record {
  snaps = two.snaps ∙ one.snaps;
  others = λ q not. two.others q not ∙ one.others q not;
  nodes = λ q m not here. two.nodes q m not (one.others q not ∙ here) ∙ one.nodes q m not here;
}

-- a new node comes to p
module _ {T : Type 0} (p : Path) (v : Version) (d1 d2 : Disk) (r : Result T TreeError) (s1 : Sound d1) (creation : Creation p v d1 d2 r) where
  apart_node : (d : Tree) → d1.may d → (q : Path) (m : ℕ) → d.at q ≡ Some m → m ≢ creation.n
  apart_node d may q m here same = creation.fresh d may q (here ∙ ap Some same)

  old_pair : (d c : Tree) → d1.may d → c.at ≡ d.at → Made creation.n v creation.at d c → Beside p d c
  old_pair d c may names is = record {
    snaps = is.snaps;
    others = λ q not. ap (λ (f : Names). f q) names;
    nodes = λ q m not here. is.others m (apart_node d may q m here);
  }

  new_pair : (d c : Tree) → c.at ≡ creation.at → Made creation.n v creation.at d c → Beside p (record d { at = d1.tree.at }) c
  new_pair d c names is = record {
    snaps = is.snaps;
    others = λ q not. ap (λ (f : Names). f q) names ∙ creation.others q not;
    nodes = λ q m not here. is.others m (apart_node d1.tree s1.now q m here);
  }

  created_step : Step (Beside p) d1 d2
  created_step = record {
    steps = record {
      time = creation.step.time;
      image = λ c may.
          let from = creation.step.image c may in
          ⊎_elim
          (λ same. (from.0, from.1, old_pair from.0 c from.1 same from.2))
          (λ made. (record (from.0) { at = d1.tree.at }, names_now d1 s1 from.0 from.1, new_pair from.0 c made.0 from.2)) from.2.names;
    };
    now = ⊎_elim (λ same. old_pair d1.tree d2.tree s1.now same creation.partly) (λ made. new_pair d1.tree d2.tree made.0 creation.partly) creation.partly.names;
  }

  pub created_leaves : Leaves (Beside p) d1 d2
  created_leaves = leaves_step (Beside p) (beside_same p) (beside_joins p) d1 d2 s1 created_step

  -- a directory, and its name is stable
  module _ (s2 : Sound d2) {B : Type 0} (z : Result B TreeError) (d3 : Disk) (synced : SyncedNames d2 d3 z) where
    pub settled_leaves : Leaves (Beside p) d1 d3
    settled_leaves = leaves_stays (Beside p) (beside_same p) (beside_joins p) d1 d2 d3 s2 created_leaves synced.stays

    here_in : (d2.tree.at ≡ creation.at) × (d2.tree.node creation.n ≡ v) → (c : Tree) → d2.may c → c.at ≡ d2.tree.at → look c p ≡ Some v
    here_in done c may names =
        let at : c.at p ≡ Some creation.n = ap (λ (f : Names). f p) (names ∙ done.0) ∙ creation.added in
        let from = creation.step.image c may in
        ⊎_elim
        (λ same. absurd (creation.fresh from.0 from.1 p (sym (ap (λ (f : Names). f p) same) ∙ at)))
        (λ made. ap (λ (o : Option ℕ). held o c.node) at ∙ ap Some made.1) from.2.names

    pub settled : (d2.tree.at ≡ creation.at) × (d2.tree.node creation.n ≡ v) → OnOk z (Stands p v d3)
    settled done = on_ok2 z synced.names synced.names (λ names again. record {
      names = λ c may. names c may ∙ sym (ap (λ (t : Tree). t.at) synced.stays.tree);
      here = λ c may. here_in done c (synced.stays.image c may) (names c may);
    })

-- a new file gets its text
module _ {A : Type 0} (p : Path) (text : List ℕ) (d1 d2 d3 d4 : Disk) (r : Result A TreeError) (s1 : Sound d1) (s2 : Sound d2) (s3 : Sound d3) (creation : Creation p (file_of []) d1 d2 r)
    (done : (d2.tree.at ≡ creation.at) × (d2.tree.node creation.n ≡ file_of [])) {B : Type 0} (w : Result B TreeError) (change : Change p (Written 0 text) d2 d3 w) where
  same_node : creation.n ≡ change.n
  same_node = same_some creation.n change.n (sym creation.added ∙ sym (ap (λ (f : Names). f p) done.0) ∙ change.here)

  alone : (d : Tree) (q : Path) → d2.may d → q ≢ p → d.at q ≢ Some change.n
  alone d q may not = subst (λ (k : ℕ). d.at q ≢ Some k) same_node (made_alone p (file_of []) d1 d2 r s1 creation d q may not)

  wrote_pair : (d c : Tree) → d2.may d → Wrote change.n change.to d c → Beside p d c
  wrote_pair d c may is = record {
    snaps = is.snaps;
    others = λ q not. ap (λ (f : Names). f q) is.names;
    nodes = λ q m not here. is.others m (λ same. alone d q may not (here ∙ ap Some same));
  }

  wrote_step : Step (Beside p) d2 d3
  wrote_step = record {
    steps = record { time = change.step.time; image = λ c may. let from = change.step.image c may in (from.0, from.1, wrote_pair from.0 c from.1 from.2) };
    now = wrote_pair d2.tree d3.tree s2.now change.partly;
  }

  pub written_leaves : Leaves (Beside p) d1 d3
  written_leaves = leaves_more (Beside p) (beside_same p) (beside_joins p) d1 d2 d3 s2 (created_leaves p (file_of []) d1 d2 r s1 creation) wrote_step

  module _ {C : Type 0} (z : Result C TreeError) (synced : Synced p d3 d4 z) where
    pub synced_leaves : Leaves (Beside p) d1 d4
    synced_leaves = leaves_stays (Beside p) (beside_same p) (beside_joins p) d1 d3 d4 s3 written_leaves synced.stays

    stands_of : Filled p (file_of text) d1 d4 → Stands p (file_of text) d4
    stands_of is = record {
      names = is.names;
      here = λ c may. ap (λ (o : Option ℕ). held o c.node) (ap (λ (f : Names). f p) (is.names c may) ∙ is.here) ∙ ap Some (is.stable c may);
    }

    pub whole : d1.tree.at p ≡ None → d3.tree.node change.n ≡ change.to → OnOk z (Stands p (file_of text) d4)
    whole free wrote =
        let there = filled p text d1 d1 d2 d3 d4 s1 (record { free = free; others = λ q not. refl; nodes = refl; snaps = refl }) r creation done w change wrote z synced in
        on_ok2 z there there (λ one two. stands_of one)
