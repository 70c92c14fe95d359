-- A file that was built takes its place.
use Rattle.std.proofs.Common.{◌≡◌, ◌≢◌, ◌⊎◌, inl, inr, ⊎_elim, ℕ, false, List, [], ◌∷◌, ◌++◌, sym, ◌∙◌, ap, Option, Some, None, Result, OnOk}
use Rattle.tree_api.specs.declared.tree.TreeError.{TreeError}
use Rattle.tree_api.specs.Tree.{Path, Version, Names, Tree, IsFile, IsDir, IsFree, HasParent, Named, MovedFile, look, held}
use Rattle.tree_api.specs.Disk.{Disk, Sound, NameChange, SyncedNames, Everywhere, Leaves}
use Rattle.tree_api.proofs.Images.{on_ok2, names_now}
use Rattle.tree_api.proofs.Moments.{Step, leaves_more, leaves_stays}
use Rattle.commit_point.specs.Replacing.{Replaces, Filled}
use Rattle.commit_point.proofs.Steps.{replaces_same, replaces_joins}
use Rattle.commit_point.proofs.Making.{same_named}

module _ (p to : Path) (v : Version) (apart : to ≢ p) (d0 d1 : Disk) (s1 : Sound d1) (filled : Filled p v d0 d1) where
  -- what a rename asks
  pub built_file : v.dir ≡ false → IsFile d1.tree p
  built_file file = (filled.n, filled.here, ap (λ (w : Version). w.dir) filled.holds ∙ file)

  pub target_free : v.dir ≡ false → IsFree d0.tree to → (d1.tree.at to ≡ None) ⊎ (IsFile d1.tree p × IsFile d1.tree to)
  target_free file (inl none) = inl (filled.others to apart ∙ none)
  target_free file (inr (m, at, dir)) = inr (built_file file, (m, filled.others to apart ∙ at, ap (λ (w : Version). w.dir) (filled.nodes to m apart at) ∙ dir))

  pub parent_there : (d : Path) (step : List ℕ) → to ≡ d ++ step ∷ [] → d ≢ p → IsDir d0.tree d → HasParent d1.tree to
  parent_there d step is off (m, at, dir) = (d, step, is, (m, filled.others d off ∙ at, ap (λ (w : Version). w.dir) (filled.nodes d m off at) ∙ dir))

  module _ {T : Type 0} (d2 : Disk) (r : Result T TreeError) (change : NameChange (MovedFile p to) d1 d2 r) where
    there : (d c : Tree) → d1.may d → c.at ≡ change.at → c.node ≡ d.node → look c to ≡ Some v
    there d c may names nodes =
        ap (λ (o : Option ℕ). held o c.node) (ap (λ (f : Names). f to) names ∙ change.is.moved ∙ filled.here) ∙ ap Some (ap (λ (f : ℕ → Version). f filled.n) nodes ∙ filled.stable d may)

    moved_pair : (d c : Tree) → d1.may d → c.at ≡ change.at → Named change.at d c → Replaces p to v (record d { at = d1.tree.at }) c
    moved_pair d c may names is = record {
      snaps = is.snaps;
      others = λ q not nor. ap (λ (f : Names). f q) names ∙ change.is.others q not nor;
      nodes = λ q m not nor here. ap (λ (f : ℕ → Version). f m) is.nodes;
      target = inr (there d c may names is.nodes);
      place = λ free. inl (ap (λ (f : Names). f p) names ∙ change.is.gone (λ same. apart (sym same)));
    }

    moved_step : Step (Replaces p to v) d1 d2
    moved_step = record {
      steps = record {
        time = change.step.time;
        image = λ c may.
            let from = change.step.image c may in
            ⊎_elim
            (λ same. (from.0, from.1, same_named p to v apart from.0 c same from.2.snaps from.2.nodes))
            (λ new. (record (from.0) { at = d1.tree.at }, names_now d1 s1 from.0 from.1, moved_pair from.0 c from.1 new from.2)) from.2.names;
      };
      now = ⊎_elim (λ same. same_named p to v apart d1.tree d2.tree same change.partly.snaps change.partly.nodes) (λ new. moved_pair d1.tree d2.tree s1.now new change.partly) change.partly.names;
    }

    module _ (so_far : Leaves (Replaces p to v) d0 d1) where
      pub moved_leaves : Leaves (Replaces p to v) d0 d2
      moved_leaves = leaves_more (Replaces p to v) (replaces_same p to v) (replaces_joins p to v) d0 d1 d2 s1 so_far moved_step

      pub replaced_leaves : {U : Type 0} (d3 : Disk) → Sound d2 → (z : Result U TreeError) → SyncedNames d2 d3 z → Leaves (Replaces p to v) d0 d3
      replaced_leaves d3 s2 z synced = leaves_stays (Replaces p to v) (replaces_same p to v) (replaces_joins p to v) d0 d2 d3 s2 moved_leaves synced.stays

    pub replaced_done : {U : Type 0} (d3 : Disk) (z : Result U TreeError) → SyncedNames d2 d3 z → d2.tree ≡ record (d1.tree) { at = change.at } → OnOk z (Everywhere d3 (λ c. look c to ≡ Some v))
    replaced_done d3 z synced is = on_ok2 z synced.names synced.names (λ names again c may.
        let from = change.step.image c (synced.stays.image c may) in
        there from.0 c from.1 (names c may ∙ ap (λ (t : Tree). t.at) is) from.2.nodes)
