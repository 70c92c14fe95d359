-- What is left where a store is made only in part.
use Rattle.std.proofs.Common.{◌≡◌, ⊎_elim, ℕ, List, [], ◌∷◌, refl, sym, ◌∙◌, ap, arith, Option, Some, None}
use Rattle.fs_names.specs.declared.settings.Settings.{Settings}
use Rattle.tree_api.specs.Tree.{Tree, current, file_of, held, new_dir}
use Rattle.tree_api.specs.Disk.{Disk, Sound, Everywhere, Keeps, Leaves, Stays}
use Rattle.tree_api.proofs.Moments.{now_from}
use Rattle.dev_api.specs.Disk.{Disk as Bytes}
use Rattle.commit_point.specs.Number.{aside, number_path, spelled, HasNumber}
use Rattle.store_files.specs.Texts.{fsid_text, settings_text, IsFsid}
use Rattle.store_files.specs.Stores.{HasVersion, IsStore, IsUsable, fsid_path, omap, settings_path, trash, version_path}
use Rattle.store_files.specs.Steps.{AllIn, Among, IsBare, dir_items, key_path, rest_items, store_paths}
use Rattle.store_files.proofs.Built.{in_first, in_rest, dir_of_look}
use Rattle.store_making.specs.Making.{Unmade, VersionLast}
use Rattle.store_making.proofs.Made.{closed}
use Rattle.store_making.proofs.Orders.{came, no_version}

none_or : {A : Type 0} (x : A) → None ≡ Some x → ⊥
none_or x e = cc

-- what is not there has no version
unversioned : (fsid : List ℕ) (set : Settings) (size : ℕ) (d : Bytes) (t : Tree) → t.at version_path ≡ None → Unmade fsid set size t d
unversioned fsid set size d t none = λ version. absurd (none_or version.1.0 (sym (ap (λ (o : Option ℕ). held o t.node) none) ∙ version.1.1))

-- all but the version, and the version
whole : (fsid : List ℕ) (set : Settings) (t : Tree) → IsFsid fsid → IsUsable set → AllIn (rest_items fsid set) t → HasVersion t 1 → IsStore t fsid set × HasNumber t 0
whole fsid set t is usable r0 version =
    let i1 = (key_path, file_of []) ∷ (number_path, file_of (spelled 0)) ∷ dir_items in
    let r1 = in_rest (settings_path, file_of (settings_text set)) ((fsid_path, file_of (fsid_text fsid)) ∷ i1) t r0 in
    let r2 = in_rest (fsid_path, file_of (fsid_text fsid)) i1 t r1 in
    let r3 = in_rest (key_path, file_of []) ((number_path, file_of (spelled 0)) ∷ dir_items) t r2 in
    let r4 = in_rest (number_path, file_of (spelled 0)) dir_items t r3 in
    let r5 = in_rest (trash, new_dir) ((aside, new_dir) ∷ (omap, new_dir) ∷ (current, new_dir) ∷ []) t r4 in
    let r6 = in_rest (aside, new_dir) ((omap, new_dir) ∷ (current, new_dir) ∷ []) t r5 in
    let r7 = in_rest (omap, new_dir) ((current, new_dir) ∷ []) t r6 in (
      record {
        version = version;
        identity = (is, (file_of (fsid_text fsid), in_first (fsid_path, file_of (fsid_text fsid)) i1 t r1, refl, refl));
        settings = (usable, (file_of (settings_text set), in_first (settings_path, file_of (settings_text set)) ((fsid_path, file_of (fsid_text fsid)) ∷ i1) t r0, refl, refl));
        dirs = record {
          all = dir_of_look t current new_dir (in_first (current, new_dir) [] t r7) refl;
          maps = dir_of_look t omap new_dir (in_first (omap, new_dir) ((current, new_dir) ∷ []) t r6) refl;
          building = dir_of_look t aside new_dir (in_first (aside, new_dir) ((omap, new_dir) ∷ (current, new_dir) ∷ []) t r5) refl;
          removed = dir_of_look t trash new_dir (in_first (trash, new_dir) ((aside, new_dir) ∷ (omap, new_dir) ∷ (current, new_dir) ∷ []) t r4) refl;
        };
      },
      record { file = file_of (spelled 0); stands = in_first (number_path, file_of (spelled 0)) dir_items t r3; kind = refl; bytes = refl; small = omega arith },
    )

module _ (fsid : List ℕ) (set : Settings) (old : Disk) (bare : Everywhere old IsBare) where
  -- nothing was made in the tree
  pub unmade_early : (size : ℕ) (now : Disk) (d : Bytes) → Stays old now → Everywhere now (λ t. Unmade fsid set size t d)
  unmade_early size now d stays t may = unversioned fsid set size d t (no_version t (bare t (stays.image t may)))

module _ (fsid : List ℕ) (set : Settings) (is : IsFsid fsid) (usable : IsUsable set) (size : ℕ) (d : Bytes) where
  -- the ring was made, and some of the files
  pub unmade_late : (first mid now : Disk) → Sound now → Everywhere mid IsBare → Leaves (Among store_paths) mid now → Keeps (VersionLast fsid set size d) first now
      → Everywhere now (λ t. Unmade fsid set size t d)
  unmade_late first mid now sound bare leaves order t may =
      ⊎_elim (λ none. unversioned fsid set size d t none)
      (λ (all, made) version.
      let both = whole fsid set t is usable all version in
      let from = came mid now sound leaves bare t may in
      (λ b img so. closed set fsid from.0 t from.1 from.2 both.0 both.1 size b (made b img so), made))
      (now_from (VersionLast fsid set size d) first now sound order t may)
