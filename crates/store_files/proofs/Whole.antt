-- All files of a store together.
use Rattle.std.proofs.Common.{[], ◌∷◌, refl, arith}
use Rattle.tree_api.specs.Tree.{current, new_dir, file_of}
use Rattle.commit_point.specs.Number.{aside, number_path, spelled}
use Rattle.store_files.specs.Texts.{version_text, fsid_text, settings_text}
use Rattle.store_files.specs.Stores.{version_path, fsid_path, settings_path, omap, trash}
use Rattle.store_files.specs.Steps.{key_path, dir_items, rest_items}
use Rattle.store_files.specs.Laws.{MadeIsStore}
use Rattle.store_files.proofs.Built.{in_first, in_rest, dir_of_look}

pub made_is_store : MadeIsStore
made_is_store fsid set t is usable all =
    let r0 = in_rest (version_path, file_of (version_text 1)) (rest_items fsid set) t all in
    let i1 = (key_path, file_of []) ∷ (number_path, file_of (spelled 0)) ∷ dir_items in
    let r1 = in_rest (settings_path, file_of (settings_text set)) ((fsid_path, file_of (fsid_text fsid)) ∷ i1) t r0 in
    let r2 = in_rest (fsid_path, file_of (fsid_text fsid)) i1 t r1 in
    let r3 = in_rest (key_path, file_of []) ((number_path, file_of (spelled 0)) ∷ dir_items) t r2 in
    let r4 = in_rest (number_path, file_of (spelled 0)) dir_items t r3 in
    let r5 = in_rest (trash, new_dir) ((aside, new_dir) ∷ (omap, new_dir) ∷ (current, new_dir) ∷ []) t r4 in
    let r6 = in_rest (aside, new_dir) ((omap, new_dir) ∷ (current, new_dir) ∷ []) t r5 in
    let r7 = in_rest (omap, new_dir) ((current, new_dir) ∷ []) t r6 in (
      record {
        version = (omega arith, (file_of (version_text 1), in_first (version_path, file_of (version_text 1)) (rest_items fsid set) t all, refl, refl));
        identity = (is, (file_of (fsid_text fsid), in_first (fsid_path, file_of (fsid_text fsid)) i1 t r1, refl, refl));
        settings = (usable, (file_of (settings_text set), in_first (settings_path, file_of (settings_text set)) ((fsid_path, file_of (fsid_text fsid)) ∷ i1) t r0, refl, refl));
        dirs = record {
          all = dir_of_look t current new_dir (in_first (current, new_dir) [] t r7) refl;
          maps = dir_of_look t omap new_dir (in_first (omap, new_dir) ((current, new_dir) ∷ []) t r6) refl;
          building = dir_of_look t aside new_dir (in_first (aside, new_dir) ((omap, new_dir) ∷ (current, new_dir) ∷ []) t r5) refl;
          removed = dir_of_look t trash new_dir (in_first (trash, new_dir) ((aside, new_dir) ∷ (omap, new_dir) ∷ (current, new_dir) ∷ []) t r4) refl;
        };
      },
      record { file = file_of (spelled 0); stands = in_first (number_path, file_of (spelled 0)) dir_items t r3; kind = refl; bytes = refl; small = omega arith },
    )
