-- Which store a tree is stays where its small files and its directories look as before.
use Rattle.std.proofs.Common.{◌≡◌, ◌≢◌, ℕ, ◌+◌, ◌<◌, List, [], ◌∷◌, length, codes, refl, ◌∙◌, ap, arith}
use Rattle.std.proofs.lemmas.List.{length_push}
use Rattle.fs_names.specs.declared.coll.Coll.{Coll}
use Rattle.fs_names.specs.declared.settings.Settings.{Settings}
use Rattle.tree_api.specs.Tree.{Path, Tree, current, look}
use Rattle.lfn_index.specs.Changes.{aside}
use Rattle.lfn_index.specs.Directory.{entry}
use Rattle.tree_stands.specs.Trees.{dir_of}
use Rattle.commit_point.specs.Number.{number_path, number_file, Renumbers}
use Rattle.store_files.specs.Stores.{version_path, fsid_path, settings_path, omap, trash, HasText, IsStore}
use Rattle.op_effects.specs.Ready.{OffStays}
use Rattle.tree_places.proofs.Own.{dir_stays, off_two, look_off, two_off, last_off}

-- the files and directories by which a tree is known as a store
pub record LooksAlike (e f : Tree) : Type 0 where
  pub version : look f version_path ≡ look e version_path
  pub identity : look f fsid_path ≡ look e fsid_path
  pub settings : look f settings_path ≡ look e settings_path
  pub all : look f current ≡ look e current
  pub maps : look f omap ≡ look e omap
  pub building : look f aside ≡ look e aside
  pub removed : look f trash ≡ look e trash

text_stays : (e f : Tree) (p : Path) (text : List ℕ) → look f p ≡ look e p → HasText e p text → HasText f p text
text_stays e f p text same is = (is.0, same ∙ is.1, is.2, is.3)

pub store_stays : (e f : Tree) (fsid : List ℕ) (set : Settings) → LooksAlike e f → IsStore e fsid set → IsStore f fsid set
store_stays e f fsid set same is = record {
  version = (is.version.0, text_stays e f version_path _ same.version is.version.1);
  identity = (is.identity.0, text_stays e f fsid_path _ same.identity is.identity.1);
  settings = (is.settings.0, text_stays e f settings_path _ same.settings is.settings.1);
  dirs = record {
    all = dir_stays e f current same.all is.dirs.all;
    maps = dir_stays e f omap same.maps is.dirs.maps;
    building = dir_stays e f aside same.building is.dirs.building;
    removed = dir_stays e f trash same.removed is.dirs.removed;
  };
}

-- a path of one step is none of three
one_not_three : (a : List ℕ) (p : Path) (step : List ℕ) → length p ≡ 2 → a ∷ [] ≢ entry p step
one_not_three a p step two same =
    let long : length (entry p step) ≡ length p + 1 = length_push p step in
    let e : 1 ≡ length (entry p step) = ap length same in
    absurd (omega (arith, long, two, e))

one_not_two : (a : List ℕ) → a ∷ [] ≢ number_path
one_not_two a same = let e : 1 ≡ 2 = ap length same in absurd (omega (arith, e))

-- an operation changes one collection's directory, and what is being built
pub off_alike : (c : Coll) (e f : Tree) → OffStays (dir_of c) e f → LooksAlike e f
off_alike c e f goes = record {
  version = goes version_path (off_one (codes "store_version"));
  identity = goes fsid_path (off_one (codes "fsid"));
  settings = goes settings_path (off_one (codes "settings"));
  all = goes current (off_one (codes "current"));
  maps = goes omap (off_two c (codes "omap"));
  building = goes aside (off_two c (codes "aside"));
  removed = goes trash (off_two c (codes "trash"));
}
  where
    off_one : (a : List ℕ) → ((s : List ℕ) → a ∷ [] ≢ entry (dir_of c) s) × ((s : List ℕ) → a ∷ [] ≢ entry aside s)
    off_one a = (λ s. one_not_three a (dir_of c) s refl, λ s. one_not_three a aside s refl)

-- the committed number is written
pub renumbered_alike : (seq : ℕ) (e f : Tree) → Renumbers seq e f → LooksAlike e f
renumbered_alike seq e f goes = record {
  version = off_one (codes "store_version");
  identity = off_one (codes "fsid");
  settings = off_one (codes "settings");
  all = off_one (codes "current");
  maps = two (codes "omap") (omega arith);
  building = two (codes "aside") (omega arith);
  removed = two (codes "trash") (omega arith);
}
  where
    off_one : (a : List ℕ) → look f (a ∷ []) ≡ look e (a ∷ [])
    off_one a = look_off (number_file seq) e f goes (a ∷ []) (one_not_three a aside (codes "seq") refl) (one_not_two a)

    two : (b : List ℕ) → length b < 13 → look f (codes "current" ∷ b ∷ []) ≡ look e (codes "current" ∷ b ∷ [])
    two b short = look_off (number_file seq) e f goes (codes "current" ∷ b ∷ []) (two_off (number_file seq) e f goes b) (last_off (number_file seq) e f goes b short)
