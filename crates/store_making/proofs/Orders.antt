-- The order in which a store is made.
use Rattle.std.proofs.Common.{◌≡◌, ⊎_elim, inl, inr, ℕ, List, [], codes, None}
use Rattle.fs_names.specs.declared.settings.Settings.{Settings}
use Rattle.tree_api.specs.Tree.{Tree}
use Rattle.tree_api.specs.Disk.{Disk, Sound, Everywhere, Keeps, Stays, Leaves, From}
use Rattle.tree_api.proofs.Moments.{started, goes_on, joined, weaker, now_from}
use Rattle.dev_api.specs.Disk.{Disk as Bytes}
use Rattle.store_files.specs.Stores.{version_path, IsStore, IsUsable}
use Rattle.store_files.specs.Steps.{AllIn, Among, IsBare, Unfinished, store_items, store_paths}
use Rattle.store_files.specs.Texts.{IsFsid}
use Rattle.store_files.proofs.Whole.{made_is_store}
use Rattle.commit_point.specs.Number.{HasNumber}
use Rattle.store_making.specs.Making.{IsMade, VersionLast}
use Rattle.store_making.proofs.Off.{not_root}

pub no_version : (t : Tree) → IsBare t → t.at version_path ≡ None
no_version t bare = bare.1 version_path (not_root (codes "store_version") [])

module _ (P : Tree → Type 0) (early : (t : Tree) → t.at version_path ≡ None → P t) (old : Disk) (sound : Sound old) (bare : Everywhere old IsBare) where
  -- while nothing was made
  pub before : (now : Disk) → Stays old now → Keeps P old now
  before now stays = goes_on P old old now (started P old sound here) stays.time (λ t may. here t (stays.image t may))
    where
      here : Everywhere old P
      here t may = early t (no_version t (bare t may))

  pub then_made : (mid now : Disk) → Stays old mid → Keeps P mid now → Keeps P old now
  then_made mid now stays keeps = joined P old mid now (before mid stays) keeps

pub each_early : (fsid : List ℕ) (set : Settings) (t : Tree) → t.at version_path ≡ None → Unfinished fsid set t
each_early fsid set t none = inl none

pub order_early : (fsid : List ℕ) (set : Settings) (size : ℕ) (d : Bytes) (t : Tree) → t.at version_path ≡ None → VersionLast fsid set size d t
order_early fsid set size d t none = inl none

-- the ring is there while the files are made
pub order_late : (fsid : List ℕ) (set : Settings) (size : ℕ) (d : Bytes) (mid now : Disk) → IsMade fsid size d → Keeps (Unfinished fsid set) mid now → Keeps (VersionLast fsid set size d) mid now
order_late fsid set size d mid now made keeps =
    weaker (Unfinished fsid set) (VersionLast fsid set size d) mid now keeps (λ t is. ⊎_elim (λ none. inl none) (λ all. inr (all, made)) is)

-- bare trees stay bare where no image comes
pub bare_still : (old now : Disk) → Stays old now → Everywhere old IsBare → Everywhere now IsBare
bare_still old now stays bare = λ t may. bare t (stays.image t may)

pub is_store : (fsid : List ℕ) (set : Settings) (t : Tree) → IsFsid fsid → IsUsable set → AllIn (store_items fsid set) t → IsStore t fsid set × HasNumber t 0
is_store fsid set t is usable all = made_is_store fsid set t is usable all

-- each image came of a bare one
pub came : (mid now : Disk) → Sound now → Leaves (Among store_paths) mid now → Everywhere mid IsBare → (t : Tree) → now.may t → (e : Tree) × IsBare e × Among store_paths e t
came mid now sound leaves bare t may =
    let from = now_from (From mid (Among store_paths)) mid now sound leaves.any_moment t may in
    (from.0, bare from.0 from.1, from.2)
