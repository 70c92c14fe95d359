-- Whichever store each image was it is at any moment of an operation.
use Rattle.std.proofs.Common.{◌≡◌, ◌⊎◌, ⊎_elim, ℕ, List, [], ◌∷◌, codes}
use Rattle.fs_names.specs.declared.coll.Coll.{Coll}
use Rattle.fs_names.specs.declared.settings.Pos.{Pos}
use Rattle.fs_names.specs.Reading.{CollFits}
use Rattle.fs_names.specs.Text.{coll_text}
use Rattle.tree_api.specs.Tree.{Path, Tree, current}
use Rattle.tree_api.specs.Disk.{Disk, Sound, Stays, From, Leaves}
use Rattle.tree_api.proofs.Moments.{started, goes_on, joined, weaker, now_from}
use Rattle.lfn_index.specs.Changes.{aside, place_name}
use Rattle.tree_stands.specs.Trees.{dir_of}
use Rattle.store_files.specs.Stores.{version_path, fsid_path, settings_path, omap, trash, IsStore}
use Rattle.op_effects.specs.Ready.{OffStays}
use Rattle.coll_ops.specs.Places.{trash_at, Within}
use Rattle.coll_ops.specs.Changes.{Elsewhere}
use Rattle.coll_ops.proofs.Paths.{own_omap, own_trash, off_aside, aside_trash}
use Rattle.tree_places.proofs.Stores.{LooksAlike, store_stays, off_alike}
use Rattle.apply_ops.specs.Next.{StaysStore}
use Rattle.apply_ops.proofs.Sites.{under, shorter, never_within}

-- calls that change nothing
pub same_store : (old new : Disk) → Sound old → Stays old new → StaysStore old new
same_store old new sound stays fsid set all =
    goes_on (λ t. IsStore t fsid set) old old new (started (λ t. IsStore t fsid set) old sound all) stays.time (λ c may. all c (stays.image c may))

pub none_done : (d : Disk) → Sound d → StaysStore d d
none_done d sound fsid set all = started (λ t. IsStore t fsid set) d sound all

-- an inner run
pub then_stays : (old mid new : Disk) → Sound mid → StaysStore old mid → StaysStore mid new → StaysStore old new
then_stays old mid new sound first run fsid set all =
    let so_far = first fsid set all in
    joined (λ t. IsStore t fsid set) old mid new so_far (run fsid set (now_from (λ t. IsStore t fsid set) old mid sound so_far))

-- what looks alike is the same store
stays_by : (R : Tree → Tree → Type 0) → ((e f : Tree) → R e f → LooksAlike e f) → (old new : Disk) → Leaves R old new → StaysStore old new
stays_by R alike old new leaves fsid set all = weaker (From old R) (λ t. IsStore t fsid set) old new leaves.any_moment
    (λ f from. store_stays from.0 f fsid set (alike from.0 f from.2) (all from.0 from.1))

-- an operation on one object, behind a look at its collection
pub edited_store : (c : Coll) (old mid new : Disk) → Sound old → Sound mid → Stays old mid → Leaves (OffStays (dir_of c)) mid new → StaysStore old new
edited_store c old mid new sound sound_mid stays off =
    then_stays old mid new sound_mid (same_store old mid sound stays) (stays_by (OffStays (dir_of c)) (off_alike c) mid new off)

-- nothing is below a path of one step
one_step : (a x : List ℕ) (rest : Path) → a ∷ [] ≡ under x rest → ⊥
one_step a x rest same = cc

module _ (c : Coll) (fits : CollFits c) where
  made_alike : (e f : Tree) → Elsewhere (Within (dir_of c)) e f → LooksAlike e f
  made_alike e f goes = record {
    version = goes version_path (off_one (codes "store_version"));
    identity = goes fsid_path (off_one (codes "fsid"));
    settings = goes settings_path (off_one (codes "settings"));
    all = goes current (off_one (codes "current"));
    maps = goes omap (never_within c fits (codes "omap") own_omap);
    building = goes aside (off_aside c fits);
    removed = goes trash (never_within c fits (codes "trash") own_trash);
  }
    where
      off_one : (a : List ℕ) → Within (dir_of c) (a ∷ []) → ⊥
      off_one a is = one_step a (coll_text c) is.0 is.1

  abbrev Dropped : Pos → Path → Type 0
  Dropped pos q = Within (dir_of c) q ⊎ Within (trash_at pos) q

  dropped_alike : (pos : Pos) (e f : Tree) → Elsewhere (Dropped pos) e f → LooksAlike e f
  dropped_alike pos e f goes = record {
    version = goes version_path (off_one (codes "store_version"));
    identity = goes fsid_path (off_one (codes "fsid"));
    settings = goes settings_path (off_one (codes "settings"));
    all = goes current (off_one (codes "current"));
    maps = goes omap (⊎_elim (never_within c fits (codes "omap") own_omap) (off_place (codes "omap")));
    building = goes aside (⊎_elim (off_aside c fits) (aside_trash pos));
    removed = goes trash (⊎_elim (never_within c fits (codes "trash") own_trash) (off_place (codes "trash")));
  }
    where
      off_one : (a : List ℕ) → Dropped pos (a ∷ []) → ⊥
      off_one a = ⊎_elim (λ is. one_step a (coll_text c) is.0 is.1) (λ is. one_step a (codes "trash") (place_name pos ∷ is.0) is.1)

      off_place : (b : List ℕ) → Within (trash_at pos) (under b []) → ⊥
      off_place b is = shorter b (codes "trash") (place_name pos) is.0 is.1

  pub made_store : (old new : Disk) → Leaves (Elsewhere (Within (dir_of c))) old new → StaysStore old new
  made_store old new off = stays_by (Elsewhere (Within (dir_of c))) made_alike old new off

  pub dropped_store : (pos : Pos) (old new : Disk) → Leaves (Elsewhere (λ q. Within (dir_of c) q ⊎ Within (trash_at pos) q)) old new → StaysStore old new
  dropped_store pos old new off = stays_by (Elsewhere (Dropped pos)) (dropped_alike pos) old new off
