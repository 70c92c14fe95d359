-- Files that were being built are gone.
use Rattle.std.proofs.Common.{◌≡◌, ℕ, List}
use Rattle.fs_names.specs.declared.coll.Coll.TheVariants.{Meta}
use Rattle.fs_names.specs.declared.settings.Settings.{Settings}
use Rattle.tree_api.specs.Tree.{Path, Tree}
use Rattle.tree_api.specs.Disk.{Disk, Sound, Everywhere, Keeps, From, Leaves}
use Rattle.tree_api.proofs.Moments.{wider, weaker}
use Rattle.lfn_index.specs.Changes.{aside}
use Rattle.lfn_index.specs.Directory.{entry}
use Rattle.tree_stands.specs.Trees.{dir_of}
use Rattle.store_files.specs.declared.reading.Identity.{Identity}
use Rattle.store_files.specs.Stores.{IsStore}
use Rattle.op_effects.specs.Clear.{KeepsFree}
use Rattle.op_effects.specs.Ready.{Ready, OffStays}
use Rattle.coll_ops.specs.Changes.{AllStay, Elsewhere}
use Rattle.op_places.proofs.Makes.{past_stays}
use Rattle.store_history.specs.History.{History, end_of}
use Rattle.store_turns.specs.declared.numbers.How.{How}
use Rattle.store_turns.specs.declared.numbers.How.TheVariants.{Live, Replay}
use Rattle.tree_places.specs.Line.{ops_to, count_to, At}
use Rattle.tree_places.specs.Images.{Image, StoreImage, reads}
use Rattle.tree_places.proofs.Own.{own_law}
use Rattle.tree_places.proofs.Stores.{store_stays, off_alike}
use Rattle.tree_places.proofs.Underway.{own_keeps_off, image_keeps}
use Rattle.apply_ops.specs.Next.{IsReady}
use Rattle.file_side.proofs.Joined.{past_of, stores_of, images_join}

abbrev IsAside : Path → Type 0
IsAside q = (s : List ℕ) × (q ≡ entry aside s)

off_aside : (e f : Tree) → Elsewhere IsAside e f → OffStays (dir_of Meta) e f
off_aside e f goes q off = goes q (λ is. off.1 is.0 is.1)

at_on : (set : Settings) (h : History) (k hi : ℕ) (e f : Tree) → AllStay set e f → At set h k hi e → At set h k hi f
at_on set h k hi e f stays is = record { plain = is.plain; past = past_stays set h.origin (ops_to h hi) k e f stays is.past }

module _ (id : Identity) (old new : Disk) (leaves : Leaves (AllStay id.settings) old new) (off : Leaves (Elsewhere IsAside) old new) (free : Leaves KeepsFree old new) where
  pub tidied_ready : IsReady id.settings old → Ready id.settings new → IsReady id.settings new
  tidied_ready is ready = record { ready = ready; own = own_law.keeps old.tree new.tree (own_law.off Meta old.tree new.tree (off_aside old.tree new.tree off.now) free.now) is.own }

  past_keeps : Sound old → (h : History) (n lo hi : ℕ) → Everywhere old (Image id.settings h n lo hi) → Keeps (Image id.settings h n lo hi) old new
  past_keeps s0 h n lo hi images =
      let is = images old.tree s0.now in
      image_keeps id.settings h n lo hi old new images is.base is.fit
      (weaker (From old (AllStay id.settings)) (At id.settings h (count_to h lo) hi) old new leaves.any_moment (λ f from. at_on id.settings h (count_to h lo) hi from.0 f from.2 (images from.0 from.1).past))
      (own_keeps_off id.settings h n lo hi old new images Meta (wider (Elsewhere IsAside) (OffStays (dir_of Meta)) off_aside old new off.any_moment) free.any_moment)

  stores_keep : Everywhere old (λ t. IsStore t id.fsid id.settings) → Keeps (λ t. IsStore t id.fsid id.settings) old new
  stores_keep stores = weaker (From old (Elsewhere IsAside)) (λ t. IsStore t id.fsid id.settings) old new off.any_moment
      (λ f from. store_stays from.0 f id.fsid id.settings (off_alike Meta from.0 f (off_aside from.0 f from.2)) (stores from.0 from.1))

  pub tidied_keeps : Sound old → (h : History) (n lo hi : ℕ) → Everywhere old (StoreImage id h n lo hi) → Keeps (StoreImage id h n lo hi) old new
  tidied_keeps s0 h n lo hi images =
      images_join id h n lo hi old new (past_keeps s0 h n lo hi (past_of id h n lo hi old images)) (stores_keep (stores_of id h n lo hi old images))

  pub tidied_reads : (how : How) (h : History) (m : ℕ) → reads id.settings how h m old.tree → reads id.settings how h m new.tree
  tidied_reads Live h m is = at_on id.settings h (count_to h m) m old.tree new.tree leaves.now is
  tidied_reads Replay h m is = at_on id.settings h (count_to h m) (end_of h) old.tree new.tree leaves.now is
