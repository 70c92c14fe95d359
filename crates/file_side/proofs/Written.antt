-- Behind a whole sync, and behind a committed number that is written, operations may be done.
use Rattle.std.proofs.Common.{◌≡◌, ◌⊎◌, inl, inr, ⊎_elim, ℕ, ◌<◌, ◌^◌, List, refl, sym, ◌∙◌, ap, subst, Some, Result, Ok, Err, OnOk}
use Rattle.std.specs.Prelude.{IsOk}
use Rattle.fs_names.specs.declared.coll.Coll.{Coll}
use Rattle.fs_names.specs.declared.settings.Settings.{Settings}
use Rattle.fs_names.specs.Reading.{CollFits}
use Rattle.tree_api.specs.Tree.{Version, Tree, look}
use Rattle.tree_api.specs.Disk.{Disk, Sound, Stays, SyncedAll, Everywhere, Keeps, From, Leaves}
use Rattle.tree_api.proofs.Moments.{now_from, weaker}
use Rattle.lfn_index.specs.Directory.{lfn_name, entry}
use Rattle.replay_guard.specs.Guards.{guard_name}
use Rattle.tree_stands.specs.Trees.{dir_of, AllWhole}
use Rattle.commit_point.specs.Number.{number_path, number_file, Renumbers}
use Rattle.store_files.specs.declared.reading.Identity.{Identity}
use Rattle.store_history.specs.History.{History, end_of}
use Rattle.store_turns.specs.declared.numbers.How.{How}
use Rattle.store_turns.specs.declared.numbers.How.TheVariants.{Live, Replay}
use Rattle.tree_places.specs.Line.{count_to}
use Rattle.tree_places.specs.Images.{IsOwn, StoreImage, reads}
use Rattle.tree_places.proofs.Own.{own_law, at_same, nodes_same}
use Rattle.tree_places.proofs.Stores.{store_stays, renumbered_alike}
use Rattle.tree_places.proofs.Ready.{ready as ready_alone}
use Rattle.apply_ops.specs.Next.{IsReady}

-- where what reads is the only image
pub synced_ready : (set : Settings) (old new : Disk) → Sound old → Sound new → Stays old new → Everywhere new (λ c. c ≡ old.tree) → IsReady set old → IsReady set new
synced_ready set old new s0 s1 stays only is =
    let own = subst IsOwn (sym stays.tree) is.own in
    let whole = subst (AllWhole set) (sym stays.tree) (is.ready.whole old.tree s0.now) in
    record { ready = ready_alone set new s1 (λ c may. only c may ∙ sym stays.tree) (record { own = own; whole = whole }); own = own }

pub all_synced : {T E : Type 0} (r : Result T E) (set : Settings) (old new : Disk) → Sound old → Sound new → SyncedAll old new (IsOk r) → IsReady set old → OnOk r (IsReady set new)
all_synced (Ok v) set old new s0 s1 synced is = synced_ready set old new s0 s1 synced.stays (synced.all refl) is
all_synced (Err e) set old new s0 s1 synced is = tt

-- a number is written
module _ (id : Identity) (seq : ℕ) (old new : Disk) (s1 : Sound new) (leaves : Leaves (Renumbers seq) old new) where
  -- what was an image is one with its number or with this
  image_on : seq < 2 ^ 63 → (h : History) (n lo hi : ℕ) (e f : Tree) → Renumbers seq e f → StoreImage id h n lo hi e → StoreImage id h n lo hi f ⊎ StoreImage id h seq lo hi f
  image_on small h n lo hi e f goes is =
      let store = store_stays e f id.fsid id.settings (renumbered_alike seq e f goes) is.store in
      ⊎_elim
      (λ image. inl (record { store = store; image = image }))
      (λ image. inr (record { store = store; image = image }))
      (own_law.numbered id.settings h n lo hi seq e f small goes is.image)

  pub numbered : seq < 2 ^ 63 → (h : History) (n lo hi : ℕ) → Everywhere old (StoreImage id h n lo hi) → Keeps (λ t. StoreImage id h n lo hi t ⊎ StoreImage id h seq lo hi t) old new
  numbered small h n lo hi images = weaker (From old (Renumbers seq)) (λ t. StoreImage id h n lo hi t ⊎ StoreImage id h seq lo hi t) old new leaves.any_moment
      (λ f from. image_on small h n lo hi from.0 f from.2 (images from.0 from.1))

  -- and with this once it is done
  pub then_numbered : seq < 2 ^ 63 → (h : History) (n lo hi : ℕ) → Everywhere old (StoreImage id h n lo hi) → Everywhere new (λ c. look c number_path ≡ Some (number_file seq))
      → Everywhere new (StoreImage id h seq lo hi)
  then_numbered small h n lo hi images done c may = ⊎_elim
      (λ is. record { store = is.store; image = own_law.then_number id.settings h n lo hi seq c small (done c may) is.image })
      (λ is. is)
      (now_from (λ t. StoreImage id h n lo hi t ⊎ StoreImage id h seq lo hi t) old new s1 (numbered small h n lo hi images) c may)

  pub reads_on : (how : How) (h : History) (m : ℕ) → reads id.settings how h m old.tree → reads id.settings how h m new.tree
  reads_on Live h m is = own_law.at id.settings h (count_to h m) m seq old.tree new.tree leaves.now is
  reads_on Replay h m is = own_law.at id.settings h (count_to h m) (end_of h) seq old.tree new.tree leaves.now is

  module _ (settled : Everywhere old (λ c. c ≡ old.tree)) (is : IsReady id.settings old) where
    goes : (c : Tree) → new.may c → Renumbers seq old.tree c
    goes c may =
        let from = now_from (From old (Renumbers seq)) old new s1 leaves.any_moment c may in
        subst (λ (e : Tree). Renumbers seq e c) (settled from.0 from.1) from.2

    -- what stands in a collection stands there still
    module _ (coll : Coll) (fits : CollFits coll) (c : Tree) (may : new.may c) (step : List ℕ) where
      at_old : (e : Tree) → new.may e → e.at (entry (dir_of coll) step) ≡ old.tree.at (entry (dir_of coll) step)
      at_old e left = at_same (number_file seq) old.tree e (goes e left) id.settings coll fits step

      at_here : (n : ℕ) → new.tree.at (entry (dir_of coll) step) ≡ Some n → c.at (entry (dir_of coll) step) ≡ Some n
      at_here n here = at_old c may ∙ sym (at_old new.tree s1.now) ∙ here

      node_here : (n : ℕ) → new.tree.at (entry (dir_of coll) step) ≡ Some n → c.node n ≡ new.tree.node n
      node_here n here =
          let was = sym (at_old new.tree s1.now) ∙ here in
          nodes_same (number_file seq) old.tree c (goes c may) id.settings coll fits step n was
          ∙ sym (nodes_same (number_file seq) old.tree new.tree leaves.now id.settings coll fits step n was)

    pub written_ready : Sound old → IsReady id.settings new
    written_ready s0 = record {
      ready = record {
        dir = own.building;
        places = own.places;
        whole = λ c may coll fits.
            let was = is.ready.whole old.tree s0.now coll fits in
            let now = (own_law.colls id.settings seq old.tree c (goes c may) coll fits).objects was.0 was.1 in
            (now.0, now.1);
        colls = λ c may coll fits there.
            (own_law.colls id.settings seq old.tree c (goes c may) coll fits).dir ∙ sym (own_law.colls id.settings seq old.tree new.tree leaves.now coll fits).dir;
        level = λ coll fits. record {
          alone = λ c step q n may here there. inl (s1.single c q (entry (dir_of coll) step) n may there (at_here coll fits c may step n here));
          called = λ c step n may here. ap (λ (v : Version). v.attr lfn_name) (node_here coll fits c may step n here);
        };
        guards = λ coll fits c step n may here. ap (λ (v : Version). v.attr guard_name) (node_here coll fits c may step n here);
      };
      own = own;
    }
      where
        own : IsOwn new.tree
        own = own_law.renumbered seq old.tree new.tree leaves.now is.own
