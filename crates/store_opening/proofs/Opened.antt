-- What was mounted, as a store.
use Rattle.std.proofs.Common.{◌≡◌, ⊎_elim, inl, inr, ℕ, List, [], refl, sym, ◌∙◌, ap, subst, arith}
use Rattle.fs_model.specs.Objects.{Objects}
use Rattle.fs_model.specs.Colls.{CollSet, colls_of}
use Rattle.tree_api.specs.Tree.{Tree}
use Rattle.tree_api.specs.Disk.{Disk as Files, Sound, Stays, Keeps}
use Rattle.tree_api.proofs.Moments.{started, goes_on, joined, weaker, now_from}
use Rattle.dev_api.specs.Disk.{Disk, IsImage}
use Rattle.dev_api.specs.DeviceState.{DeviceState}
use Rattle.dev_api.specs.Run.{KeepsSince}
use Rattle.ring_images.specs.Held.{ReadsSound}
use Rattle.ring_journal.specs.State.{IsSettled, IsUnspentImage}
use Rattle.store_history.specs.Journal.{EachImage}
use Rattle.store_history.specs.History.{at}
use Rattle.store_history.specs.Images.{Images}
use Rattle.store_history.specs.Pair.{StandsAt}
use Rattle.store_files.specs.declared.reading.Identity.{Identity}
use Rattle.store_turns.specs.declared.numbers.Numbers.{Numbers}
use Rattle.store_mount.specs.declared.mounting.Mounted.{Mounted}
use Rattle.store_mount.specs.Mounts.{AllStand, PairsCarry, MountedAs, StandsNow, WasOrServes, WasOrStands}
use Rattle.store_mount.proofs.Carried.{all_moments}
use Rattle.store_queue.specs.Waiting.{Waiting, none_waiting}
use Rattle.tree_places.specs.Images.{StoreImage, reads}
use Rattle.tree_shows.specs.Shows.{Shows}
use Rattle.history_tails.proofs.Tails.{tail_begun}
use Rattle.history_tails.proofs.Waits.{waits_begun}
use Rattle.file_store.specs.Store.{working}
use Rattle.file_store.proofs.Shown.{shown_at}
use Rattle.file_store.proofs.Stilled.{holding_stays}
use Rattle.store_opening.specs.Mounts.{MountsAs}

numbers_are : (m : Numbers) (n last : ℕ) → m.committed ≡ n → m.journalled ≡ last → m ≡ record { journalled = last; committed = n }
numbers_are m n last one two =
    ap (λ (k : ℕ). let x : Numbers = record { journalled = k; committed = m.committed } in x) two
    ∙ ap (λ (k : ℕ). let x : Numbers = record { journalled = last; committed = k } in x) one

module _ (id : Identity) (o : Objects) (n last : ℕ) (m : Mounted) (mid : Files) (d : Disk) (is : MountedAs (StoreImage id) (reads id.settings) id.fsid o n last m mid d) where
  -- the tree shows the objects, so the collections are theirs
  pub shows_mounted : Shows id.settings o mid.tree
  shows_mounted =
      subst (λ (O : Objects). Shows id.settings O mid.tree) (ap (at is.history) is.journalled ∙ is.objects)
      (shown_at id.settings is.history m.numbers.journalled mid.tree is.holding.reads)

  pub mounts_as : (new : Files) → Stays mid new → (colls : CollSet) → colls ≡ colls_of o → (size : ℕ) (queue : Waiting)
      → queue ≡ none_waiting colls m.numbers.journalled size → MountsAs o n last (working id m.numbers m.ring queue) new d
  mounts_as new stays colls same size queue made =
      subst (λ (q : Waiting). MountsAs o n last (working id m.numbers m.ring q) new d) (sym (made ∙ ap (λ (S : CollSet). none_waiting S m.numbers.journalled size) same)) (record {
        numbers = numbers_are m.numbers n last is.committed is.journalled;
        none = refl;
        holds = record {
          works = refl;
          long = is.history;
          tail = tail_begun is.history last o is.end is.objects;
          end = omega (arith, is.journalled);
          on = holding_stays mid new stays id id.fsid is.history m.numbers m.ring d is.holding;
          waits = waits_begun last o;
        };
      })

module _ (image : Images Tree) (fsid : List ℕ) where
  -- a reading before or behind
  pub carry_then : (may : Tree → Type 0) (d : Disk) (mid new : Files) (e : Disk) → Stays mid new → PairsCarry image fsid may d mid.may e → PairsCarry image fsid may d new.may e
  carry_then may d mid new e stays carry = λ t is. carry t (stays.image t is)

  pub then_carry : (old mid : Files) (d : Disk) (now : Tree → Type 0) (e : Disk) → Stays old mid → PairsCarry image fsid mid.may d now e → PairsCarry image fsid old.may d now e
  then_carry old mid d now e stays carry = λ t is c img so fresh.
      let one = carry t is c img so fresh in
      record {
        tree = one.tree;
        bytes = one.bytes;
        may_be = stays.image one.tree one.may_be;
        is_image = one.is_image;
        sound = one.sound;
        unspent = one.unspent;
        same = one.same;
      }

  pub carry_same : (old new : Files) (d : Disk) → Stays old new → PairsCarry image fsid old.may d new.may d
  carry_same old new d stays = λ t is c img so fresh.
      record { tree = t; bytes = c; may_be = stays.image t is; is_image = img; sound = so; unspent = fresh; same = λ o n last s. s }

  module _ (bytes : List ℕ) (o : Objects) (n last : ℕ) where
    pub trees_then : (old mid new : Files) → Sound mid → Stays mid new → Keeps (WasOrStands image fsid old.may bytes o n last) old mid
        → Keeps (WasOrStands image fsid old.may bytes o n last) old new
    trees_then old mid new sound stays keeps =
        goes_on (WasOrStands image fsid old.may bytes o n last) old mid new keeps stays.time
        (λ t may. now_from (WasOrStands image fsid old.may bytes o n last) old mid sound keeps t (stays.image t may))

    pub then_trees : (old mid new : Files) → Sound old → Stays old mid → Keeps (WasOrStands image fsid mid.may bytes o n last) mid new
        → Keeps (WasOrStands image fsid old.may bytes o n last) old new
    then_trees old mid new sound stays keeps =
        let was : (t : Tree) → old.may t → WasOrStands image fsid old.may bytes o n last t = λ t may. inl may in
        joined (WasOrStands image fsid old.may bytes o n last) old mid new
        (goes_on (WasOrStands image fsid old.may bytes o n last) old old mid (started (WasOrStands image fsid old.may bytes o n last) old sound was) stays.time (λ t may. was t (stays.image t may)))
        (weaker (WasOrStands image fsid mid.may bytes o n last) (WasOrStands image fsid old.may bytes o n last) mid new keeps (λ t x. ⊎_elim (λ may. inl (stays.image t may)) (λ s. inr s) x))

    pub trees_same : (old new : Files) → Sound old → Stays old new → Keeps (WasOrStands image fsid old.may bytes o n last) old new
    trees_same old new sound stays =
        let was : (t : Tree) → old.may t → WasOrStands image fsid old.may bytes o n last t = λ t may. inl may in
        goes_on (WasOrStands image fsid old.may bytes o n last) old old new (started (WasOrStands image fsid old.may bytes o n last) old sound was) stays.time (λ t may. was t (stays.image t may))

  pub stands_then : (old mid : Files) (d : Disk) (o : Objects) (n last : ℕ) → Stays old mid → StandsNow image fsid old d o n last → StandsNow image fsid mid d o n last
  stands_then old mid d o n last stays s = subst (λ (t : Tree). StandsAt image fsid t d.reads o n last) (sym stays.tree) s

journals_same : (image : Images Tree) (fsid : List ℕ) (before : DeviceState) (o : Objects) (n last : ℕ) → KeepsSince (EachImage (WasOrServes image fsid before.disk o n last)) before before
journals_same image fsid before o n last = record {
  has = λ c img so fresh. inl (img, so);
  since = ([], refl, tt);
}

-- at each moment of a mount each pair stands for what all stood for before
pub moments_of : (image : Images Tree) (fsid : List ℕ) (old new : Files) → old.may old.tree → (before now : DeviceState) → IsImage before.disk before.disk.reads → ReadsSound before.disk
    → IsSettled before.disk → IsUnspentImage before.disk.reads → (o : Objects) (n last : ℕ) → AllStand image fsid o n last old.may before.disk
    → (StandsNow image fsid old before.disk o n last → Keeps (WasOrStands image fsid old.may before.disk.reads o n last) old new)
    → (StandsNow image fsid old before.disk o n last → KeepsSince (EachImage (WasOrServes image fsid before.disk o n last)) before now)
    → Keeps (λ t. KeepsSince (EachImage (λ c. StandsAt image fsid t c o n last)) before now) old new
moments_of image fsid old new here before now img so settled fresh o n last all trees journals =
    let stand : (t : Tree) → old.may t → StandsAt image fsid t before.disk.reads o n last = λ t may. all t may before.disk.reads img so fresh in
    all_moments image fsid old new before now settled o n last stand (trees (stand old.tree here)) (journals (stand old.tree here))

pub untouched_moments : (image : Images Tree) (fsid : List ℕ) (old new : Files) → Sound old → Stays old new → (before : DeviceState) → IsImage before.disk before.disk.reads → ReadsSound before.disk
    → IsSettled before.disk → IsUnspentImage before.disk.reads → (o : Objects) (n last : ℕ) → AllStand image fsid o n last old.may before.disk
    → Keeps (λ t. KeepsSince (EachImage (λ c. StandsAt image fsid t c o n last)) before before) old new
untouched_moments image fsid old new sound stays before img so settled fresh o n last all =
    moments_of image fsid old new sound.now before before img so settled fresh o n last all
    (λ s. trees_same image fsid before.disk.reads o n last old new sound stays) (λ s. journals_same image fsid before o n last)
