-- What the pairs at an exit of a mount stand for.
use Rattle.std.proofs.Common.{◌≡◌, ⊎_elim, inl, inr, ℕ, ◌+◌, ◌-◌, List, length, sym, ◌∙◌, ap, subst, arith, Some}
use Rattle.std.proofs.lemmas.List.{take_all}
use Rattle.fs_model.specs.declared.op.Op.{Op}
use Rattle.fs_model.specs.Objects.{Objects}
use Rattle.fs_model.specs.Rows.{fold_txns}
use Rattle.tree_api.specs.Tree.{Tree}
use Rattle.tree_api.specs.Disk.{Disk as Files, Sound, Stays, Keeps, Everywhere}
use Rattle.tree_api.proofs.Moments.{started, goes_on, joined, weaker, now_from}
use Rattle.dev_api.specs.Disk.{Disk, IsImage, settled}
use Rattle.ring_frame.specs.Frame.{Entry}
use Rattle.ring_frame.specs.Heads.{Head, head_of}
use Rattle.dev_api.specs.DeviceState.{DeviceState}
use Rattle.dev_api.specs.Run.{KeepsSince}
use Rattle.dev_api.proofs.Images.{settled_image}
use Rattle.dev_api.proofs.Run.{keeps_weaker}
use Rattle.ring_images.specs.Held.{readable, IsSound, EachSound, ReadsSound, Within}
use Rattle.ring_journal.specs.State.{State, IsUnspent, IsSettled}
use Rattle.store_history.specs.History.{end_of, replay_of}
use Rattle.store_history.specs.Images.{Images}
use Rattle.store_history.specs.Journal.{Spells, above, IsAbove, EachImage, RingSide}
use Rattle.store_history.specs.Pair.{StandsAt}
use Rattle.store_turns.specs.Theory.{Reads, Theory}
use Rattle.store_turns.specs.declared.numbers.How.TheVariants.{Live}
use Rattle.store_mount.specs.Mounts.{PairsCarry, MountedAs, WasOrStands, WasOrServes}
use Rattle.store_mount.specs.Replays.{WhereSpelled}
use Rattle.store_mount.proofs.Ways.{some_head, number_is, last_is, spelled, good, own, stands, serves}

-- ---- nothing new may be left

module _ (image : Images Tree) (fsid : List ℕ) (old mid : Files) (stays : Stays old mid) where
  pub found_carries : (d e : Disk) → Within d e → PairsCarry image fsid old.may d mid.may e
  found_carries d e within t may c is_image sound fresh =
      let was = within.images c is_image sound in
      record { tree = t; bytes = c; may_be = stays.image t may; is_image = was.0; sound = was.1; unspent = fresh; same = λ o n last s. s }

  pub found_trees : Sound old → (bytes : List ℕ) (o : Objects) (n last : ℕ) → Keeps (WasOrStands image fsid old.may bytes o n last) old mid
  found_trees sound bytes o n last =
      let P : Tree → Type 0 = WasOrStands image fsid old.may bytes o n last in
      goes_on P old old mid (started P old sound (λ t may. inl may)) stays.time (λ t may. inl (stays.image t may))

pub found_journals : (image : Images Tree) (fsid : List ℕ) (d : Disk) (o : Objects) (n last : ℕ) (e : Disk) → Within d e → EachImage (WasOrServes image fsid d o n last) e
found_journals image fsid d o n last e within c is_image sound fresh = inl (within.images c is_image sound)

-- ---- entries were done again

module _ (image : Images Tree) (reads : Reads) (number : Tree → ℕ → Type 0) (laid : Tree → Type 0) (theory : Theory image reads number laid)
    (fsid : List ℕ) (old mid new : Files) (d : Disk) (head : Head) (header : head_of d.reads ≡ Some head) (fsid_is : head.fsid ≡ fsid) (m : ℕ) (is : number old.tree m)
    (only : Everywhere mid (λ t. t ≡ old.tree)) (sound : Sound new) (loaded : Disk) (same : loaded ≡ settled d.reads)
    (keeps : WhereSpelled image m head.seq (readable loaded.stable) mid (λ h. Keeps (image h m m (end_of h)) mid new)) where
  entries : readable loaded.stable ≡ readable d.reads
  entries = ap (λ (x : Disk). readable x.stable) same

  of_fsid : (txns : List (List Op)) (c : List ℕ) → IsAbove head.fsid m txns c → IsAbove fsid m txns c
  of_fsid txns c a = record { head = a.head; header = a.header; fsid_is = a.fsid_is ∙ fsid_is; no_gap = a.no_gap; spelled = a.spelled }

  module _ (o : Objects) (n last : ℕ) (s : StandsAt image fsid old.tree d.reads o n last) where
    abbrev pub Way : Tree → Type 0
    Way = image (replay_of m s.before s.txns) m m (m + length s.txns)

    pub spells : Spells (above m head.seq (readable d.reads)) s.txns
    spells = spelled image reads number laid theory fsid d.reads head header m old.tree is o n last s

    pub spells_loaded : Spells (above m head.seq (readable loaded.stable)) s.txns
    spells_loaded = subst (λ (es : List Entry). Spells (above m head.seq es) s.txns) (sym entries) spells

    pub at_mid : Everywhere mid Way
    at_mid t may = subst Way (sym (only t may)) (good image reads number laid theory fsid d.reads head header m old.tree is o n last s)

    pub run : Keeps Way mid new
    run = keeps s.before s.txns spells_loaded at_mid

    pub at_new : Everywhere new Way
    at_new = now_from Way mid new sound run

    pub stand : (t : Tree) (c : List ℕ) → Way t → IsAbove fsid m s.txns c → StandsAt image fsid t c o n last
    stand = stands image reads number laid theory fsid d.reads head header m old.tree is o n last s

    pub run_trees : Keeps (WasOrStands image fsid old.may d.reads o n last) old mid → Keeps (WasOrStands image fsid old.may d.reads o n last) old new
    run_trees so_far =
        let P : Tree → Type 0 = WasOrStands image fsid old.may d.reads o n last in
        joined P old mid new so_far
        (weaker Way P mid new run (λ t way. inr (stand t d.reads way (own image reads number laid theory fsid d.reads head header m old.tree is o n last s))))

    pub run_journals : (e : Disk) → EachSound (IsAbove head.fsid m s.txns) e → EachImage (WasOrServes image fsid d o n last) e
    run_journals e each c is_image so fresh =
        inr (serves image reads number laid theory fsid d.reads head header m o n last
        (number_is image reads number laid theory fsid d.reads head header m old.tree is o n last s) s.txns spells c (of_fsid s.txns c (each c is_image so)))

    pub mounted : (j : ℕ) (r : State) (e : Disk) → j ≡ m + length s.txns → WhereSpelled image m head.seq (readable loaded.stable) mid (λ h. reads Live h (end_of h) new.tree)
        → RingSide head.fsid (replay_of m s.before s.txns) m (m + length s.txns) (m + length s.txns) r e
        → MountedAs image reads fsid o n last (record { ring = r; numbers = record { journalled = j; committed = m } }) new e
    mounted j r e j_is live ring =
        let same = number_is image reads number laid theory fsid d.reads head header m old.tree is o n last s in
        let end = last_is image reads number laid theory fsid d.reads head header m old.tree is o n last s in
        record {
          committed = sym same;
          journalled = j_is ∙ sym end;
          history = replay_of m s.before s.txns;
          base = sym same;
          end = sym end;
          objects = ap (fold_txns s.before) (take_all (last - m) s.txns (omega (arith, end))) ∙ sym s.ends;
          holding = record {
            small = omega (arith, s.fits, end);
            images = λ t may. subst (λ (i : ℕ). image (replay_of m s.before s.txns) m m i t) (sym j_is) (at_new t may);
            reads = subst (λ (i : ℕ). reads Live (replay_of m s.before s.txns) i new.tree) (sym j_is) (live s.before s.txns spells_loaded at_mid);
            ring = subst (λ (i : ℕ). RingSide fsid (replay_of m s.before s.txns) m i i r e) (sym j_is) (subst (λ (f : List ℕ). RingSide f (replay_of m s.before s.txns) m (m + length s.txns) (m + length s.txns) r e) fsid_is ring);
          };
        }

  pub run_carries : old.may old.tree → IsImage d d.reads → ReadsSound d → IsUnspent head → (e : Disk)
      → ((txns : List (List Op)) → Spells (above m head.seq (readable loaded.stable)) txns → EachSound (IsAbove head.fsid m txns) e) → PairsCarry image fsid old.may d new.may e
  run_carries may is_image so unspent e each t now c c_image c_sound fresh = record {
    tree = old.tree;
    bytes = d.reads;
    may_be = may;
    is_image = is_image;
    sound = so;
    unspent = λ h k. subst IsUnspent (some_head head h (sym header ∙ k)) unspent;
    same = λ o n last s. stand o n last s t c (at_new o n last s t now) (of_fsid s.txns c (each s.txns (spells_loaded o n last s) c c_image c_sound));
  }

-- ---- at every moment

pub settled_sound : (d : Disk) → IsSettled d → IsSound d d.stable → ReadsSound d
settled_sound d settled sound = subst (IsSound d) (sym (ap (λ (x : Disk). x.reads) settled)) sound

-- where the device was settled and all stood for o, each tree since stands for o with each image of the device since
pub all_moments : (image : Images Tree) (fsid : List ℕ) (old new : Files) (before now : DeviceState) → IsSettled before.disk → (o : Objects) (n last : ℕ)
    → ((t : Tree) → old.may t → StandsAt image fsid t before.disk.reads o n last)
    → Keeps (WasOrStands image fsid old.may before.disk.reads o n last) old new → KeepsSince (EachImage (WasOrServes image fsid before.disk o n last)) before now
    → Keeps (λ t. KeepsSince (EachImage (λ c. StandsAt image fsid t c o n last)) before now) old new
all_moments image fsid old new before now settled o n last all trees journals =
    let d : Disk = before.disk in
    let one : (c : List ℕ) → IsImage d c → d.reads ≡ c =
    λ c is_image. ap (λ (x : Disk). x.reads) settled ∙ sym (settled_image d.stable c (subst (λ (x : Disk). IsImage x c) settled is_image)) in
    weaker (WasOrStands image fsid old.may d.reads o n last) (λ t. KeepsSince (EachImage (λ c. StandsAt image fsid t c o n last)) before now) old new trees
    (λ t was.
    let here : StandsAt image fsid t d.reads o n last = ⊎_elim (λ (may : old.may t). all t may) (λ (s : StandsAt image fsid t d.reads o n last). s) was in
    keeps_weaker (EachImage (WasOrServes image fsid d o n last)) (EachImage (λ c. StandsAt image fsid t c o n last))
    (λ e each c is_image sound fresh. ⊎_elim
    (λ (b : IsImage d c × IsSound d c). subst (λ (x : List ℕ). StandsAt image fsid t x o n last) (one c b.0) here)
    (λ (f : (u : Tree) → StandsAt image fsid u d.reads o n last → StandsAt image fsid u c o n last). f t here)
    (each c is_image sound fresh))
    now.disk before.past now.past journals)
