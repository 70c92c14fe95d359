-- A store whose images are past all that is journalled, and whose journal holds no entry, is closed.
use Rattle.std.proofs.Common.{◌≡◌, ℕ, suc, ◌<◌, ◌≤◌, ◌^◌, List, [], ◌∷◌, length, refl, sym, ◌∙◌, ap, subst, arith}
use Rattle.fs_model.specs.declared.op.Op.{Op}
use Rattle.fs_model.specs.Objects.{Objects}
use Rattle.tree_api.specs.Tree.{Tree}
use Rattle.tree_api.specs.Disk.{Disk as Files, Everywhere}
use Rattle.dev_api.specs.Disk.{Disk}
use Rattle.ring_frame.specs.Frame.{Entry}
use Rattle.ring_images.specs.Held.{readable, EachSound}
use Rattle.store_files.specs.declared.reading.Identity.{Identity}
use Rattle.store_history.specs.History.{History, end_of, part, at, replay_of}
use Rattle.store_history.specs.Journal.{IsJournal, RingSide}
use Rattle.store_history.specs.Pair.{Closed, StandsFor}
use Rattle.store_history.proofs.Entries.{spells_length}
use Rattle.store_history.proofs.Join.{pair_stands_for, less}
use Rattle.store_history.proofs.Parts.{nothing}
use Rattle.store_turns.specs.declared.numbers.Numbers.{Numbers}
use Rattle.tree_places.specs.Images.{StoreImage}
use Rattle.tree_places.proofs.Theory.{theory_law}
use Rattle.history_tails.specs.Tails.{IsTailOf}
use Rattle.history_tails.proofs.Tails.{at_tail, stands_tail}
use Rattle.ring_journal.specs.State.{State}
use Rattle.file_store.specs.Store.{Store, IsDrained}
use Rattle.file_store.specs.Holds.{Holds, Leaves, LeavesClosed}

no_entries : (es : List Entry) → length es ≡ 0 → es ≡ []
no_entries [] none = refl
no_entries (e ∷ es) none = absurd (let z : suc (length es) ≡ 0 = none in omega (arith, z))

-- one pair of it
module _ (id : Identity) (fsid : List ℕ) (h long : History) (tail : IsTailOf h long) (n : ℕ) (end : end_of h ≡ n) (small : end_of long < 2 ^ 63) (t : Tree) (c : List ℕ)
    (image : StoreImage id long n n n t) (j : IsJournal fsid long n n n c) where
  last : j.end ≡ n
  last = omega (arith, j.low, j.high)

  none_left : part long n j.end ≡ []
  none_left = ap (part long n) last ∙ nothing long n

  objects : at long n ≡ at h (end_of h)
  objects = ap (at long) (sym end) ∙ at_tail h long (end_of h) tail (omega arith)

  rebased : StoreImage id (replay_of n (at h (end_of h)) []) n n n t
  rebased =
      subst (λ (O : Objects). StoreImage id (replay_of n O []) n n n t) objects
      (subst (λ (l : List (List Op)). StoreImage id (replay_of n (at long n) l) n n n t) (nothing long n)
      ((theory_law id).laws.rebase long n n n n t image.image.base (omega arith) (omega arith) (omega arith) (omega (arith, tail.end, end)) image))

  pub closed_one : Closed (StoreImage id) fsid t c (at h (end_of h))
  closed_one = record {
    n = n;
    head = j.head;
    header = j.header;
    fsid_is = j.fsid_is;
    start = j.start;
    none = no_entries (readable c) (spells_length (readable c) (part long n j.end) j.spelled ∙ ap length none_left);
    fits = omega (arith, small, tail.end, end);
    good = rebased;
  }

  pub stands_one : (acked : ℕ) → h.base ≤ acked → acked ≤ n → StandsFor (StoreImage id) fsid h acked t c
  stands_one acked low le =
      stands_tail (StoreImage id) fsid h long acked t c tail low
      (pair_stands_for (StoreImage id) (theory_law id).laws fsid long n n n n n n t c image j image.image.base (omega arith) (omega arith) (omega arith) (omega arith)
      (omega (arith, tail.end, end)) small acked le)

abbrev JournalLaw : Type 0
JournalLaw = (fsid : List ℕ) (h : History) (p synced hi : ℕ) (s : State) (d : Disk) → RingSide fsid h p synced hi s d → EachSound (IsJournal fsid h p synced hi) d

-- the store that was drained, and a tree whose images are still such
module _ (journal_law : JournalLaw) (h : History) (s done : Store) (t u : Files) (d : Disk) (is : IsDrained s done) (k : Holds h done t d) where
  abbrev n : ℕ
  n = s.queue.last

  end_is : end_of h ≡ n
  end_is = k.end ∙ ap (λ (x : Numbers). x.journalled) is.numbers

  abbrev AreImages : Identity → Numbers → Files → Type 0
  AreImages id numbers x = Everywhere x (StoreImage id k.long numbers.committed numbers.committed numbers.journalled)

  abbrev Journals : Identity → Numbers → Type 0
  Journals id numbers = EachSound (IsJournal id.fsid k.long numbers.committed numbers.journalled numbers.journalled) d

  pub before : AreImages done.identity done.numbers t
  before = k.on.images

  journals : Journals s.identity (record { journalled = n; committed = n })
  journals = subst (λ (id : Identity). Journals id (record { journalled = n; committed = n })) is.identity
      (subst (λ (x : Numbers). Journals done.identity x) is.numbers (journal_law done.identity.fsid k.long _ _ _ done.ring d k.on.ring))

  module _ (images : AreImages done.identity done.numbers u) where
    images_as : AreImages s.identity (record { journalled = n; committed = n }) u
    images_as = subst (λ (id : Identity). AreImages id (record { journalled = n; committed = n }) u) is.identity
        (subst (λ (x : Numbers). AreImages done.identity x u) is.numbers images)

    pub closed_all : LeavesClosed h s u d
    closed_all x may c img so fresh = closed_one s.identity s.identity.fsid h k.long k.tail n end_is k.on.small x c (images_as x may) (journals c img so)

    pub leaves_all : (acked : ℕ) → h.base ≤ acked → acked ≤ n → Leaves h acked s u d
    leaves_all acked low le x may c img so fresh = stands_one s.identity s.identity.fsid h k.long k.tail n end_is k.on.small x c (images_as x may) (journals c img so) acked low le

-- what was acknowledged earlier
pub leaves_less : (h : History) (a b : ℕ) (s : Store) (t : Files) (d : Disk) → a ≤ b → Leaves h b s t d → Leaves h a s t d
leaves_less h a b s t d le leaves x may c img so fresh = less (StoreImage s.identity) s.identity.fsid h a b x c le (leaves x may c img so fresh)
