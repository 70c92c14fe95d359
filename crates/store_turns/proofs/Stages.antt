-- The tree's part of a commit, and both parts together.
use Rattle.std.proofs.Common.{◌≡◌, ◌⊎◌, inl, inr, ℕ, zero, suc, refl, ap, ◌+◌, ◌-◌, ◌≤◌, ◌<◌, ◌^◌, List, sym, subst, arith}
use Rattle.tree_api.specs.Tree.{Tree}
use Rattle.tree_api.specs.Disk.{Disk as Files, Sound, Stays, Keeps, Everywhere}
use Rattle.tree_api.proofs.Moments.{started, goes_on, joined, weaker}
use Rattle.dev_api.specs.Disk.{Disk}
use Rattle.ring_frame.specs.Heads.{Head}
use Rattle.ring_journal.specs.State.{State, GoesOn, free_of}
use Rattle.store_history.specs.History.{History, end_of}
use Rattle.store_history.specs.Journal.{IsJournal, RingSide}
use Rattle.store_history.specs.Images.{Images}
use Rattle.store_history.specs.Pair.{StandsFor}
use Rattle.store_history.proofs.Join.{pair_stands_for}
use Rattle.store_turns.specs.declared.numbers.Numbers.{Numbers}
use Rattle.store_turns.specs.declared.numbers.How.TheVariants.{Live}
use Rattle.store_turns.specs.State.{Fits, Holding}
use Rattle.store_turns.specs.Theory.{Reads, Theory}

module _ (image : Images Tree) (reads : Reads) (number : Tree → ℕ → Type 0) (laid : Tree → Type 0) (theory : Theory image reads number laid) (h : History) (n m : ℕ) (le : n ≤ m) where
  abbrev pub Each : Tree → Type 0
  Each t = image h n n m t ⊎ (image h n m m t ⊎ image h m m m t)

  module _ (old mid : Files) (sound : Sound old) (stays : Stays old mid) (here : Everywhere old (image h n n m)) where
    pub keeps_mid : Keeps Each old mid
    keeps_mid = goes_on Each old old mid (started Each old sound (λ t may. inl (here t may))) stays.time (λ t may. inl (here t (stays.image t may)))

    pub keeps_new : (new : Files) → Keeps (λ t. image h n m m t ⊎ image h m m m t) mid new → Keeps Each old new
    keeps_new new k = joined Each old mid new keeps_mid (weaker (λ t. image h n m m t ⊎ image h m m m t) Each mid new k (λ t x. inr x))

    pub mid_images : ((t : Tree) → mid.may t → t ≡ old.tree) → reads Live h m old.tree → Everywhere mid (image h n m m)
    mid_images all live t may = subst (image h n m m) (sym (all t may)) (theory.whole h n n m old.tree le (here old.tree sound.now) live)

  module _ (fsid : List ℕ) (base : h.base ≤ n) (fits : m ≤ end_of h) (small : end_of h < 2 ^ 63) (t : Tree) (c : List ℕ) where
    one : (k lo p : ℕ) → n ≤ p → p ≤ k → k ≤ lo → lo ≤ m → image h k lo m t → IsJournal fsid h p m m c → StandsFor image fsid h m t c
    one k lo p low behind from within im j =
        pair_stands_for image theory.laws fsid h k lo m p m m t c im j (omega arith) behind from within (omega arith) fits small m (omega arith)

    pub first_pair : Each t → IsJournal fsid h n m m c → StandsFor image fsid h m t c
    first_pair (inl a) j = one n n n (omega arith) (omega arith) (omega arith) le a j
    first_pair (inr (inl a)) j = one n m n (omega arith) (omega arith) le (omega arith) a j
    first_pair (inr (inr a)) j = one m m n (omega arith) le (omega arith) (omega arith) a j

    pub second_pair : image h m m m t → IsJournal fsid h n m m c ⊎ IsJournal fsid h m m m c → StandsFor image fsid h m t c
    second_pair a (inl j) = one m m n (omega arith) le (omega arith) (omega arith) a j
    second_pair a (inr j) = one m m m le (omega arith) (omega arith) (omega arith) a j

  -- an image as it was, or with one transaction more begun, and a journal that may have it
  module _ (fsid : List ℕ) (base : h.base ≤ n) (room : m < end_of h) (small : end_of h < 2 ^ 63) (t : Tree) (c : List ℕ) where
    pub entering : image h n n m t → IsJournal fsid h n m (m + 1) c → StandsFor image fsid h m t c
    entering a j = pair_stands_for image theory.laws fsid h n n m n m (m + 1) t c a j base (omega arith) (omega arith) le (omega arith) (omega arith) small m (omega arith)

    pub applying : (acked : ℕ) → acked ≤ m + 1 → image h n n (m + 1) t → IsJournal fsid h n (m + 1) (m + 1) c → StandsFor image fsid h acked t c
    applying acked below a j = pair_stands_for image theory.laws fsid h n n (m + 1) n (m + 1) (m + 1) t c a j base (omega arith) (omega arith) (omega arith) (omega arith) (omega arith) small acked below

-- ---- records

module _ (image : Images Tree) (reads : Reads) (fsid : List ℕ) (h : History) (core : Numbers) (t : Files) (s : State) (d : Disk) (k : Holding image reads fsid h core t s d) where
  pub committed_kept : (t2 : Files) (s2 : State) (d2 : Disk) → Everywhere t2 (image h core.journalled core.journalled core.journalled) → reads Live h core.journalled t2.tree
      → RingSide fsid h core.journalled core.journalled core.journalled s2 d2 → Holding image reads fsid h (record core { committed = core.journalled }) t2 s2 d2
  committed_kept t2 s2 d2 images live ring = record { small = k.small; images = images; reads = live; ring = ring }

  pub entered_kept : (t2 : Files) (s2 : State) (d2 : Disk) → Everywhere t2 (image h core.committed core.committed (core.journalled + 1)) → reads Live h (core.journalled + 1) t2.tree
      → RingSide fsid h core.committed (core.journalled + 1) (core.journalled + 1) s2 d2 → Holding image reads fsid h (record core { journalled = core.journalled + 1 }) t2 s2 d2
  entered_kept t2 s2 d2 images live ring = record { small = k.small; images = images; reads = live; ring = ring }

pub committed_counts : (core : Numbers) (s s2 : State) → Fits core s → core.committed < core.journalled → GoesOn s s.head.epoch (core.journalled + 1) s2 → Fits (record core { committed = core.journalled }) s2
committed_counts core s s2 fits lt on =
    let k = fits.counts in
    record {
      counts = record {
        chain = omega arith;
        small = k.small;
        start = on.start (omega (arith, k.start, lt));
        count = omega (arith, on.start (omega (arith, k.start, lt)), on.none (omega (arith, k.count)));
        rises = omega (arith, on.generation, k.rises, lt);
      };
      emptied = on.emptied;
    }

pub entered_counts : (core : Numbers) (s s2 : State) → Fits core s → s2.head ≡ s.head → s2.count ≡ s.count + 1 → core.journalled + 1 < 2 ^ 63 → Fits (record core { journalled = core.journalled + 1 }) s2
entered_counts core s s2 fits same more small =
    let k = fits.counts in
    let seq : s2.head.seq ≡ s.head.seq = ap (λ (h : Head). h.seq) same in
    let generation : s2.head.generation ≡ s.head.generation = ap (λ (h : Head). h.generation) same in
    record {
      counts = record {
        chain = omega (arith, k.chain);
        small = small;
        start = omega (arith, seq, k.start);
        count = omega (arith, seq, more, k.count);
        rises = omega (arith, generation, k.rises);
      };
      emptied = λ none. absurd (omega (arith, none, more));
    }

-- where not all room is free, there is something to commit
pub must_raise : (core : Numbers) (s : State) (room : ℕ) → Fits core s → room ≤ s.head.size - 8192 → free_of s < room → core.committed < core.journalled
must_raise core s room fits most lack = by s.count refl where
  by : (n : ℕ) → s.count ≡ n → core.committed < core.journalled
  by zero e = absurd (omega (arith, fits.emptied e, most, lack))
  by (suc n) e = omega (arith, fits.counts.start, fits.counts.count, e)

pub back_one : (reads : Reads) (h : History) (m : ℕ) (t : Tree) → reads Live h m t → reads Live h (m + 1 - 1) t
back_one reads h m t r = let e : m ≡ m + 1 - 1 = omega arith in subst (λ (i : ℕ). reads Live h i t) e r
