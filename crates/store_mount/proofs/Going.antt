-- How far a replay is.
use Rattle.std.proofs.Common.{◌≡◌, ⊎_elim, ℕ, ◌+◌, ◌-◌, ◌≤◌, ◌<◌, List, drop, length, sym, subst, arith, Some, length-drop}
use Rattle.std.proofs.lemmas.Bool.{cases_lt}
use Rattle.tree_api.specs.Tree.{Tree}
use Rattle.tree_api.specs.Disk.{Disk as Files, Sound, Keeps}
use Rattle.tree_api.proofs.Moments.{started, joined, now_from}
use Rattle.ring_frame.specs.Frame.{Entry}
use Rattle.ring_journal.specs.declared.blob.Stored.{Stored}
use Rattle.ring_journal.specs.State.{told_first}
use Rattle.store_history.specs.History.{History, end_of, replay_of, IsTxn}
use Rattle.store_history.specs.Images.{Images}
use Rattle.store_history.specs.Journal.{above}
use Rattle.store_history.proofs.Entries.{spells_length}
use Rattle.store_turns.specs.Calls.{WhereImages, WhereReplayed}
use Rattle.store_turns.specs.Theory.{Reads, Theory}
use Rattle.store_turns.specs.declared.numbers.How.{How}
use Rattle.store_turns.specs.declared.numbers.How.TheVariants.{Live, Replay}
use Rattle.store_turns.proofs.Redone.{told_txn}
use Rattle.store_mount.specs.Replays.{WhereSpelled}

-- what reads is past the transactions that were told, where the next entry has the number `next`
pub record Reached (reads : Reads) (h : History) (n next : ℕ) (t : Tree) : Type 0 where
  pub not_yet : next ≤ n + 1 → reads Replay h n t
  pub so_far : n + 1 ≤ next → reads Replay h (next - 1) t

pub record GoneOn (image : Images Tree) (reads : Reads) (n next : ℕ) (old now : Files) (h : History) : Type 0 where
  pub keeps : Keeps (image h n n (end_of h)) old now
  pub reached : Reached reads h n next now.tree

early : (reads : Reads) (h : History) (n next : ℕ) (t : Tree) → next ≤ n + 1 → reads Replay h n t → Reached reads h n next t
early reads h n next t le r = record {
  not_yet = λ at. r;
  so_far = λ at. let e : n ≡ next - 1 = omega (arith, le, at) in subst (λ (m : ℕ). reads Replay h m t) e r;
}

late : (reads : Reads) (h : History) (n seq next : ℕ) (t : Tree) → n < seq → next ≡ seq + 1 → reads Replay h seq t → Reached reads h n next t
late reads h n seq next t lt is r = record {
  not_yet = λ at. absurd (omega (arith, lt, is, at));
  so_far = λ at. let e : seq ≡ next - 1 = omega (arith, is) in subst (λ (m : ℕ). reads Replay h m t) e r;
}

module _ (image : Images Tree) (reads : Reads) (number : Tree → ℕ → Type 0) (laid : Tree → Type 0) (theory : Theory image reads number laid)
    (n first : ℕ) (gap : first ≤ n + 1) (es : List Entry) where
  -- before the first entry
  pub begun : (old : Files) → Sound old → (next : ℕ) → next ≤ n + 1 → WhereSpelled image n first es old (GoneOn image reads n next old old)
  begun old sound next le before txns spells here =
      let h : History = replay_of n before txns in
      record {
        keeps = started (image h n n (n + length txns)) old sound here;
        reached = early reads h n next old.tree le (theory.begins n before txns old.tree (here old.tree sound.now));
      }

  -- after the last one
  pub finished : (old now : Files) (i : ℕ) → length es ≡ i → WhereSpelled image n first es old (GoneOn image reads n (first + i) old now)
      → WhereSpelled image n first es old (λ h. reads Live h (end_of h) now.tree)
  finished old now i l gone before txns spells here =
      let h : History = replay_of n before txns in
      let g = gone before txns spells here in
      let a = spells_length (above n first es) txns spells in
      let b = length-drop (n + 1 - first) es in
      theory.ends h now.tree
      (⊎_elim
      (λ (lt : first + i < n + 1). let e : n ≡ n + length txns = omega (arith, a, b, l, lt) in subst (λ (m : ℕ). reads Replay h m now.tree) e (g.reached.not_yet (omega (arith, lt))))
      (λ (le : n + 1 ≤ first + i). let e : first + i - 1 ≡ n + length txns = omega (arith, a, b, l, le, gap) in subst (λ (m : ℕ). reads Replay h m now.tree) e (g.reached.so_far le))
      (cases_lt (first + i) (n + 1)))

  -- the entry that is told next: x is the side before it is done again, and y after that
  module _ {Side : Type 0} (disk : Side → Files) (x y : Side) (old : Files) (sound : Sound (disk x)) (i : ℕ) (stored : Stored)
      (told : told_first (drop i es) ≡ Some stored) (seq_is : stored.seq ≡ first + i)
      (gone : WhereSpelled image n first es old (GoneOn image reads n (first + i) old (disk x)))
      (skipped : stored.seq ≤ n → y ≡ x)
      (keeps : n < stored.seq → WhereReplayed image reads n stored.seq stored.payload (disk x) (λ h hi. Keeps (image h n n hi) (disk x) (disk y))) where
    due : n < stored.seq → (P : History → ℕ → Type 0) → WhereReplayed image reads n stored.seq stored.payload (disk x) P → WhereSpelled image n first es old (λ h. P h (end_of h))
    due lt P where_replayed before txns spells here =
        let h : History = replay_of n before txns in
        let g = gone before txns spells here in
        let is = told_txn n first i before es txns stored gap (omega (arith, lt, seq_is)) spells told in
        let e : first + i - 1 ≡ stored.seq - 1 = omega (arith, seq_is) in
        where_replayed h (n + length txns) is.0 (omega (arith, seq_is, is.3)) (omega arith) is.1 (subst (λ (m : ℕ). IsTxn h m is.0) (sym seq_is) is.2)
        (now_from (image h n n (n + length txns)) old (disk x) sound g.keeps)
        (subst (λ (m : ℕ). reads Replay h m (disk x).tree) e (g.reached.so_far (omega (arith, lt, seq_is))))

    pub keeps_on : WhereSpelled image n first es old (λ h. Keeps (image h n n (end_of h)) old (disk y))
    keeps_on before txns spells here =
        let h : History = replay_of n before txns in
        let g = gone before txns spells here in
        ⊎_elim
        (λ (lt : n < stored.seq). joined (image h n n (n + length txns)) old (disk x) (disk y) g.keeps (due lt (λ f hi. Keeps (image f n n hi) (disk x) (disk y)) (keeps lt) before txns spells here))
        (λ (le : stored.seq ≤ n). subst (λ (s : Side). Keeps (image h n n (n + length txns)) old (disk s)) (sym (skipped le)) g.keeps)
        (cases_lt n stored.seq)

    pub goes_on : (next : ℕ) → next ≡ stored.seq + 1
        → (n < stored.seq → WhereReplayed image reads n stored.seq stored.payload (disk x) (λ h hi. reads Replay h stored.seq (disk y).tree))
        → WhereSpelled image n first es old (GoneOn image reads n next old (disk y))
    goes_on next is done before txns spells here =
        let h : History = replay_of n before txns in
        let g = gone before txns spells here in
        record {
          keeps = keeps_on before txns spells here;
          reached = ⊎_elim
              (λ (lt : n < stored.seq). late reads h n stored.seq next (disk y).tree lt is (due lt (λ f hi. reads Replay f stored.seq (disk y).tree) (done lt) before txns spells here))
              (λ (le : stored.seq ≤ n).
              let r : reads Replay h n (disk y).tree = subst (λ (s : Side). reads Replay h n (disk s).tree) (sym (skipped le)) (g.reached.not_yet (omega (arith, le, seq_is))) in
              early reads h n next (disk y).tree (omega (arith, le, is)) r)
              (cases_lt n stored.seq);
        }

-- the tree is tidied behind the last one
module _ (image : Images Tree) (n first : ℕ) (es : List Entry) (old mid new : Files) where
  pub tidied_keeps : Sound mid → WhereSpelled image n first es old (λ h. Keeps (image h n n (end_of h)) old mid) → WhereImages image mid (λ h m lo hi. Keeps (image h m lo hi) mid new)
      → WhereSpelled image n first es old (λ h. Keeps (image h n n (end_of h)) old new)
  tidied_keeps sound so_far tidy before txns spells here =
      let h : History = replay_of n before txns in
      let P : Tree → Type 0 = image h n n (n + length txns) in
      let k = so_far before txns spells here in
      joined P old mid new k (tidy h n n (n + length txns) (now_from P old mid sound k))

  pub tidied_reads : (reads : Reads) → WhereSpelled image n first es old (λ h. reads Live h (end_of h) mid.tree) → ((how : How) (h : History) (m : ℕ) → reads how h m mid.tree → reads how h m new.tree)
      → WhereSpelled image n first es old (λ h. reads Live h (end_of h) new.tree)
  tidied_reads reads so_far tidy before txns spells here = tidy Live (replay_of n before txns) (n + length txns) (so_far before txns spells here)
