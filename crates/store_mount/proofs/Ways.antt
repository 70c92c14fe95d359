-- A tree on its way through a journal's transactions stands for what lies at the end of this way.
use Rattle.std.proofs.Common.{◌≡◌, ℕ, ◌+◌, ◌≤◌, List, map, length, sym, ◌∙◌, ap, subst, arith, Some}
use Rattle.fs_model.specs.declared.op.Op.{Op}
use Rattle.fs_model.specs.Objects.{Objects}
use Rattle.tree_api.specs.Tree.{Tree}
use Rattle.ring_frame.specs.Heads.{Head, head_of}
use Rattle.ring_images.specs.Held.{readable}
use Rattle.store_history.specs.History.{replay_of}
use Rattle.store_history.specs.Images.{Images}
use Rattle.store_history.specs.Journal.{txn_of, Spells, above, IsAbove}
use Rattle.store_history.specs.Pair.{StandsAt}
use Rattle.store_turns.specs.Theory.{Reads, Theory}

pub some_head : (a b : Head) → Some a ≡ Some b → a ≡ b
some_head a b e = cc

-- wherever the ring begins, above m there are the same entries as above n where the two are one number
above_as : (n m a b : ℕ) (bytes : List ℕ) → n ≡ m → a ≡ b → map txn_of (above n a (readable bytes)) ≡ map txn_of (above m b (readable bytes))
above_as n m a b bytes e f = ap (λ (i : ℕ). map txn_of (above i a (readable bytes))) e ∙ ap (λ (i : ℕ). map txn_of (above m i (readable bytes))) f

module _ (image : Images Tree) (reads : Reads) (number : Tree → ℕ → Type 0) (laid : Tree → Type 0) (theory : Theory image reads number laid)
    (fsid bytes : List ℕ) (head : Head) (header : head_of bytes ≡ Some head) (m : ℕ) where
  -- m is the number of a tree that stands with these bytes
  module _ (tree : Tree) (is : number tree m) (o : Objects) (n last : ℕ) (s : StandsAt image fsid tree bytes o n last) where
    pub number_is : n ≡ m
    number_is = theory.one_number n m tree (theory.number_is (replay_of n s.before s.txns) n n last tree s.good) is

    seq_is : s.head.seq ≡ head.seq
    seq_is = ap (λ (x : Head). x.seq) (some_head s.head head (sym s.header ∙ header))

    pub no_gap : head.seq ≤ m + 1
    no_gap = omega (arith, s.no_gap, number_is, seq_is)

    pub spelled : Spells (above m head.seq (readable bytes)) s.txns
    spelled = above_as m n head.seq s.head.seq bytes (sym number_is) (sym seq_is) ∙ s.spelled

    pub last_is : last ≡ m + length s.txns
    last_is = omega (arith, s.last_is, number_is)

    pub good : image (replay_of m s.before s.txns) m m (m + length s.txns) tree
    good = subst (λ (i : ℕ). image (replay_of i s.before s.txns) i i (i + length s.txns) tree) number_is (subst (λ (i : ℕ). image (replay_of n s.before s.txns) n n i tree) s.last_is s.good)

    fsid_is : head.fsid ≡ fsid
    fsid_is = ap (λ (x : Head). x.fsid) (some_head head s.head (sym header ∙ s.header)) ∙ s.fsid_is

    -- the bytes themselves
    pub own : IsAbove fsid m s.txns bytes
    own = record { head = head; header = header; fsid_is = fsid_is; no_gap = no_gap; spelled = spelled }

    -- another tree on this way, and other bytes with the same transactions
    pub stands : (t : Tree) (c : List ℕ) → image (replay_of m s.before s.txns) m m (m + length s.txns) t → IsAbove fsid m s.txns c → StandsAt image fsid t c o n last
    stands t c on ab =
        let back : image (replay_of n s.before s.txns) n n (n + length s.txns) t = subst (λ (i : ℕ). image (replay_of i s.before s.txns) i i (i + length s.txns) t) (sym number_is) on in
        record {
          head = ab.head;
          header = ab.header;
          fsid_is = ab.fsid_is;
          no_gap = omega (arith, ab.no_gap, number_is);
          txns = s.txns;
          spelled = above_as n m ab.head.seq ab.head.seq c number_is (ap (λ (x : Head). x.seq) (some_head ab.head ab.head (sym ab.header ∙ ab.header))) ∙ ab.spelled;
          last_is = s.last_is;
          fits = s.fits;
          before = s.before;
          good = subst (λ (i : ℕ). image (replay_of n s.before s.txns) n n i t) (sym s.last_is) back;
          ends = s.ends;
        }

  -- each tree that stands with the old bytes stands with others that have the same transactions
  pub serves : (o : Objects) (n last : ℕ) → n ≡ m → (txns : List (List Op)) → Spells (above m head.seq (readable bytes)) txns → (c : List ℕ) → IsAbove fsid m txns c
      → (t : Tree) → StandsAt image fsid t bytes o n last → StandsAt image fsid t c o n last
  serves o n last e txns spells c ab t s =
      let is : number t m = subst (number t) e (theory.number_is (replay_of n s.before s.txns) n n last t s.good) in
      let same : Spells (above m ab.head.seq (readable c)) s.txns = ab.spelled ∙ sym spells ∙ spelled t is o n last s in
      stands t is o n last s t c (good t is o n last s) (record { head = ab.head; header = ab.header; fsid_is = ab.fsid_is; no_gap = ab.no_gap; spelled = same })
