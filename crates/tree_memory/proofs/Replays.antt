-- An image that is followed through the log.
use Rattle.std.proofs.Common.{◌≡◌, inl, ℕ, ◌+◌, ◌<◌, List, [], ◌∷◌, ◌++◌, length, take, drop, get_or, Bool, true, false, Option, refl, sym, ◌∙◌, ap, subst, arith}
use Rattle.std.proofs.lemmas.Bool.{and_parts}
use Rattle.std.proofs.lemmas.List.{take_more, drop_more, take_all}
use Rattle.tree_api.specs.Tree.{Content, Tree}
use Rattle.tree_memory.specs.History.{History, State, IsImage, settled}
use Rattle.tree_memory.specs.Log.{run, ran, flush, replay, start, adds, suits, all_suit, nodes_after}
use Rattle.tree_memory.specs.Told.{tree_of, count_of, state, IsLow, IsTied}
use Rattle.tree_memory.specs.Leaves.{settle, IsLeft}
use Rattle.tree_memory.specs.Images.{now_image}
use Rattle.tree_memory.specs.declared.event.Call.{Call}
use Rattle.tree_memory.specs.declared.store.Store.{Store}
use Rattle.tree_memory.proofs.Pushes.{ran_run, replay_push, after_push}

pub flushed : (b : Bool) (s : State) → (flush b s).now ≡ settle b s.now
flushed true s = refl
flushed false s = refl

settle_tree : (b : Bool) (h : History) → (settle b h).tree ≡ h.tree
settle_tree true h = refl
settle_tree false h = refl

abbrev pub at_call : Store → List Call → ℕ → History
at_call origin log i = (replay (take i log) (start (tree_of origin))).now

-- after so many calls
pub record IsFollowed (origin : Store) (log : List Call) (i : ℕ) (now image : Store) : Type 0 where
  pub reads : (at_call origin log i).tree ≡ tree_of now
  pub left : IsLeft (at_call origin log i) image
  pub count : count_of now ≡ nodes_after (count_of origin) (take i log)
  pub same : count_of image ≡ count_of now
  pub suit : all_suit (count_of now) (drop i log) ≡ true

pub followed_first : (origin : Store) (log : List Call) (now image : Store) → tree_of now ≡ tree_of origin → count_of now ≡ count_of origin → tree_of image ≡ tree_of origin → count_of image ≡ count_of origin → all_suit (count_of origin) log ≡ true
    → IsFollowed origin log 0 now image
followed_first origin log now image tree count tree2 count2 suit = record {
  reads = sym tree;
  left = subst (λ (t : Tree). IsImage (settled (tree_of origin)) (record t { snap = (tree_of origin).snap })) (sym tree2) (now_image (settled (tree_of origin)));
  count = count;
  same = count2 ∙ sym count;
  suit = ap (λ (k : ℕ). all_suit k log) count ∙ suit;
}

module _ (origin store now image : Store) (log : List Call) (synced : Bool) (i : ℕ) (tied : IsTied origin store log synced) (so_far : IsFollowed origin log i now image) where
  pub followed_low : IsLow now
  followed_low p n here =
      let low = ((tied.past i).maps (at_call origin log i).tree.at (inl refl)).low p n (ap (λ (t : Tree). t.at p) so_far.reads ∙ here) in
      subst (λ (k : ℕ). n < k) (sym so_far.count) low

  module _ (c : Call) (lt : i < length log) (read : c ≡ get_or log i c) where
    next : take (i + 1) log ≡ take i log ++ c ∷ []
    next = take_more log i c lt ∙ ap (λ (x : Call). take i log ++ x ∷ []) (sym read)

    rest : drop i log ≡ c ∷ drop (i + 1) log
    rest = drop_more log i c lt ∙ ap (λ (x : Call). x ∷ drop (i + 1) log) (sym read)

    both : (suits (count_of now) c.event ≡ true) × (all_suit (count_of now + adds c.event) (drop (i + 1) log) ≡ true)
    both = and_parts (suits (count_of now) c.event) (all_suit (count_of now + adds c.event) (drop (i + 1) log)) (ap (all_suit (count_of now)) (sym rest) ∙ so_far.suit)

    pub followed_suits : suits (count_of now) c.event ≡ true
    followed_suits = both.0

    pub ran_to : at_call origin log (i + 1) ≡ run c.event (settle c.synced (at_call origin log i))
    ran_to =
        ap (λ (l : List Call). (replay l (start (tree_of origin))).now) next ∙ ap (λ (s : State). s.now) (replay_push (take i log) c (start (tree_of origin)))
        ∙ ap (run c.event) (flushed c.synced (replay (take i log) (start (tree_of origin))))

    -- the tree after the call
    pub followed_ran : (after : Store) → tree_of after ≡ ran c.event (tree_of now) → (run c.event (settle c.synced (at_call origin log i))).tree ≡ tree_of after
    followed_ran after tree =
        ran_run c.event (settle c.synced (at_call origin log i)) ∙ ap (ran c.event) (settle_tree c.synced (at_call origin log i) ∙ so_far.reads) ∙ sym tree

    pub followed_more : (after left : Store) → tree_of after ≡ ran c.event (tree_of now) → count_of after ≡ count_of now + adds c.event → count_of left ≡ count_of after
        → IsLeft (run c.event (settle c.synced (at_call origin log i))) left → IsFollowed origin log (i + 1) after left
    followed_more after left tree count same is_left = record {
      reads = ap (λ (h : History). h.tree) ran_to ∙ followed_ran after tree;
      left = subst (λ (h : History). IsLeft h left) (sym ran_to) is_left;
      count = count ∙ ap (λ (k : ℕ). k + adds c.event) so_far.count ∙ sym (after_push (count_of origin) (take i log) c) ∙ ap (nodes_after (count_of origin)) (sym next);
      same = same;
      suit = ap (λ (k : ℕ). all_suit k (drop (i + 1) log)) count ∙ both.1;
    }

  pub followed_end : length log ≡ i → (at_call origin log i ≡ (replay log (start (tree_of origin))).now)
  followed_end e = ap (λ (l : List Call). (replay l (start (tree_of origin))).now) (take_all i log (omega (arith, e)))

  pub followed_count : length log ≡ i → count_of now ≡ count_of store
  followed_count e = so_far.count ∙ ap (nodes_after (count_of origin)) (take_all i log (omega (arith, e))) ∙ tied.count

  pub followed_last : length log ≡ i → settle synced (at_call origin log i) ≡ (state origin log synced).now
  followed_last e = ap (settle synced) (followed_end e) ∙ sym (flushed synced (replay log (start (tree_of origin))))

  pub followed_snaps : (settle synced (at_call origin log i)).tree.snap ≡ (tree_of now).snap
  followed_snaps = ap (λ (t : Tree). t.snap) (settle_tree synced (at_call origin log i) ∙ so_far.reads)

  -- at the end, with the snapshots as they are
  pub followed_left : length log ≡ i → (left : Store) → IsLeft (settle synced (at_call origin log i)) left → IsImage (state origin log synced).now (record (tree_of left) { snap = (tree_of now).snap })
  followed_left e left is =
      subst (λ (h : History). IsImage h (record (tree_of left) { snap = (tree_of now).snap })) (followed_last e)
      (subst (λ (f : ℕ → Option Content). IsImage (settle synced (at_call origin log i)) (record (tree_of left) { snap = f })) followed_snaps is)
