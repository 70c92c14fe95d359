-- One more call in the log.
use Rattle.std.proofs.Common.{◌≡◌, inl, inr, ℕ, zero, suc, ◌+◌, List, [], ◌∷◌, ◌++◌, length, take, get_or, ◌-◌, length-append, Bool, true, false, refl, sym, ◌∙◌, ap, subst, arith}
use Rattle.std.proofs.lemmas.Bool.{and_parts, and_from, cases_lt}
use Rattle.std.proofs.lemmas.List.{get_or_push, take_all, take-append-le}
use Rattle.tree_api.specs.Tree.{Tree}
use Rattle.tree_memory.specs.History.{History, State, next, settled}
use Rattle.tree_memory.specs.Log.{run, ran, step, replay, start, adds, suits, all_suit, nodes_after}
use Rattle.tree_memory.specs.Valid.{IsValid}
use Rattle.tree_memory.specs.Told.{tree_of, count_of, state, IsLow, IsTied}
use Rattle.tree_memory.proofs.Valids.{valid_synced_all}
use Rattle.tree_memory.specs.declared.event.Event.{Event}
use Rattle.tree_memory.specs.declared.event.Event.TheVariants.{Make, Remove, Move, MoveAll, Change, SyncFile, SyncNames, Snapshot, DropSnapshot, Rollback}
use Rattle.tree_memory.specs.declared.event.Call.{Call}
use Rattle.tree_memory.specs.declared.store.Store.{Store}

-- what an event does to a tree doesn't go by what it was
pub ran_run : (e : Event) (h : History) → (run e h).tree ≡ ran e h.tree
ran_run (Make p n dir) h = refl
ran_run (Remove p) h = refl
ran_run (Move from to n) h = refl
ran_run (MoveAll edits) h = refl
ran_run (Change n c) h = refl
ran_run (SyncFile n) h = refl
ran_run SyncNames h = refl
ran_run (Snapshot seq) h = refl
ran_run (DropSnapshot seq) h = refl
ran_run (Rollback first nodes edits) h = refl

pub replay_push : (xs : List Call) (c : Call) (s : State) → replay (xs ++ c ∷ []) s ≡ step c (replay xs s)
replay_push [] c s = refl
replay_push (x ∷ xs) c s = replay_push xs c (step x s)

suit_push : (k : ℕ) (xs : List Call) (c : Call) → all_suit k xs ≡ true → suits (nodes_after k xs) c.event ≡ true → all_suit k (xs ++ c ∷ []) ≡ true
suit_push k [] c all one = and_from (suits k c.event) true one refl
suit_push k (x ∷ xs) c all one =
    let both = and_parts (suits k x.event) (all_suit (k + adds x.event) xs) all in
    and_from (suits k x.event) (all_suit (k + adds x.event) (xs ++ c ∷ [])) both.0 (suit_push (k + adds x.event) xs c both.1 one)

pub after_push : (k : ℕ) (xs : List Call) (c : Call) → nodes_after k (xs ++ c ∷ []) ≡ nodes_after k xs + adds c.event
after_push k [] c = refl
after_push k (x ∷ xs) c = after_push (k + adds x.event) xs c

pub state_push : (origin : Store) (log new : List Call) (synced : Bool) (e : Event) → new ≡ log ++ record { synced = synced; event = e } ∷ []
    → state origin new false ≡ next (run e (state origin log synced).now) (state origin log synced)
state_push origin log new synced e is =
    ap (λ (l : List Call). replay l (start (tree_of origin))) is ∙ replay_push log (record { synced = synced; event = e }) (start (tree_of origin))

module _ (origin store : Store) (log : List Call) (synced : Bool) (tied : IsTied origin store log synced) where
  pub tied_low : IsLow store
  tied_low p n here = (tied.valid.maps (state origin log synced).now.tree.at (inl refl)).low p n (ap (λ (t : Tree). t.at p) tied.reads ∙ here)

  pub tied_kept : (after : Store) (new : List Call) (e : Event) → new ≡ log ++ record { synced = synced; event = e } ∷ [] → suits (count_of store) e ≡ true
      → IsValid (count_of store + adds e) (run e (state origin log synced).now) → tree_of after ≡ ran e (tree_of store) → count_of after ≡ count_of store + adds e → IsTied origin after new false
  tied_kept after new e is suit valid tree count = record {
    reads =
        ap (λ (s : State). s.now.tree) (state_push origin log new synced e is) ∙ ran_run e (state origin log synced).now ∙ ap (ran e) tied.reads ∙ sym tree;
    valid = subst (λ (m : ℕ). IsValid m (state origin new false).now) (sym count) (subst (λ (s : State). IsValid (count_of store + adds e) s.now) (sym (state_push origin log new synced e is)) valid);
    past = past_kept;
    suit = subst (λ (l : List Call). all_suit (count_of origin) l ≡ true) (sym is)
        (suit_push (count_of origin) log (record { synced = synced; event = e }) tied.suit (ap (λ (m : ℕ). suits m e) tied.count ∙ suit));
    count = ap (nodes_after (count_of origin)) is ∙ after_push (count_of origin) log (record { synced = synced; event = e }) ∙ ap (λ (m : ℕ). m + adds e) tied.count ∙ sym count;
  }
    where
      past_kept : (i : ℕ) → IsValid (nodes_after (count_of origin) (take i new)) (replay (take i new) (start (tree_of origin))).now
      past_kept i = elim (cases_lt (length log) i) [
        | inl past ↦
            let all : take i new ≡ new = take_all i new (omega (arith, past, ap length is, length-append log (record { synced = synced; event = e } ∷ []))) in
            let count_now : nodes_after (count_of origin) new ≡ count_of store + adds e =
            ap (nodes_after (count_of origin)) is ∙ after_push (count_of origin) log (record { synced = synced; event = e }) ∙ ap (λ (m : ℕ). m + adds e) tied.count in
            subst (λ (l : List Call). IsValid (nodes_after (count_of origin) l) (replay l (start (tree_of origin))).now) (sym all)
            (subst (λ (m : ℕ). IsValid m (state origin new false).now) (sym count_now) (subst (λ (s : State). IsValid (count_of store + adds e) s.now) (sym (state_push origin log new synced e is)) valid))
        | inr before ↦
            let front : take i new ≡ take i log = ap (take i) is ∙ take-append-le i log (record { synced = synced; event = e } ∷ []) before in
            subst (λ (l : List Call). IsValid (nodes_after (count_of origin) l) (replay l (start (tree_of origin))).now) (sym front) (tied.past i)
      ]

  -- nothing was done
  pub tied_same : (after : Store) (new : List Call) → new ≡ log → tree_of after ≡ tree_of store → count_of after ≡ count_of store → IsTied origin after new synced
  tied_same after new is tree count = subst (λ (l : List Call). IsTied origin after l synced) (sym is) (record {
    reads = tied.reads ∙ sym tree;
    valid = subst (λ (m : ℕ). IsValid m (state origin log synced).now) (sym count) tied.valid;
    past = tied.past;
    suit = tied.suit;
    count = tied.count ∙ sym count;
  })

-- after a whole sync
pub tied_synced : (origin store : Store) (log : List Call) (synced : Bool) → IsTied origin store log synced → IsTied origin store log true
tied_synced origin store log false tied = record { reads = tied.reads; valid = valid_synced_all (count_of store) (state origin log false).now tied.valid; past = tied.past; suit = tied.suit; count = tied.count }
tied_synced origin store log true tied = tied

abbrev none_called : List Call
none_called = []

-- at first
pub tied_first : (origin store : Store) (log : List Call) → log ≡ [] → IsValid (count_of origin) (settled (tree_of origin)) → tree_of store ≡ tree_of origin → count_of store ≡ count_of origin → IsTied origin store log false
tied_first origin store log is valid tree count = subst (λ (l : List Call). IsTied origin store l false) (sym is) (record {
  reads = sym tree;
  valid = subst (λ (m : ℕ). IsValid m (settled (tree_of origin))) (sym count) valid;
  past = λ i. subst (λ (l : List Call). IsValid (nodes_after (count_of origin) l) (replay l (start (tree_of origin))).now) (sym (take_none i)) valid;
  suit = refl;
  count = sym count;
})
  where
    take_none : (i : ℕ) → take i none_called ≡ []
    take_none zero = refl
    take_none (suc i) = refl

pub state_first : (origin : Store) (log : List Call) → log ≡ [] → state origin log false ≡ start (tree_of origin)
state_first origin log is = ap (λ (l : List Call). state origin l false) is

-- the last call
pub last_call : (log items : List Call) (c x : Call) (i : ℕ) → items ≡ log ++ c ∷ [] → i ≡ length log → x ≡ get_or items i x → x ≡ c
last_call log items c x i is at read = read ∙ ap (λ (l : List Call). get_or l i x) is ∙ get_or_push log c x i (sym at)

take_front : (xs : List Call) (c : Call) → take (length xs) (xs ++ c ∷ []) ≡ xs
take_front [] c = refl
take_front (x ∷ xs) c = ap (λ l. x ∷ l) (take_front xs c)

pub popped : (log items new : List Call) (c : Call) (n : ℕ) → items ≡ log ++ c ∷ [] → n ≡ length items → new ≡ take (n - 1) items → new ≡ log
popped log items new c n is long cut =
    let count : n - 1 ≡ length log = omega (arith, long, ap length is, length-append log (c ∷ [])) in
    cut ∙ (λ i. take (count i) (is i)) ∙ take_front log c

pub pushed_at : (log items : List Call) (c : Call) (n : ℕ) → items ≡ log ++ c ∷ [] → n ≡ length items → n - 1 ≡ length log
pushed_at log items c n is long = omega (arith, long, ap length is, length-append log (c ∷ []))
