-- A drain of all that waits behind a history.
use Rattle.std.proofs.Common.{◌≡◌, ℕ, ◌+◌, ◌-◌, ◌<◌, ◌≤◌, ◌^◌, List, [], ◌∷◌, length, map, refl, sym, ◌∙◌, ap, subst, arith, Option, Some, None, length-append}
use Rattle.std.proofs.lemmas.List.{length-map}
use Rattle.fs_model.specs.declared.op.Op.{Op}
use Rattle.fs_model.specs.declared.op.Txn.{Txn}
use Rattle.fs_model.specs.Objects.{Objects}
use Rattle.fs_cells.specs.Standing.{AllAllowed}
use Rattle.built_ops.specs.Built.{CanDo}
use Rattle.tree_api.specs.Disk.{Disk as Files}
use Rattle.dev_api.specs.Disk.{Disk}
use Rattle.ring_journal.specs.State.{State}
use Rattle.store_files.specs.declared.reading.Identity.{Identity}
use Rattle.store_history.specs.History.{History, end_of, at}
use Rattle.store_history.specs.Pair.{PairsStand}
use Rattle.store_turns.specs.declared.numbers.Numbers.{Numbers}
use Rattle.store_turns.specs.declared.numbers.Queued.{Queued}
use Rattle.store_turns.specs.State.{Fits, Holding}
use Rattle.store_turns.specs.Waiting.{AllMeet, AreDue}
use Rattle.tree_places.specs.Images.{StoreImage, reads}
use Rattle.tree_places.proofs.Operations.{history_law}
use Rattle.store_queue.specs.Waiting.{AllSpelled, Waiting, txns_of}
use Rattle.history_tails.specs.Tails.{with_more, IsTailOf}
use Rattle.history_tails.proofs.Tails.{at_tail, tail_more, stands_tail}
use Rattle.history_tails.proofs.Waits.{waits_done}
use Rattle.history_tails.proofs.Due.{waiting_ops, due_more}
use Rattle.history_tails.proofs.Longer.{holding_more, meets}
use Rattle.file_store.specs.declared.fault.First.{First}
use Rattle.file_store.specs.Store.{Store, IsCounted, IsDrained, waiting_in, working}
use Rattle.file_store.specs.Holds.{Holds, Leaves, with_waiting}

by_txns : (ws : List Queued) → waiting_ops ws ≡ map (λ txn. txn.ops) (txns_of ws)
by_txns [] = refl
by_txns (w ∷ ws) = ap (λ (l : List (List Op)). w.txn.ops ∷ l) (by_txns ws)

module _ (s : Store) (ws : List Queued) (same : txns_of ws ≡ s.queue.txns) where
  pub ops_are : waiting_ops ws ≡ waiting_in s
  ops_are = by_txns ws ∙ ap (λ (l : List Txn). map (λ txn. txn.ops) l) same

  pub count_is : length ws ≡ length s.queue.txns
  count_is = sym (length-map ws (λ (q : Queued). q.txn)) ∙ ap length same

  -- the last number that is queued is what will be journalled
  pub last_is : IsCounted s → s.numbers.journalled + length ws ≡ s.queue.last
  last_is counted = omega (arith, counted.last, count_is)

  module _ (h : History) (t : Files) (d : Disk) (k : Holds h s t d) where
    long : History
    long = with_more k.long (waiting_in s)

    allowed : AllAllowed (at k.long (end_of k.long)) (waiting_in s)
    allowed =
        let there : at k.long (end_of k.long) ≡ at h (end_of h) =
        ap (at k.long) k.tail.end ∙ at_tail h k.long (end_of h) k.tail (omega arith) in
        subst (λ (O : Objects). AllAllowed O (waiting_in s)) (sym there) k.waits.allowed

    pub due : AllSpelled ws → AreDue (with_more k.long (waiting_in s)) s.numbers.journalled ws
    due spelled = subst (λ (l : List (List Op)). AreDue (with_more k.long l) s.numbers.journalled ws) ops_are
        (due_more k.long s.numbers.journalled ws (sym (k.tail.end ∙ k.end)) (λ i q is. (spelled i q is).1))

    pub on_long : t.may t.tree → AllMeet CanDo ws → s.numbers.journalled + length ws < 2 ^ 63
        → Holding (StoreImage s.identity) (reads s.identity.settings) s.identity.fsid (with_more k.long (waiting_in s)) s.numbers t s.ring d
    on_long sound can small =
        subst (λ (l : List (List Op)). Holding (StoreImage s.identity) (reads s.identity.settings) s.identity.fsid (with_more k.long l) s.numbers t s.ring d) ops_are
        (holding_more history_law.longer s.identity s.identity.fsid s.numbers t sound s.ring d k.long (waiting_ops ws)
        (subst (λ (l : List (List Op)). AllAllowed (at k.long (end_of k.long)) l) (sym ops_are) allowed) (meets ws can)
        (omega (arith, small, k.tail.end, k.end, length-map ws (λ (q : Queued). q.txn.ops))) k.on)

    tail : IsTailOf (with_waiting h s) (with_more k.long (waiting_in s))
    tail = tail_more h k.long (waiting_in s) k.tail

    pub leaves : (acked : ℕ) (u : Files) (e : Disk) → s.numbers.journalled ≤ acked
        → PairsStand (StoreImage s.identity) s.identity.fsid (with_more k.long (waiting_in s)) acked u.may e → Leaves (with_waiting h s) acked s u e
    leaves acked u e grows stand = λ x may c img so fresh.
        stands_tail (StoreImage s.identity) s.identity.fsid (with_waiting h s) (with_more k.long (waiting_in s)) acked x c tail (omega (arith, k.end, grows)) (stand x may c img so fresh)

    -- once all is done
    pub holds_after : (numbers : Numbers) (ring : State) (queue : Waiting) (u : Files) (e : Disk) → IsDrained s (working s.identity numbers ring queue)
        → s.numbers.journalled + length ws ≡ numbers.journalled
        → Holding (StoreImage s.identity) (reads s.identity.settings) s.identity.fsid (with_more k.long (waiting_in s)) numbers u ring e
        → Holds (with_waiting h s) (working s.identity numbers ring queue) u e
    holds_after numbers ring queue u e drained end on = subst (λ (q : Waiting). Holds (with_waiting h s) (working s.identity numbers ring q) u e) (sym drained.queue) (record {
      works = refl;
      long = with_more k.long (waiting_in s);
      tail = tail;
      end = omega (arith, end, k.end, count_is, length-append h.txns (waiting_in s), length-map s.queue.txns (λ (txn : Txn). txn.ops));
      on = on;
      waits = waits_done h (waiting_in s) s.queue.colls k.waits;
    })

-- the numbers once all is done
pub drained : (identity : Identity) (numbers new : Numbers) (ring to : State) (queue left : Waiting) (ws : List Queued) → IsCounted (working identity numbers ring queue)
    → txns_of ws ≡ queue.txns → new.journalled ≡ numbers.journalled + length ws → new.committed ≡ new.journalled → left ≡ record queue { txns = [] }
    → to.head.size ≡ ring.head.size → IsDrained (working identity numbers ring queue) (working identity new to left)
drained identity numbers new ring to queue left ws counted same number committed queue_is size =
    let last = last_is (working identity numbers ring queue) ws same counted in
    record {
      identity = refl;
      numbers = pair new queue.last (number ∙ last) (committed ∙ number ∙ last);
      queue = queue_is;
      works = refl;
      size = size;
    }
  where
    pair : (n : Numbers) (m : ℕ) → n.journalled ≡ m → n.committed ≡ m → n ≡ record { journalled = m; committed = m }
    pair n m one two = ap (λ (k : ℕ). let x : Numbers = record { journalled = k; committed = n.committed } in x) one
        ∙ ap (λ (k : ℕ). let x : Numbers = record { journalled = m; committed = k } in x) two

pub counted_after : (identity : Identity) (numbers new : Numbers) (ring to : State) (queue left : Waiting) → IsCounted (working identity numbers ring queue)
    → IsDrained (working identity numbers ring queue) (working identity new to left) → Fits new to → to.head.fsid ≡ ring.head.fsid → IsCounted (working identity new to left)
counted_after identity numbers new ring to queue left counted is fits fsid = record {
  fits = fits;
  fsid = fsid ∙ counted.fsid;
  last =
      let last : left.last ≡ queue.last = ap (λ (w : Waiting). w.last) is.queue in
      let none : length left.txns ≡ 0 = ap (λ (w : Waiting). length w.txns) is.queue in
      let journalled : new.journalled ≡ queue.last = ap (λ (n : Numbers). n.journalled) is.numbers in
      omega (arith, last, none, journalled);
  size = ap (λ (w : Waiting). w.size) is.queue ∙ counted.size ∙ ap (λ (n : ℕ). n - 8192) (sym is.size);
}

-- ---- of the store itself

abbrev store_at : Identity → Numbers → State → Waiting → Option First → Store
store_at identity numbers ring queue first = record { identity = identity; numbers = numbers; ring = ring; queue = queue; first = first }

pub not_some : {A : Type 0} (o : Option A) → ((x : A) → o ≡ Some x → ⊥) → o ≡ None
not_some None not = refl
not_some (Some x) not = absurd (not x refl)

module _ (s : Store) (identity : Identity) (numbers : Numbers) (ring : State) (queue : Waiting) (first : Option First) (none : first ≡ None) (is : store_at identity numbers ring queue first ≡ s) where
  works_as : working identity numbers ring queue ≡ s
  works_as = ap (λ (f : Option First). store_at identity numbers ring queue f) (sym none) ∙ is

  pub store_holds : (numbers2 : Numbers) (ring2 : State) (queue2 : Waiting) (h : History) (t u : Files) (d e : Disk) → Holds h s t d
      → (Holds h (working identity numbers ring queue) t d → Holds (with_waiting h (working identity numbers ring queue)) (working identity numbers2 ring2 queue2) u e)
      → Holds (with_waiting h s) (store_at identity numbers2 ring2 queue2 first) u e
  store_holds numbers2 ring2 queue2 h t u d e k run =
      subst (λ (x : Store). Holds (with_waiting h x) (store_at identity numbers2 ring2 queue2 first) u e) works_as
      (subst (λ (f : Option First). Holds (with_waiting h (working identity numbers ring queue)) (store_at identity numbers2 ring2 queue2 f) u e) (sym none)
      (run (subst (λ (x : Store). Holds h x t d) (sym works_as) k)))

  pub store_leaves : (acked : ℕ) (h : History) (t u : Files) (d e : Disk) → Holds h s t d
      → (Holds h (working identity numbers ring queue) t d → Leaves (with_waiting h (working identity numbers ring queue)) acked (working identity numbers ring queue) u e)
      → Leaves (with_waiting h s) acked s u e
  store_leaves acked h t u d e k run =
      subst (λ (x : Store). Leaves (with_waiting h x) acked x u e) works_as (run (subst (λ (x : Store). Holds h x t d) (sym works_as) k))
