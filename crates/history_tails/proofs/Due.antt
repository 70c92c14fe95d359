-- What waits is due behind a history that gets it.
use Rattle.std.proofs.Common.{◌≡◌, ℕ, zero, suc, ◌+◌, ◌-◌, ◌<◌, get_or, List, [], ◌∷◌, ◌++◌, drop, length, map, ◌∙◌, ap, arith, length-append, Ok}
use Rattle.std.proofs.lemmas.List.{get_or-append-add, length-map}
use Rattle.fs_model.specs.declared.op.Op.{Op}
use Rattle.txn_codec.specs.Reading.{decoded}
use Rattle.store_history.specs.History.{History, end_of, IsTxn}
use Rattle.store_turns.specs.declared.numbers.Queued.{Queued}
use Rattle.store_turns.specs.Waiting.{IsAt, AreDue}
use Rattle.history_tails.specs.Tails.{with_more}

-- the operations of each
abbrev pub waiting_ops : List Queued → List (List Op)
waiting_ops ws = map (λ q. q.txn.ops) ws

none_here : (q : Queued) (xs : List Queued) → ◌≡◌ {A = List Queued} [] (q ∷ xs) → ⊥
none_here q xs e = absurd (cc)

place_of : (ws : List Queued) (i : ℕ) (q : Queued) → IsAt ws i q → get_or (waiting_ops ws) i [] ≡ q.txn.ops
place_of [] zero q at = absurd (none_here q (drop 1 []) at)
place_of [] (suc i) q at = absurd (none_here q (drop (suc i + 1) []) at)
place_of (w ∷ ws) zero q at = ap (λ (x : Queued). x.txn.ops) (first w q ws (drop 1 (w ∷ ws)) at)
  where
    first : (a b : Queued) (xs ys : List Queued) → a ∷ xs ≡ b ∷ ys → a ≡ b
    first a b xs ys e = cc
place_of (w ∷ ws) (suc i) q at =
    let next : suc i + 1 ≡ suc (i + 1) = omega arith in
    place_of ws i q (at ∙ ap (λ (k : ℕ). q ∷ drop k (w ∷ ws)) next)

place_in : (ws : List Queued) (i : ℕ) (q : Queued) → IsAt ws i q → i < length ws
place_in [] zero q at = absurd (none_here q (drop 1 []) at)
place_in [] (suc i) q at = absurd (none_here q (drop (suc i + 1) []) at)
place_in (w ∷ ws) zero q at = omega arith
place_in (w ∷ ws) (suc i) q at =
    let next : suc i + 1 ≡ suc (i + 1) = omega arith in
    let rest : i < length ws = place_in ws i q (at ∙ ap (λ (k : ℕ). q ∷ drop k (w ∷ ws)) next) in
    omega (arith, rest)

pub due_more : (h : History) (n : ℕ) (ws : List Queued) → n ≡ end_of h → ((i : ℕ) (q : Queued) → IsAt ws i q → decoded q.payload ≡ Ok q.txn.ops)
    → AreDue (with_more h (waiting_ops ws)) n ws
due_more h n ws end spells = record {
  room = omega (arith, end, length-append h.txns (waiting_ops ws), length-map ws (λ (q : Queued). q.txn.ops));
  each = λ i q at. (spells i q at, is i q at);
}
  where
    is : (i : ℕ) (q : Queued) → IsAt ws i q → IsTxn (with_more h (waiting_ops ws)) (n + i + 1) q.txn.ops
    is i q at =
        let place : n + i + 1 - (h.base + 1) ≡ length h.txns + i = omega (arith, end) in
        ap (λ (k : ℕ). get_or (h.txns ++ waiting_ops ws) k []) place ∙ get_or-append-add h.txns (waiting_ops ws) i [] ∙ place_of ws i q at
