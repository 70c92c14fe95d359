-- The operations of a list of transactions, one after the other.
use Rattle.std.proofs.Common.{◌≡◌, ◌⊎◌, inl, inr, ℕ, zero, suc, ◌+◌, ◌-◌, ◌<◌, ◌≤◌, List, [], ◌∷◌, ◌++◌, length, take, drop, get_or, refl, sym, ◌∙◌, ap, subst, arith, length-append}
use Rattle.std.proofs.Math.Nat.{zero-add}
use Rattle.std.proofs.Math.Seq.{take-add, get_or-append_right}
use Rattle.std.proofs.lemmas.List.{get_or_append_left, get_or-append-add, drop-take, length-drop, length-take, length-take-le}
use Rattle.std.proofs.Math.ListN.{drop_of_length-le}
use Rattle.replay_laws.specs.Replay.{Act}
use Rattle.replay_laws.proofs.Walk.{sooner_or_not}
use Rattle.slot_laws.specs.History.{Txn, txn, idle_op, flat, count}
use Rattle.slot_laws.specs.Slots.{above}

module _ {C V : Type 0} where
  pub flat_append : (first rest : List (Txn C V)) → flat (first ++ rest) ≡ flat first ++ flat rest
  flat_append [] rest = refl
  flat_append (a ∷ first) rest = ap (λ l. a.ops ++ l) (flat_append first rest) ∙ sym (append_three a.ops (flat first) (flat rest))
    where
      append_three : (xs ys zs : List (C → Act C V)) → (xs ++ ys) ++ zs ≡ xs ++ (ys ++ zs)
      append_three [] ys zs = refl
      append_three (x ∷ xs) ys zs = ap (λ l. x ∷ l) (append_three xs ys zs)

  pub count_next : (t : Txn C V) (ts : List (Txn C V)) (i : ℕ) → count (t ∷ ts) (suc i) ≡ length t.ops + count ts i
  count_next t ts i = length-append t.ops (flat (take i ts))

  pub count_grows : (ts : List (Txn C V)) (i k : ℕ) → i ≤ k → count ts i ≤ count ts k
  count_grows [] zero zero le = omega arith
  count_grows [] zero (suc k) le = omega arith
  count_grows [] (suc i) zero le = omega arith
  count_grows [] (suc i) (suc k) le = omega arith
  count_grows (t ∷ ts) zero k le = omega arith
  count_grows (t ∷ ts) (suc i) zero le = absurd (omega arith)
  count_grows (t ∷ ts) (suc i) (suc k) le =
      let rest : count ts i ≤ count ts k = count_grows ts i k (omega arith) in
      omega (arith, count_next t ts i, count_next t ts k)

  pub count_more : (ts : List (Txn C V)) (i : ℕ) → count ts (suc i) ≡ count ts i + length (txn ts i).ops
  count_more [] zero = omega arith
  count_more [] (suc i) = omega arith
  count_more (t ∷ ts) zero = length-append t.ops [] ∙ omega arith
  count_more (t ∷ ts) (suc i) =
      let rest : count ts (suc i) ≡ count ts i + length (txn ts i).ops = count_more ts i in
      omega (arith, count_next t ts (suc i), count_next t ts i)

  -- an operation of a transaction among the first n
  pub op_at : (ts : List (Txn C V)) (i n k : ℕ) → i < n → k < length (txn ts i).ops → get_or (flat (take n ts)) (count ts i + k) idle_op ≡ get_or (txn ts i).ops k idle_op
  op_at [] i n k lt op = absurd (none i op)
    where
      none : (i : ℕ) → k < length (txn {C = C} {V = V} [] i).ops → ⊥
      none zero op = omega arith
      none (suc i) op = omega arith
  op_at (t ∷ ts) i zero k lt op = absurd (omega arith)
  op_at (t ∷ ts) zero (suc n) k lt op = ap (λ j. get_or (t.ops ++ flat (take n ts)) j idle_op) (zero-add k) ∙ get_or_append_left t.ops (flat (take n ts)) idle_op k op
  op_at (t ∷ ts) (suc i) (suc n) k lt op =
      let same : count (t ∷ ts) (suc i) + k ≡ length t.ops + (count ts i + k) = omega (arith, count_next t ts i) in
      ap (λ j. get_or (t.ops ++ flat (take n ts)) j idle_op) same ∙ get_or-append-add t.ops (flat (take n ts)) (count ts i + k) idle_op ∙ op_at ts i n k (omega arith) op

  -- what each operation of the transactions from i up to n has
  pub each_between : (P : (C → Act C V) → Type 0) → P idle_op → (ts : List (Txn C V)) (i n : ℕ) → ((m k : ℕ) → i ≤ m → m < n → P (get_or (txn ts m).ops k idle_op)) → (t : ℕ) → count ts i ≤ t → P (get_or (flat (take n ts)) t idle_op)
  each_between P idle [] i zero each t from = idle
  each_between P idle [] i (suc n) each t from = idle
  each_between P idle (a ∷ ts) i zero each t from = idle
  each_between P idle (a ∷ ts) zero (suc n) each t from = by (sooner_or_not t (length a.ops)) (λ s. each_between P idle ts zero n (λ m k le lt. each (suc m) k (omega arith) (omega arith)) s (omega arith))
    where
      by : (t < length a.ops) ⊎ (length a.ops ≤ t) → ((s : ℕ) → P (get_or (flat (take n ts)) s idle_op)) → P (get_or (a.ops ++ flat (take n ts)) t idle_op)
      by (inl first) rest = subst P (sym (get_or_append_left a.ops (flat (take n ts)) idle_op t first)) (each zero t (omega arith) (omega arith))
      by (inr later) rest = subst P (sym (get_or-append_right a.ops (flat (take n ts)) t idle_op later)) (rest (t - length a.ops))
  each_between P idle (a ∷ ts) (suc i) (suc n) each t from =
      let later : length a.ops ≤ t = omega (arith, count_next a ts i) in
      subst P (sym (get_or-append_right a.ops (flat (take n ts)) t idle_op later)) (each_between P idle ts i n (λ m k le lt. each (suc m) k (omega arith) (omega arith)) (t - length a.ops) (omega (arith, count_next a ts i)))

  -- more transactions
  pub flat_more : (ts : List (Txn C V)) (n m : ℕ) → n ≤ m → flat (take m ts) ≡ flat (take n ts) ++ flat (take (m - n) (drop n ts))
  flat_more ts n m le =
      let sum : m ≡ n + (m - n) = omega arith in
      ap (λ k. flat (take k ts)) sum ∙ ap flat (take-add n (m - n) ts) ∙ flat_append (take n ts) (take (m - n) (drop n ts))

  drop_front : (xs ys : List (C → Act C V)) → drop (length xs) (xs ++ ys) ≡ ys
  drop_front [] ys = refl
  drop_front (x ∷ xs) ys = drop_front xs ys

  drop_twice : (a b : ℕ) (ts : List (Txn C V)) → drop b (drop a ts) ≡ drop (a + b) ts
  drop_twice zero b ts = ap (λ k. drop k ts) (sym (zero-add b))
  drop_twice (suc a) b [] = drop_none b ∙ sym (drop_none (suc a + b))
    where
      drop_none : (n : ℕ) → drop n (let none : List (Txn C V) = [] in none) ≡ []
      drop_none zero = refl
      drop_none (suc n) = refl
  drop_twice (suc a) b (t ∷ ts) =
      let same : suc a + b ≡ suc (a + b) = omega arith in
      drop_twice a b ts ∙ sym (ap (λ k. drop k (t ∷ ts)) same)

  -- the operations that a journal holds above n
  pub above_is : (ts : List (Txn C V)) (p n end : ℕ) → p ≤ n → n ≤ end → drop (count ts n) (flat (take end ts)) ≡ flat (above ts p n end)
  above_is ts p n end low high =
      ap (drop (count ts n)) (flat_more ts n end high) ∙ drop_front (flat (take n ts)) (flat (take (end - n) (drop n ts))) ∙ ap flat (sym held)
    where
      held : above ts p n end ≡ take (end - n) (drop n ts)
      held =
          let sum : end - p ≡ (n - p) + (end - n) = omega arith in
          let two : p + (n - p) ≡ n = omega arith in
          ap (λ k. drop (n - p) (take k (drop p ts))) sum ∙ drop-take (n - p) (end - n) (drop p ts) ∙ ap (take (end - n)) (drop_twice p (n - p) ts ∙ ap (λ k. drop k ts) two)

  pub above_length : (ts : List (Txn C V)) (p n end : ℕ) → p ≤ n → n ≤ end → end ≤ length ts → n + length (above ts p n end) ≡ end
  above_length ts p n end low high to =
      omega (arith, length-drop (n - p) (take (end - p) (drop p ts)), length-take-le (end - p) (drop p ts) (omega (arith, length-drop p ts)))

  pub above_none : (ts : List (Txn C V)) (p n end : ℕ) → end ≤ n → above ts p n end ≡ []
  above_none ts p n end le = drop_of_length-le (take (end - p) (drop p ts)) (omega (arith, length-take (end - p) (drop p ts)))
