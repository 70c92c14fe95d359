-- Guards stand for positions, and positions for places.
use Rattle.std.proofs.Common.{◌≡◌, ◌⊎◌, inl, inr, ℕ, zero, suc, ◌+◌, ◌-◌, ◌<◌, Bool, true, false, not, ◌||◌, ◌&&◌, List, length, ◌∙◌, ap, subst, arith}
use Rattle.replay_laws.proofs.Walk.{same_or_later}
use Rattle.slot_laws.specs.History.{Txn, txn, count}
use Rattle.slot_laws.specs.Positions.{left_out, Earlier, is_there, PositionsLaw}
use Rattle.slot_laws.proofs.Flat.{count_grows, count_more}

three : (i j : ℕ) → (i ≡ j) ⊎ ((i < j) ⊎ (j < i))
three i j = grind arith

module _ {C V : Type 0} (ts : List (Txn C V)) where
  earlier_less : (i k j l : ℕ) → k < length (txn ts i).ops → Earlier i k j l → count ts i + k < count ts j + l
  earlier_less i k j l op (inl lt) = omega (arith, count_more ts i, count_grows ts (suc i) j lt)
  earlier_less i k j l op (inr (same, lt)) =
      let is : count ts i ≡ count ts j = ap (count ts) same in
      omega arith

  less_earlier : (i k j l : ℕ) → k < length (txn ts i).ops → l < length (txn ts j).ops → count ts i + k < count ts j + l → Earlier i k j l
  less_earlier i k j l op other lt = by (three i j)
    where
      by : (i ≡ j) ⊎ ((i < j) ⊎ (j < i)) → Earlier i k j l
      by (inl same) =
          let is : count ts i ≡ count ts j = ap (count ts) same in
          inr (same, omega arith)
      by (inr (inl before)) = inl before
      by (inr (inr later)) =
          let back : count ts j + l < count ts i + k = earlier_less j l i k other (inl later) in
          absurd (omega arith)

  none_left : (i k n : ℕ) → i < n → k < length (txn ts i).ops → left_out ts i k - count ts n ≡ 0
  none_left i k n lt op = omega (arith, count_more ts i, count_grows ts (suc i) n lt)

both_no : (a b c : Bool) → a ≡ false → c ≡ false → (a || (not b && c)) ≡ false
both_no a true c one two = ap (λ x. x || false) one
both_no a false c one two = ap (λ x. x || c) one ∙ two

dropped : (a b c : Bool) → a ≡ false → b ≡ true → (a || (not b && c)) ≡ false
dropped a b c one two = ap (λ x. x || (not b && c)) one ∙ ap (λ x. not x && c) two

not_there : (makes drops : ℕ → Bool) (first : Bool) (r t : ℕ) → r < t → drops r ≡ true → makes r ≡ false → ((m : ℕ) → r < m → m < t → makes m ≡ false) → is_there makes drops first t ≡ false
not_there makes drops first r zero lt gone isnt none = absurd (omega arith)
not_there makes drops first r (suc t) lt gone isnt none = by (same_or_later r t (omega arith)) (λ later. not_there makes drops first r t later gone isnt (λ m from to. none m from (omega arith)))
  where
    by : (r ≡ t) ⊎ (r < t) → (r < t → is_there makes drops first t ≡ false) → is_there makes drops first (suc t) ≡ false
    by (inl same) rest = dropped (makes t) (drops t) (is_there makes drops first t) (subst (λ i. makes i ≡ false) same isnt) (subst (λ i. drops i ≡ true) same gone)
    by (inr later) rest = both_no (makes t) (drops t) (is_there makes drops first t) (none t later (omega arith)) (rest later)

pub positions_law : {C V : Type 0} → PositionsLaw C V
positions_law = record {
  order = λ ts i k j l op other. (less_earlier ts i k j l op other, earlier_less ts i k j l op);
  committed = λ ts i k n lt op. none_left ts i k n lt op;
  missing = λ makes drops first r t lt gone isnt none. not_there makes drops first r t lt gone isnt none;
}
