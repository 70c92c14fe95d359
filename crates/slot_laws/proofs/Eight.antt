-- Eight transactions that are open at once.
use Rattle.std.proofs.Common.{◌≡◌, ℕ, zero, suc, ◌<◌, refl, sym, subst, arith}
use Rattle.std.proofs.lemmas.Bool.Decides.{nat_tests}
use Rattle.slot_laws.specs.History.{Txn, txn, Apart, IsOpen}
use Rattle.slot_laws.specs.Eight.{small_txn, eight, EightOpen}

apart : (i j : ℕ) → i < j → Apart (small_txn i) (small_txn j)
apart i j lt x = grind (arith, nat_tests)

behind : (i j : ℕ) → i < j → Apart (small_txn j) (small_txn i)
behind i j lt x = grind (arith, nat_tests)

is_small : (i : ℕ) → i < 8 → txn eight i ≡ small_txn i
is_small zero lt = refl
is_small (suc zero) lt = refl
is_small (suc (suc zero)) lt = refl
is_small (suc (suc (suc zero))) lt = refl
is_small (suc (suc (suc (suc zero)))) lt = refl
is_small (suc (suc (suc (suc (suc zero))))) lt = refl
is_small (suc (suc (suc (suc (suc (suc zero)))))) lt = refl
is_small (suc (suc (suc (suc (suc (suc (suc zero))))))) lt = refl
is_small (suc (suc (suc (suc (suc (suc (suc (suc i)))))))) lt = absurd (omega arith)

open_at : (i : ℕ) → i < 8 → IsOpen eight 8 (record { index = i; next = 0 })
open_at i lt = record {
  begun = lt;
  within = omega arith;
  alone = λ j later to. subst (λ (t : Txn ℕ ℕ). Apart (txn eight i) t) (sym (is_small j to)) (subst (λ (t : Txn ℕ ℕ). Apart t (small_txn j)) (sym (is_small i lt)) (apart i j later));
}

pub eight_open : EightOpen
eight_open = (open_at 0 (omega arith), (behind 0 1 (omega arith), (behind 0 2 (omega arith), (behind 0 3 (omega arith), (behind 0 4 (omega arith), (behind 0 5 (omega arith), (behind 0 6 (omega arith), (behind 0 7 (omega arith), tt))))))), (open_at 1 (omega arith), (behind 1 2 (omega arith), (behind 1 3 (omega arith), (behind 1 4 (omega arith), (behind 1 5 (omega arith), (behind 1 6 (omega arith), (behind 1 7 (omega arith), tt)))))), (open_at 2 (omega arith), (behind 2 3 (omega arith), (behind 2 4 (omega arith), (behind 2 5 (omega arith), (behind 2 6 (omega arith), (behind 2 7 (omega arith), tt))))), (open_at 3 (omega arith), (behind 3 4 (omega arith), (behind 3 5 (omega arith), (behind 3 6 (omega arith), (behind 3 7 (omega arith), tt)))), (open_at 4 (omega arith), (behind 4 5 (omega arith), (behind 4 6 (omega arith), (behind 4 7 (omega arith), tt))), (open_at 5 (omega arith), (behind 5 6 (omega arith), (behind 5 7 (omega arith), tt)), (open_at 6 (omega arith), (behind 6 7 (omega arith), tt), (open_at 7 (omega arith), tt, tt))))))))
