-- Counts of several calls.
use Rattle.std.proofs.Common.{◌≡◌, ◌⊎◌, ⊎_elim, ◌≤◌, ◌+◌, ℕ, refl, ◌∙◌, arith}
use Rattle.tree_api.specs.Disk.{Disk}
use Rattle.tree_api.specs.Counts.{Counts}

-- before the first call
pub counts_same : (R : Type 0) → (R → ⊥) → (d : Disk) → Counts R 0 0 d d
counts_same R never d = record { faults = omega arith; cause = λ r. absurd (never r); looks = omega arith; few_looks = omega arith; syncs = omega arith; few_syncs = omega arith; checkpoints = refl }

-- one call after another, which is refused where one of them was
pub counts_then : (A B R : Type 0) (k l m n : ℕ) (d0 d1 d2 : Disk) → (R → A ⊎ B) → Counts A k m d0 d1 → Counts B l n d1 d2 → Counts R (k + l) (m + n) d0 d2
counts_then A B R k l m n d0 d1 d2 which one two = record {
  faults = omega (arith, one.faults, two.faults);
  cause = λ r. ⊎_elim (λ a. omega (arith, one.cause a, two.faults)) (λ b. omega (arith, two.cause b, one.faults)) (which r);
  looks = omega (arith, one.looks, two.looks);
  few_looks = omega (arith, one.few_looks, two.few_looks);
  syncs = omega (arith, one.syncs, two.syncs);
  few_syncs = omega (arith, one.few_syncs, two.few_syncs);
  checkpoints = two.checkpoints ∙ one.checkpoints;
}

-- more may be counted, and less may be refused
pub counts_wider : (A R : Type 0) (k l m n : ℕ) (d0 d1 : Disk) → (R → A) → k ≤ l → m ≤ n → Counts A k m d0 d1 → Counts R l n d0 d1
counts_wider A R k l m n d0 d1 which more_looks more_syncs is = record {
  faults = is.faults;
  cause = λ r. is.cause (which r);
  looks = is.looks;
  few_looks = omega (arith, is.few_looks, more_looks);
  syncs = is.syncs;
  few_syncs = omega (arith, is.few_syncs, more_syncs);
  checkpoints = is.checkpoints;
}

-- where no sync is counted
pub same_syncs : (R : Type 0) (k : ℕ) (d0 d1 : Disk) → Counts R k 0 d0 d1 → d1.syncs ≡ d0.syncs
same_syncs R k d0 d1 is = omega (arith, is.syncs, is.few_syncs)

pub same_looks : (R : Type 0) (m : ℕ) (d0 d1 : Disk) → Counts R 0 m d0 d1 → d1.looks ≡ d0.looks
same_looks R m d0 d1 is = omega (arith, is.looks, is.few_looks)
