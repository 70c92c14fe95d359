-- What a tree's counts say, by the trait's words.
use Rattle.std.proofs.Common.{◌≡◌, ◌<◌, ◌^◌, Bool, true, false, sym, refl, subst, arith, Result, Ok, Err, IsErrOf}
use Rattle.std.proofs.lemmas.Bool.{false≢true}
use Rattle.tree_api.specs.Counts.{Counts as TreeCounts}
use Rattle.tree_api.specs.declared.tree.TreeError.{TreeError}
use Rattle.tree_api.specs.declared.tree.TreeError.TheVariants.{Memory, Refused}
use Rattle.tree_real.specs.Counts.{Counts, was_refused, counted, looked, synced, untold}

quiet_after : {T : Type 0} (old : Counts) (result : Result T TreeError) → old.faults < 2 ^ 64
    → TreeCounts (IsErrOf result Refused) 0 0 (untold old) (untold (counted old (was_refused result)))
quiet_after old (Ok x) few = record {
  faults = omega arith;
  cause = λ h. grind (arith, h);
  looks = omega arith;
  few_looks = omega arith;
  syncs = omega arith;
  few_syncs = omega arith;
  checkpoints = refl;
}
quiet_after old (Err Memory) few = record {
  faults = omega arith;
  cause = λ h. grind (arith, h);
  looks = omega arith;
  few_looks = omega arith;
  syncs = omega arith;
  few_syncs = omega arith;
  checkpoints = refl;
}
quiet_after old (Err Refused) few = record {
  faults = omega (arith, few);
  cause = λ h. omega arith;
  looks = omega arith;
  few_looks = omega arith;
  syncs = omega arith;
  few_syncs = omega arith;
  checkpoints = refl;
}

pub quiet-now : {T : Type 0} (old new : Counts) (result : Result T TreeError) → old.faults < 2 ^ 64
    → new ≡ counted old (was_refused result) → TreeCounts (IsErrOf result Refused) 0 0 (untold old) (untold new)
quiet-now old new result few is = subst (λ n. TreeCounts (IsErrOf result Refused) 0 0 (untold old) (untold n)) (sym is) (quiet_after old result few)

looked_after : {T : Type 0} (old : Counts) (result : Result T TreeError) → old.faults < 2 ^ 64 → old.looks < 2 ^ 64
    → TreeCounts (IsErrOf result Refused) 1 0 (untold old) (untold (looked old (was_refused result)))
looked_after old result few rare =
    let q = quiet_after old result few in
    record {
      faults = q.faults;
      cause = q.cause;
      looks = omega (arith, rare);
      few_looks = omega arith;
      syncs = omega arith;
      few_syncs = omega arith;
      checkpoints = refl;
    }

pub looked-now : {T : Type 0} (old new : Counts) (result : Result T TreeError) → old.faults < 2 ^ 64 → old.looks < 2 ^ 64
    → new ≡ looked old (was_refused result) → TreeCounts (IsErrOf result Refused) 1 0 (untold old) (untold new)
looked-now old new result few rare is = subst (λ n. TreeCounts (IsErrOf result Refused) 1 0 (untold old) (untold n)) (sym is) (looked_after old result few rare)

synced_after : (old : Counts) (refused : Bool) → old.faults < 2 ^ 64 → old.syncs < 2 ^ 64 → TreeCounts (refused ≡ true) 0 1 (untold old) (untold (synced old refused))
synced_after old false few rare = record {
  faults = omega arith;
  cause = λ h. absurd (false≢true h);
  looks = omega arith;
  few_looks = omega arith;
  syncs = omega (arith, rare);
  few_syncs = omega arith;
  checkpoints = refl;
}
synced_after old true few rare = record {
  faults = omega (arith, few);
  cause = λ h. omega arith;
  looks = omega arith;
  few_looks = omega arith;
  syncs = omega (arith, rare);
  few_syncs = omega arith;
  checkpoints = refl;
}

pub synced-now : (old new : Counts) (refused : Bool) → old.faults < 2 ^ 64 → old.syncs < 2 ^ 64
    → new ≡ synced old refused → TreeCounts (refused ≡ true) 0 1 (untold old) (untold new)
synced-now old new refused few rare is = subst (λ n. TreeCounts (refused ≡ true) 0 1 (untold old) (untold n)) (sym is) (synced_after old refused few rare)

pub ruleset rules = (quiet-now, looked-now)
