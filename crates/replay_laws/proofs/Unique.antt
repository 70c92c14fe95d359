-- A start is good for one end alone.
use Rattle.std.proofs.Common.{◌≡◌, ℕ, zero, suc, ◌<◌, ◌≤◌, Bool, true, false, cond, List, length, get_or, refl, sym, ◌∙◌, ap, inr, arith}
use Rattle.std.proofs.Math.Dec.{ltb}
use Rattle.std.proofs.lemmas.Bool.Decides.{nat_tests}
use Rattle.replay_laws.specs.Replay.{Act, leaves, effect, moved, Case, Replayed, UniqueLaw}
use Rattle.replay_laws.proofs.Walk.{replay_ends}

-- replay in which no value is free
abbrev redone : {C V : Type 0} → (ℕ → V → V) → List (C → Act C V) → (C → V) → (C → ℕ) → ℕ → C → V
redone raise ops start skips zero x = start x
redone raise ops start skips (suc k) x = cond (ltb k (skips x)) (redone raise ops start skips k x) (moved raise (effect (get_or ops k (λ _. leaves) x) (redone raise ops start skips k)) (redone raise ops start skips k x))

is_below : (k g : ℕ) → k < g → ltb k g ≡ true
is_below k g lt = grind (arith, nat_tests)

is_not_below : (k g : ℕ) → g ≤ k → ltb k g ≡ false
is_not_below k g le = grind (arith, nat_tests)

first_of_two : {V : Type 0} (t : Bool) (a b : V) → t ≡ true → cond t a b ≡ a
first_of_two t a b is = ap (λ u. cond u a b) is

second_of_two : {V : Type 0} (t : Bool) (a b : V) → t ≡ false → cond t a b ≡ b
second_of_two t a b is = ap (λ u. cond u a b) is

replays : {C V : Type 0} (c : Case C V) (k : ℕ) → Replayed c k (redone c.raise c.ops c.start c.skips k)
replays c zero = λ x. refl
replays {C} {V} c (suc k) = (
  redone c.raise c.ops c.start c.skips k,
  replays c k,
  record {
    skipped = λ x lt. first_of_two _ _ _ (is_below k (c.skips x) lt);
    done = λ x le. inr (second_of_two _ _ _ (is_not_below k (c.skips x) le));
  },
)

pub unique_law : {C V : Type 0} → UniqueLaw C V
unique_law c other laws good good_other x =
    let here = replay_ends c laws good (redone c.raise c.ops c.start c.skips (length c.ops)) (replays c (length c.ops)) x in
    let there = replay_ends (record { raise = c.raise; ops = c.ops; before = other; start = c.start; skips = c.skips }) laws good_other (redone c.raise c.ops c.start c.skips (length c.ops)) (replays (record { raise = c.raise; ops = c.ops; before = other; start = c.start; skips = c.skips }) (length c.ops)) x in
    sym here ∙ there
