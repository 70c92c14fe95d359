-- The same with one number for each cell: how many ops have gone past it for good.
use Rattle.std.specs.Prelude.{◌≡◌, ◌⊎◌, ℕ, zero, suc, ◌<◌, ◌≤◌, length}
use Rattle.replay_laws.specs.Replay.{Act, leaves, sets, raises, copies, Case, Source, Raises, act, after, fold, effect, becomes, GoodStart}
use Rattle.replay_laws.specs.Settled.{Stands, Kept, Given}

abbrev pub IsCopy : {C V : Type 0} → Act C V → Type 0
IsCopy leaves = ⊥
IsCopy (sets v) = ⊥
IsCopy (raises n) = ⊥
IsCopy (copies source f) = Unit {0}

-- the op at j copies onto z, and has gone past it for good
abbrev pub Copied : {C V : Type 0} → Case C V → (C → ℕ) → ℕ → C → Type 0
Copied c passed j z = IsCopy (act c j z) × (j < passed z)

-- the cells, guards and numbers of a tree between the op at k and the one before it
pub record At {C V : Type 0} (c : Case C V) (k : ℕ) (cells : C → V) (guards passed : C → ℕ) : Type 0 where
  pub stands : (x : C) → Stands c (Copied c passed) (guards x) k x (cells x)
  pub kept : (x : C) → Kept c (Copied c passed) (guards x) x

-- what one op does with a guard: nothing, set it, or lose it with all that the cell held
pub record Guarded {C V : Type 0} (c : Case C V) (k old new : ℕ) (x : C) : Type 0 where
  pub is : (new ≡ old) ⊎ ((old ≤ k) × (new ≡ suc k) ⊎ (new ≤ old) × (old ≤ k) × ((v : V) × (effect (act c k x) (after c k) ≡ becomes v)))

-- the op at k, live or on replay
pub record Goes {C V : Type 0} (c : Case C V) (k : ℕ) (old new : C → V) (guards guards_now passed passed_now : C → ℕ) : Type 0 where
  pub given : (x : C) → Given c (Copied c passed) (guards x) k old x (new x)
  pub guarded : (x : C) → Guarded c k (guards x) (guards_now x) x
  pub further : (x : C) → passed x ≤ passed_now x
  -- a copy is for good once a guard leaves its op out
  pub for_good : (x : C) → (passed_now x ≤ passed x) ⊎ (passed_now x ≤ guards_now x)
  pub all_copied : (z y : C) → Source (act c k z) y → k < passed_now z

-- the op at k has not come to x, or has gone past it once what it copies from x is for good
abbrev pub Reached : {C V : Type 0} → Case C V → ℕ → (C → V) → (C → V) → (C → ℕ) → (C → ℕ) → (C → ℕ) → (C → ℕ) → C
    → Type 0
Reached {C} c k old new guards guards_now passed passed_now x =
    (new x ≡ old x) × (guards_now x ≡ guards x)
    ⊎ Given c (Copied c passed) (guards x) k old x (new x) × Guarded c k (guards x) (guards_now x) x × ((z : C) → Source (act c k z) x → k < passed_now z)

-- some moment within the op at k
pub record GoesPart {C V : Type 0} (c : Case C V) (k : ℕ) (old new : C → V) (guards guards_now passed passed_now : C → ℕ) : Type 0 where
  pub reached : (x : C) → Reached c k old new guards guards_now passed passed_now x
  pub further : (x : C) → passed x ≤ passed_now x
  pub for_good : (x : C) → (passed_now x ≤ passed x) ⊎ (passed_now x ≤ guards_now x)

pub record KeepsLaw (C V : Type 0) : Type 0 where
  -- what a crash may leave is a good start
  pub good : (c : Case C V) (passed : C → ℕ) → At c zero c.start c.skips passed → GoodStart c
  -- an op keeps it, live and on replay
  pub keeps : (c : Case C V) → Raises c.raise → (k : ℕ) → k < length c.ops
      → (old new : C → V) (guards guards_now passed passed_now : C → ℕ) → At c k old guards passed
      → Goes c k old new guards guards_now passed passed_now → At c (suc k) new guards_now passed_now
  -- and so does each moment within one
  pub keeps_within : (c : Case C V) → Raises c.raise → (k : ℕ) → k < length c.ops
      → (old new : C → V) (guards guards_now passed passed_now : C → ℕ) → At c k old guards passed
      → GoesPart c k old new guards guards_now passed passed_now → At c k new guards_now passed_now
  -- so it holds in the midst of a replay too, where a crash begins the next one at 0
  pub anew : (c : Case C V) (k : ℕ) (cells : C → V) (guards passed : C → ℕ) → At c k cells guards passed
      → At c zero cells guards passed
  -- past the last op the cells are those of the fold
  pub ends : (c : Case C V) (cells : C → V) (guards passed : C → ℕ) → At c (length c.ops) cells guards passed → (x : C)
      → cells x ≡ fold c.raise c.ops c.before x
