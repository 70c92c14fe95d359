-- The same where each cell has a place of its own: how many ops have gone past it. Ops of several transactions are then
-- done in turn, each transaction's in order.
use Rattle.std.specs.Prelude.{◌≡◌, ◌⊎◌, ℕ, suc, ◌-◌, ◌<◌, ◌≤◌, Bool, cond, List, ◌++◌, length, drop}
use Rattle.replay_laws.specs.Replay.{Act, sets, stays, Case, Source, Raises, act, after, effect, moved, GoodStart}
use Rattle.replay_laws.specs.Settled.{Doomed, Stands, Kept, Given}
use Rattle.replay_laws.specs.Keeps.{Copied, Guarded}

-- the cells, guards and numbers of a tree, where the ops before its place have gone past each cell
pub record AtEach {C V : Type 0} (c : Case C V) (place : C → ℕ) (cells : C → V) (guards passed : C → ℕ) : Type 0 where
  pub stands : (x : C) → Stands c (Copied c passed) (guards x) (place x) x (cells x)
  pub kept : (x : C) → Kept c (Copied c passed) (guards x) x

-- no op from i up to k changes x
abbrev pub Still : {C V : Type 0} → Case C V → ℕ → ℕ → C → Type 0
Still c i k x = (t : ℕ) → i ≤ t → t < k → effect (act c t x) (after c t) ≡ stays

-- the op at j goes past x, or leaves x as it is
abbrev pub Turned : {C V : Type 0} → Case C V → ℕ → (C → V) → (C → V) → (C → ℕ) → (C → ℕ) → (C → ℕ) → (C → ℕ) → (C → ℕ)
    → C → Type 0
Turned c j old new guards guards_now passed place place_now x =
    (place x ≡ j) × (place_now x ≡ suc j) × Given c (Copied c passed) (guards x) j old x (new x) × Guarded c j (guards x) (guards_now x) x
    ⊎ (place_now x ≡ place x) × (new x ≡ old x) × (guards_now x ≡ guards x)

-- the op at j is done, live or on replay, while other transactions are open
pub record GoesOne {C V : Type 0} (c : Case C V) (j : ℕ) (old new : C → V) (guards guards_now passed passed_now place place_now : C → ℕ) : Type 0 where
  pub each : (x : C) → Turned c j old new guards guards_now passed place place_now x
  -- what it reads is no further than it, and no op between changes that
  pub reads : (z y : C) → Source (act c j z) y → (place y ≤ j) × Still c (place y) j y
  pub further : (x : C) → passed x ≤ passed_now x
  -- a copy is for good once a guard leaves its op out
  pub for_good : (x : C) → (passed_now x ≤ passed x) ⊎ (passed_now x ≤ guards_now x)
  pub all_copied : (z y : C) → Source (act c j z) y → j < passed_now z

-- at some moment within the op at j: it has not come to x, or has gone past it once what it copies from x is for good
abbrev pub ReachedOne : {C V : Type 0} → Case C V → ℕ → (C → V) → (C → V) → (C → ℕ) → (C → ℕ) → (C → ℕ) → (C → ℕ)
    → (C → ℕ) → C → Type 0
ReachedOne {C} c j old new guards guards_now passed passed_now place x =
    (new x ≡ old x) × (guards_now x ≡ guards x)
    ⊎ (place x ≡ j) × Given c (Copied c passed) (guards x) j old x (new x) × Guarded c j (guards x) (guards_now x) x × ((z : C) → Source (act c j z) x → j < passed_now z)

pub record GoesPartOne {C V : Type 0} (c : Case C V) (j : ℕ) (old new : C → V) (guards guards_now passed passed_now place : C → ℕ) : Type 0 where
  pub each : (x : C) → ReachedOne c j old new guards guards_now passed passed_now place x
  pub reads : (z y : C) → Source (act c j z) y → (place y ≤ j) × Still c (place y) j y
  pub further : (x : C) → passed x ≤ passed_now x
  pub for_good : (x : C) → (passed_now x ≤ passed x) ⊎ (passed_now x ≤ guards_now x)

-- the ops from i up to k leave x, and what they copy from it is for good
pub record Passed {C V : Type 0} (c : Case C V) (passed : C → ℕ) (i k : ℕ) (x : C) : Type 0 where
  pub from : i ≤ k
  pub to : k ≤ length c.ops
  pub still : Still c i k x
  pub copied : (t : ℕ) (z : C) → i ≤ t → t < k → Source (act c t z) x → t < passed z

-- more ops at the end
abbrev pub with_more : {C V : Type 0} → Case C V → List (C → Act C V) → Case C V
with_more c more = record { raise = c.raise; ops = c.ops ++ more; before = c.before; start = c.start; skips = c.skips }

-- what replay goes through where the first d ops are taken away
abbrev pub from_there : {C V : Type 0} → Case C V → ℕ → (C → V) → (C → ℕ) → Case C V
from_there c d cells guards = record { raise = c.raise; ops = drop d c.ops; before = after c d; start = cells; skips = λ x. guards x - d }

-- each cell has just what the ops before its place gave it, as where the store never crashed
abbrev pub Exact : {C V : Type 0} → Case C V → (C → ℕ) → (C → V) → Type 0
Exact c place cells = (x : _) → cells x ≡ after c (place x) x

-- the op at j does what it says to each cell that it goes past
abbrev pub DoneOne : {C V : Type 0} → Case C V → ℕ → (C → V) → (C → V) → (C → ℕ) → (C → ℕ) → C → Type 0
DoneOne c j old new place place_now x = (place x ≡ j) × (place_now x ≡ suc j) × (new x ≡ moved c.raise (effect (act c j x) old) (old x)) ⊎ (place_now x ≡ place x) × (new x ≡ old x)

pub record PlacesLaw (C V : Type 0) : Type 0 where
  -- one op of one transaction keeps it
  pub keeps : (c : Case C V) → Raises c.raise → (j : ℕ) → j < length c.ops
      → (old new : C → V) (guards guards_now passed passed_now place place_now : C → ℕ)
      → AtEach c place old guards passed → GoesOne c j old new guards guards_now passed passed_now place place_now
      → AtEach c place_now new guards_now passed_now
  -- and so does each moment within one
  pub keeps_within : (c : Case C V) → Raises c.raise → (j : ℕ) → j < length c.ops
      → (old new : C → V) (guards guards_now passed passed_now place : C → ℕ) → AtEach c place old guards passed
      → GoesPartOne c j old new guards guards_now passed passed_now place → AtEach c place new guards_now passed_now
  -- a cell's place may go on past ops that leave it, as where a transaction starts or ends
  pub idles : (c : Case C V) (place place_now : C → ℕ) (cells : C → V) (guards passed : C → ℕ)
      → AtEach c place cells guards passed → ((x : C) → Passed c passed (place x) (place_now x) x)
      → AtEach c place_now cells guards passed
  -- and may go back
  pub back : (c : Case C V) (place place_now : C → ℕ) (cells : C → V) (guards passed : C → ℕ)
      → AtEach c place cells guards passed → ((x : C) → place_now x ≤ place x) → AtEach c place_now cells guards passed
  -- more ops may come
  pub more : (c : Case C V) (ops : List (C → Act C V)) (place : C → ℕ) (cells : C → V) (guards passed : C → ℕ)
      → ((x : C) → passed x ≤ length c.ops) → AtEach c place cells guards passed
      → AtEach (with_more c ops) place cells guards passed
  -- copies are for good once their guards stand
  pub settles : (c : Case C V) (place : C → ℕ) (cells : C → V) (guards passed passed_now : C → ℕ)
      → AtEach c place cells guards passed → ((x : C) → passed x ≤ passed_now x)
      → ((x : C) → (passed_now x ≤ passed x) ⊎ (passed_now x ≤ guards x)) → AtEach c place cells guards passed_now
  -- a tree with each cell and its guard out of one of two
  pub mixes : (c : Case C V) (place place_other : C → ℕ) (cells other mix : C → V) (guards guards_other guards_mix passed : C → ℕ)
      → AtEach c place cells guards passed → AtEach c place_other other guards_other passed
      → ((x : C) → (mix x ≡ cells x) × (guards_mix x ≡ guards x) ⊎ (mix x ≡ other x) × (guards_mix x ≡ guards_other x) × (place x ≤ place_other x))
      → AtEach c place mix guards_mix passed
  -- cells of two sides, neither of which is copied from the other, may each have a moment of its own
  pub sides : (c : Case C V) (side : C → Bool) → ((j : ℕ) (z x : C) → Source (act c j z) x → side z ≡ side x)
      → (place place_other : C → ℕ) (cells other : C → V) (guards guards_other passed passed_other : C → ℕ)
      → AtEach c place cells guards passed → AtEach c place_other other guards_other passed_other
      → AtEach c (λ x. cond (side x) (place_other x) (place x)) (λ x. cond (side x) (other x) (cells x)) (λ x. cond (side x) (guards_other x) (guards x)) (λ x. cond (side x) (passed_other x) (passed x))
  -- a guard may rise to any count up to the cell's place
  pub raised : (c : Case C V) (place : C → ℕ) (cells : C → V) (guards guards_now passed : C → ℕ)
      → AtEach c place cells guards passed
      → ((x : C) → (guards_now x ≡ guards x) ⊎ (guards x ≤ guards_now x) × (guards_now x ≤ place x))
      → AtEach c place cells guards_now passed
  -- a guard that stands for the removal of a cell's collection may be lost, as where replay makes that collection again
  pub lowers : (c : Case C V) (place : C → ℕ) (cells : C → V) (guards guards_now passed : C → ℕ)
      → AtEach c place cells guards passed
      → ((x : C) → (guards_now x ≡ guards x) ⊎ ((r : ℕ) × (suc r ≡ guards x) × (guards_now x ≤ r) × (r < length c.ops) × ((v : V) × (act c r x ≡ sets v))))
      → AtEach c place cells guards_now passed
  -- a cell that a later op renews, with what is copied from it until then for good, may hold anything
  pub anything : (c : Case C V) (place : C → ℕ) (cells new : C → V) (guards passed : C → ℕ)
      → AtEach c place cells guards passed
      → ((x : C) → (new x ≡ cells x) ⊎ Doomed c (Copied c passed) (guards x) (place x) x)
      → AtEach c place new guards passed
  -- where all cells are past the first d ops, these may be forgotten
  pub rebase : (c : Case C V) (d : ℕ) (cells : C → V) (guards passed : C → ℕ) → d ≤ length c.ops
      → AtEach c (λ x. d) cells guards passed
      → AtEach (from_there c d cells guards) (λ x. 0) cells (λ x. guards x - d) (λ x. passed x - d)
  -- what a case says of its own start plays no part
  pub restarts : (c : Case C V) (start : C → V) (skips place : C → ℕ) (cells : C → V) (guards passed : C → ℕ)
      → AtEach c place cells guards passed
      → AtEach (record { raise = c.raise; ops = c.ops; before = c.before; start = start; skips = skips }) place cells guards passed
  -- and the others begin with a good start
  pub good : (c : Case C V) (d : ℕ) (cells : C → V) (guards passed : C → ℕ) → d ≤ length c.ops
      → AtEach c (λ x. d) cells guards passed → GoodStart (from_there c d cells guards)
  -- live, each cell has what the ops before its place gave it
  pub exact : (c : Case C V) (j : ℕ) (old new : C → V) (place place_now : C → ℕ) → Exact c place old
      → ((x : C) → DoneOne c j old new place place_now x)
      → ((z y : C) → Source (act c j z) y → (place y ≤ j) × Still c (place y) j y) → Exact c place_now new
  pub exact_idles : (c : Case C V) (place place_now : C → ℕ) (cells : C → V) → Exact c place cells
      → ((x : C) → (place x ≤ place_now x) × Still c (place x) (place_now x) x) → Exact c place_now cells
