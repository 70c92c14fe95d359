-- What a store keeps while it applies or replays ops, so that each start that a crash leaves is good.
-- settled j x: the op at j has copied onto x at some time, and that will not be lost before x is renewed.
-- guard: how many ops a guard on x makes replay leave out.
use Rattle.std.specs.Prelude.{◌≡◌, ◌⊎◌, ℕ, suc, ◌+◌, ◌<◌, ◌≤◌, length}
use Rattle.replay_laws.specs.Replay.{Case, Source, act, after, effect, moved, becomes}

-- each copy from x before the op at t is settled
abbrev pub Free : {C V : Type 0} → Case C V → (ℕ → C → Type 0) → C → ℕ → Type 0
Free {C} c settled x t = (j : ℕ) (z : C) → j < t → Source (act c j z) x → settled j z

-- v is what x has after some number of ops, at least k, none of which the guard leaves out
pub record Alive {C V : Type 0} (c : Case C V) (settled : ℕ → C → Type 0) (guard k : ℕ) (x : C) (v : V) : Type 0 where
  pub when : ℕ
  pub from_guard : guard ≤ when
  pub reached : k ≤ when
  pub by : when ≤ length c.ops
  pub value : v ≡ after c when x
  pub free : Free c settled x when

-- the op at k or a later one, which the guard does not leave out, renews x, and what is copied from x up to then is settled
pub record Doomed {C V : Type 0} (c : Case C V) (settled : ℕ → C → Type 0) (guard k : ℕ) (x : C) : Type 0 where
  pub when : ℕ
  pub from_guard : guard ≤ when
  pub reached : k ≤ when
  pub is_op : when < length c.ops
  pub value : V
  pub gives : effect (act c when x) (after c when) ≡ becomes value
  pub free : Free c settled x (suc when)

-- what x may hold when the ops before k have gone past it; at 0, what a crash may leave there
abbrev pub Stands : {C V : Type 0} → Case C V → (ℕ → C → Type 0) → ℕ → ℕ → C → V → Type 0
Stands c settled guard k x v = Alive c settled guard k x v ⊎ Doomed c settled guard k x

-- a settled copy onto x that replay does again is renewed later
abbrev pub Kept : {C V : Type 0} → Case C V → (ℕ → C → Type 0) → ℕ → C → Type 0
Kept c settled guard x = (i : ℕ) → settled i x → i < length c.ops → guard ≤ i → Doomed c settled guard (suc i) x

-- a tree that a crash leaves, with its cells and its guards
pub record MayStart {C V : Type 0} (c : Case C V) (settled : ℕ → C → Type 0) : Type 0 where
  pub stands : (x : C) → Stands c settled (c.skips x) 0 x (c.start x)
  pub kept : (x : C) → Kept c settled (c.skips x) x

-- What the op at k, live or on replay, gives the cell x where the cells are s: what it held where it is left out, and
-- anything where this op's copy onto x is settled already.
pub record Given {C V : Type 0} (c : Case C V) (settled : ℕ → C → Type 0) (guard k : ℕ) (s : C → V) (x : C) (v : V) : Type 0 where
  pub left_out : k < guard → v ≡ s x
  pub done : guard ≤ k → settled k x ⊎ (v ≡ moved c.raise (effect (act c k x) s) (s x))

-- The ops of later are those of c from the one at d on, and maybe more at the end; it begins with the cells that c has at d.
pub record Carries {C V : Type 0} (c later : Case C V) (d : ℕ) : Type 0 where
  pub acts : (j : ℕ) (x : C) → d + j < length c.ops → act later j x ≡ act c (d + j) x
  pub states : (j : ℕ) → d + j ≤ length c.ops → after later j ≡ after c (d + j)
  pub lengths : length c.ops ≤ d + length later.ops
