-- Transactions of several operations, some of them open: a history of them, and how far it has gone past each cell.
use Rattle.std.specs.Prelude.{◌≡◌, ◌⊎◌, ℕ, ◌+◌, ◌<◌, ◌≤◌, Bool, true, false, cond, List, [], ◌∷◌, ◌++◌, length, take, get_or, Option, None, Some}
use Rattle.replay_laws.specs.Replay.{Act, leaves, Source, Case, fold}

-- a transaction: which cells lie in the groups of the collections that it names, and what its operations do
pub record Txn (C V : Type 0) : Type 0 where
  pub names : C → Bool
  pub ops : List (C → Act C V)

abbrev pub no_txn : {C V : Type 0} → Txn C V
no_txn = record { names = λ x. false; ops = [] }

abbrev pub idle_op : {C V : Type 0} → C → Act C V
idle_op x = leaves

-- an operation writes and reads cells of its own groups alone
pub record OpWithin {C V : Type 0} (names : C → Bool) (op : C → Act C V) : Type 0 where
  pub leaves_others : (x : C) → names x ≡ false → op x ≡ leaves
  pub reads_own : (z y : C) → Source (op z) y → names y ≡ true

abbrev pub Within : {C V : Type 0} → Txn C V → Type 0
Within t = (k : ℕ) → OpWithin t.names (get_or t.ops k idle_op)

abbrev pub txn : {C V : Type 0} → List (Txn C V) → ℕ → Txn C V
txn ts i = get_or ts i no_txn

abbrev pub AllWithin : {C V : Type 0} → List (Txn C V) → Type 0
AllWithin ts = (i : ℕ) → Within (txn ts i)

-- all operations in order
abbrev pub flat : {C V : Type 0} → List (Txn C V) → List (C → Act C V)
flat [] = []
flat (t ∷ ts) = t.ops ++ flat ts

-- how many operations the first i transactions have
abbrev pub count : {C V : Type 0} → List (Txn C V) → ℕ → ℕ
count ts i = length (flat (take i ts))

-- no cell lies in groups of both
abbrev pub Apart : {C V : Type 0} → Txn C V → Txn C V → Type 0
Apart {C} a b = (x : C) → (a.names x ≡ false) ⊎ (b.names x ≡ false)

-- an open transaction: its place in the history, and its next operation
pub record Open : Type 0 where
  pub index : ℕ
  pub next : ℕ

-- it was started, and none that was started after it names a group of it
pub record IsOpen {C V : Type 0} (ts : List (Txn C V)) (started : ℕ) (o : Open) : Type 0 where
  pub begun : o.index < started
  pub within : o.next ≤ length (txn ts o.index).ops
  pub alone : (i : ℕ) → o.index < i → i < started → Apart (txn ts o.index) (txn ts i)

-- no slot holds a transaction that names a group of this one
abbrev pub NoConflict : {C V : Type 0} → List (Txn C V) → Txn C V → List (Option Open) → Type 0
NoConflict ts t [] = Unit {0}
NoConflict ts t (None ∷ slots) = NoConflict ts t slots
NoConflict ts t (Some o ∷ slots) = Apart (txn ts o.index) t × NoConflict ts t slots

abbrev pub AreOpen : {C V : Type 0} → List (Txn C V) → ℕ → List (Option Open) → Type 0
AreOpen ts started [] = Unit {0}
AreOpen ts started (None ∷ slots) = AreOpen ts started slots
AreOpen ts started (Some o ∷ slots) = IsOpen ts started o × NoConflict ts (txn ts o.index) slots × AreOpen ts started slots

-- how many operations have gone past a cell
abbrev pub place : {C V : Type 0} → List (Txn C V) → ℕ → List (Option Open) → C → ℕ
place ts started [] x = count ts started
place ts started (None ∷ slots) x = place ts started slots x
place ts started (Some o ∷ slots) x = cond ((txn ts o.index).names x) (count ts o.index + o.next) (place ts started slots x)

-- the open ones have at least this place
abbrev pub NoneBelow : ℕ → List (Option Open) → Type 0
NoneBelow n [] = Unit {0}
NoneBelow n (None ∷ slots) = NoneBelow n slots
NoneBelow n (Some o ∷ slots) = (n ≤ o.index) × NoneBelow n slots

-- the operations of the first transactions
abbrev pub line : {C V : Type 0} → (ℕ → V → V) → (C → V) → List (Txn C V) → ℕ → Case C V
line raise origin ts started = record { raise = raise; ops = flat (take started ts); before = origin; start = origin; skips = λ x. 0 }

-- the cells after the first n transactions
abbrev pub state : {C V : Type 0} → (ℕ → V → V) → (C → V) → List (Txn C V) → ℕ → C → V
state raise origin ts n = fold raise (flat (take n ts)) origin
