-- What a store with open transactions keeps, and what its turns do to it.
use Rattle.std.specs.Prelude.{◌≡◌, ◌⊎◌, ℕ, suc, ◌+◌, ◌-◌, ◌<◌, ◌≤◌, Bool, true, false, List, [], ◌∷◌, ◌++◌, length, take, drop, get_or, set, Option, None, Some}
use Rattle.replay_laws.specs.Replay.{Act, Source, Case, Raises, act, fold, GoodStart, Replayed}
use Rattle.replay_laws.specs.Settled.{Given}
use Rattle.replay_laws.specs.Keeps.{Copied, Guarded}
use Rattle.replay_laws.specs.Places.{AtEach}
use Rattle.slot_laws.specs.History.{Txn, txn, AllWithin, flat, count, Open, NoConflict, AreOpen, place, NoneBelow, line, state}

-- the tree as it reads: each cell is where its group is
abbrev pub Reads : {C V : Type 0} → (ℕ → V → V) → (C → V) → List (Txn C V) → ℕ → List (Option Open) → (C → V) → (C → ℕ)
    → (C → ℕ) → Type 0
Reads raise origin ts started slots = AtEach (line raise origin ts started) (place ts started slots)

-- an image: each cell is past the first n transactions
abbrev pub Image : {C V : Type 0} → (ℕ → V → V) → (C → V) → List (Txn C V) → ℕ → ℕ → (C → V) → (C → ℕ) → (C → ℕ)
    → Type 0
Image raise origin ts started n = AtEach (line raise origin ts started) (λ x. count ts n)

-- The next operation of an open transaction is done, live or on replay: the cells of its groups are gone past, all others
-- stay, and each copy is for good.
pub record DoesOp {C V : Type 0} (c : Case C V) (names : C → Bool) (j : ℕ) (old new : C → V) (guards guards_now passed passed_now : C → ℕ) : Type 0 where
  pub given : (x : C) → names x ≡ true → Given c (Copied c passed) (guards x) j old x (new x)
  pub guarded : (x : C) → names x ≡ true → Guarded c j (guards x) (guards_now x) x
  pub others : (x : C) → names x ≡ false → (new x ≡ old x) × (guards_now x ≡ guards x)
  pub further : (x : C) → passed x ≤ passed_now x
  pub for_good : (x : C) → (passed_now x ≤ passed x) ⊎ (passed_now x ≤ guards_now x)
  pub all_copied : (z y : C) → Source (act c j z) y → j < passed_now z

abbrev pub again : {C V : Type 0} → (ℕ → V → V) → List (C → Act C V) → (C → V) → (C → V) → (C → ℕ) → Case C V
again raise ops before cells skips = record { raise = raise; ops = ops; before = before; start = cells; skips = skips }

-- The cells of a tree and the operations that it has not committed stand for these cells: replay leads there, also where it
-- is stopped and begun again.
pub record StandsFor {C V : Type 0} (raise : ℕ → V → V) (ops : List (C → Act C V)) (cells : C → V) (skips : C → ℕ) (end : C → V) : Type 0 where
  pub before : C → V
  pub passed : C → ℕ
  pub held : AtEach (again raise ops before cells skips) (λ x. 0) cells skips passed
  pub ends : (x : C) → end x ≡ fold raise ops before x

-- the entries of a journal that gave up the first p, above number n
abbrev pub above : {C V : Type 0} → List (Txn C V) → ℕ → ℕ → ℕ → List (Txn C V)
above ts p n end = drop (n - p) (take (end - p) (drop p ts))

pub record SlotsLaw (C V : Type 0) : Type 0 where
  -- a transaction starts where no slot holds one that names a group of it
  pub start : (raise : ℕ → V → V) (origin : C → V) (ts : List (Txn C V)) → AllWithin ts → (started : ℕ)
      → started < length ts → (before after : List (Option Open)) → AreOpen ts started (before ++ (None ∷ after))
      → NoConflict ts (txn ts started) (before ++ (None ∷ after))
      → AreOpen ts (suc started) (before ++ (Some (record { index = started; next = 0 }) ∷ after))
      × ((cells : C → V) (guards passed : C → ℕ) → ((x : C) → passed x ≤ count ts started) → Reads raise origin ts started (before ++ (None ∷ after)) cells guards passed → Reads raise origin ts (suc started) (before ++ (Some (record { index = started; next = 0 }) ∷ after)) cells guards passed)
      × ((n : ℕ) (cells : C → V) (guards passed : C → ℕ) → ((x : C) → passed x ≤ count ts started) → Image raise origin ts started n cells guards passed → Image raise origin ts (suc started) n cells guards passed)
  -- a slot's transaction goes on, or leaves its slot
  pub advances : (ts : List (Txn C V)) (started : ℕ) (before after : List (Option Open)) (o : Open)
      → o.next < length (txn ts o.index).ops → AreOpen ts started (before ++ (Some o ∷ after))
      → AreOpen ts started (before ++ (Some (record { index = o.index; next = suc o.next }) ∷ after))
  pub frees : (ts : List (Txn C V)) (started : ℕ) (before after : List (Option Open)) (o : Open)
      → AreOpen ts started (before ++ (Some o ∷ after)) → AreOpen ts started (before ++ (None ∷ after))
  -- one operation of one slot
  pub keeps : (raise : ℕ → V → V) → Raises raise → (origin : C → V) (ts : List (Txn C V)) → AllWithin ts
      → (started : ℕ) → started ≤ length ts → (before after : List (Option Open)) (o : Open)
      → o.next < length (txn ts o.index).ops → AreOpen ts started (before ++ (Some o ∷ after))
      → (old new : C → V) (guards guards_now passed passed_now : C → ℕ)
      → DoesOp (line raise origin ts started) (txn ts o.index).names (count ts o.index + o.next) old new guards guards_now passed passed_now
      → Reads raise origin ts started (before ++ (Some o ∷ after)) old guards passed
      → Reads raise origin ts started (before ++ (Some (record { index = o.index; next = suc o.next }) ∷ after)) new guards_now passed_now
  -- a transaction whose operations are done leaves its slot
  pub finish : (raise : ℕ → V → V) (origin : C → V) (ts : List (Txn C V)) → AllWithin ts → (started : ℕ)
      → started ≤ length ts → (before after : List (Option Open)) (o : Open) → o.next ≡ length (txn ts o.index).ops
      → AreOpen ts started (before ++ (Some o ∷ after))
      → (cells : C → V) (guards passed : C → ℕ)
      → Reads raise origin ts started (before ++ (Some o ∷ after)) cells guards passed
      → Reads raise origin ts started (before ++ (None ∷ after)) cells guards passed
  -- a commit finds none open among the first n: what reads is an image past them, which a whole sync makes the only one
  pub commit : (raise : ℕ → V → V) (origin : C → V) (ts : List (Txn C V)) (started n : ℕ) → n ≤ started
      → started ≤ length ts → (slots : List (Option Open)) → NoneBelow n slots
      → (cells : C → V) (guards passed : C → ℕ) → Reads raise origin ts started slots cells guards passed
      → Image raise origin ts started n cells guards passed
  -- the join: an image past the first n and a journal that holds all that were started stand for the journal's end
  pub join : (raise : ℕ → V → V) (origin : C → V) (ts : List (Txn C V)) (p n started end : ℕ) → p ≤ n → n ≤ started
      → started ≤ end → end ≤ length ts
      → (cells : C → V) (guards passed : C → ℕ) → ((x : C) → passed x ≤ count ts started)
      → Image raise origin ts started n cells guards passed
      → StandsFor raise (flat (above ts p n end)) cells (λ x. guards x - count ts n) (state raise origin ts end) × (n + length (above ts p n end) ≡ end)
  -- where the journal ends before the tree's number, as behind a snapshot, the pair stands for that number
  pub join_behind : (raise : ℕ → V → V) (origin : C → V) (ts : List (Txn C V)) (p n end : ℕ) → end ≤ n → n ≤ length ts
      → (cells : C → V) (guards passed : C → ℕ) → ((x : C) → passed x ≤ count ts n)
      → Image raise origin ts n n cells guards passed
      → StandsFor raise (flat (above ts p n end)) cells (λ x. guards x - count ts n) (state raise origin ts n) × (above ts p n end ≡ [])
  -- a pair stands for one end alone
  pub once : (raise : ℕ → V → V) → Raises raise
      → (ops : List (C → Act C V)) (cells : C → V) (skips : C → ℕ) (one other : C → V)
      → StandsFor raise ops cells skips one → StandsFor raise ops cells skips other → (x : C) → one x ≡ other x
  -- what a pair stands for is a good start, and replay leads there
  pub good : (raise : ℕ → V → V) (ops : List (C → Act C V)) (cells : C → V) (skips : C → ℕ) (end : C → V)
      → (stands : StandsFor raise ops cells skips end) → GoodStart (again raise ops stands.before cells skips)
  pub replay : (raise : ℕ → V → V) → Raises raise
      → (ops : List (C → Act C V)) (cells : C → V) (skips : C → ℕ) (end : C → V)
      → (stands : StandsFor raise ops cells skips end) → (left : C → V)
      → Replayed (again raise ops stands.before cells skips) (length ops) left → (x : C) → left x ≡ end x
  -- at each moment of that replay, k operations in, what a crash leaves stands for the same
  pub stopped : (raise : ℕ → V → V) (ops : List (C → Act C V)) (cells now : C → V) (skips guards passed : C → ℕ) (end : C → V) (k : ℕ)
      → (stands : StandsFor raise ops cells skips end)
      → AtEach (again raise ops stands.before cells skips) (λ x. k) now guards passed
      → StandsFor raise ops now guards end
  -- a store that was made or closed begins so
  pub fresh : (raise : ℕ → V → V) (origin : C → V) (ts : List (Txn C V)) (slots : List (Option Open))
      → AreOpen ts 0 slots → (cells : C → V) (guards : C → ℕ) → ((x : C) → cells x ≡ origin x)
      → ((x : C) → guards x ≡ 0)
      → Reads raise origin ts 0 slots cells guards (λ x. 0) × Image raise origin ts 0 0 cells guards (λ x. 0)
  -- a slot by its index
  pub split : (slots : List (Option Open)) (i : ℕ) (v w : Option Open) → i < length slots → get_or slots i None ≡ v
      → (slots ≡ take i slots ++ (v ∷ drop (suc i) slots)) × (set slots i w ≡ take i slots ++ (w ∷ drop (suc i) slots))
