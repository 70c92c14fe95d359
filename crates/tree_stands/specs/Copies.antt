-- A copy onto one object, made before the guard that leaves it out.
use Rattle.std.specs.Prelude.{◌≡◌, ◌≢◌, ℕ, suc, max, length, ◌<◌, ◌≤◌, Bool, true, cond, Option}
use Rattle.tree_api.specs.Tree.{Version}
use Rattle.replay_laws.specs.Replay.{leaves, Case, Source, Raises, act, effect, moved}
use Rattle.replay_laws.specs.Places.{AtEach, Still}
use Rattle.slot_laws.specs.Slots.{DoesOp}
use Rattle.fs_cells.specs.declared.cell.Cell.{Cell}
use Rattle.fs_cells.specs.declared.cell.Part.{Part}
use Rattle.fs_cells.specs.Values.{Value}
use Rattle.tree_stands.specs.Names.{Name, name_of, same_name}
use Rattle.tree_stands.specs.Shown.{Counts, Shown, value_in, guard_in, cells_in, guards_in, with_file, ComesAt}

-- The operation at j copies onto n alone, whose file goes from T's to b and then gets a guard that leaves the operation out,
-- which makes it w. What is copied lies at other names, no further than the operation, and none between changes it.
pub record Copies (g : Counts) (c : Case Cell Value) (j : ℕ) (names : Cell → Bool) (place : Cell → ℕ) (T : Shown) (n : Name) (b w : Option Version) : Type 0 where
  pub is_op : j < length c.ops
  pub others : (x : Cell) → name_of x ≢ n → act c j x ≡ leaves
  pub own : (x : Cell) → name_of x ≡ n → (names x ≡ true) × (place x ≡ j)
  pub sources : (z y : Cell) → Source (act c j z) y → (name_of y ≢ n) × (place y ≤ j) × Still c (place y) j y
  pub gives : (x : Cell) → name_of x ≡ n → value_in b x.part ≡ moved c.raise (effect (act c j x) (cells_in T)) (cells_in T x)
  pub guard : guard_in b ≡ guard_in (T.object n)
  pub applies : (x : Cell) → name_of x ≡ n → guards_in g T x ≤ j
  pub closed : (part : Part) → value_in w part ≡ value_in b part
  pub counts : (x : Cell) → name_of x ≡ n → guards_in g (with_file n w T) x ≡ suc j

-- copies onto n are for good
abbrev pub passed_at : Name → ℕ → (Cell → ℕ) → Cell → ℕ
passed_at n j passed x = cond (same_name (name_of x) n) (max (passed x) (suc j)) (passed x)

pub record CopyLaw : Type 0 where
  -- between the writes and the guard
  pub copied : (g : Counts) (c : Case Cell Value) → Raises c.raise
      → (j : ℕ) (names : Cell → Bool) (place passed : Cell → ℕ) (T : Shown) (n : Name) (b w : Option Version) → Copies g c j names place T n b w
      → AtEach c place (cells_in T) (guards_in g T) passed → AtEach c place (cells_in (with_file n b T)) (guards_in g (with_file n b T)) passed
  -- once the guard may stand
  pub guarded : (g : Counts) (c : Case Cell Value) → Raises c.raise
      → (j : ℕ) (names : Cell → Bool) (place passed : Cell → ℕ) (T : Shown) (n : Name) (b w : Option Version) → Copies g c j names place T n b w
      → AtEach c place (cells_in T) (guards_in g T) passed → AtEach c place (cells_in (with_file n w T)) (guards_in g (with_file n w T)) passed
  -- while writes go on, and then the guard, each image stays where it was
  pub images : (g : Counts) (c : Case Cell Value) (k : ℕ) (passed : Cell → ℕ) (T : Shown) (n : Name) (b : Option Version)
      → AtEach c (λ x. k) (cells_in T) (guards_in g T) passed → AtEach c (λ x. k) (cells_in (with_file n b T)) (guards_in g (with_file n b T)) passed
      → (F : Shown) → ((o : Name) → (E : Shown) × AtEach c (λ x. k) (cells_in E) (guards_in g E) passed × ComesAt T n b o E F)
      → AtEach c (λ x. k) (cells_in F) (guards_in g F) passed
  -- once the guard is stable, what reads has had the operation, and the copies are for good in it and in each image
  pub done : (g : Counts) (c : Case Cell Value) (j : ℕ) (names : Cell → Bool) (place passed : Cell → ℕ) (T : Shown) (n : Name) (b w : Option Version) → Copies g c j names place T n b w
      → DoesOp c names j (cells_in T) (cells_in (with_file n w T)) (guards_in g T) (guards_in g (with_file n w T)) passed (passed_at n j passed)
  pub stable : (g : Counts) (c : Case Cell Value) (k j : ℕ) (passed : Cell → ℕ) (n : Name) (E : Shown)
      → ((x : Cell) → name_of x ≡ n → suc j ≤ guards_in g E x)
      → AtEach c (λ x. k) (cells_in E) (guards_in g E) passed → AtEach c (λ x. k) (cells_in E) (guards_in g E) (passed_at n j passed)
