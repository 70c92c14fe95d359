-- A node on its way from one version to another.
use Rattle.std.specs.Prelude.{◌≡◌, ◌≢◌, ◌⊎◌, ℕ, List, length, slice_index, Option, if◌then◌else◌}
use Rattle.std.specs.Str.{bytes_eq}
use Rattle.tree_api.specs.Tree.{Version, Tree}

abbrev pub OneOf : {A : Type 0} → A → A → A → A → Type 0
OneOf x a b v = (v ≡ x) ⊎ (v ≡ a) ⊎ (v ≡ b)

-- The length, each byte (0 past the end) and each attribute of node n are as they were, or as in a or in b.
pub record Passing (n : ℕ) (a b : Version) (old new : Tree) : Type 0 where
  pub names : new.at ≡ old.at
  pub snaps : new.snap ≡ old.snap
  pub others : (m : ℕ) → m ≢ n → new.node m ≡ old.node m
  pub dir : (new.node n).dir ≡ (old.node n).dir
  pub len : OneOf (length (old.node n).bytes) (length a.bytes) (length b.bytes) (length (new.node n).bytes)
  pub byte : (i : ℕ) → OneOf (slice_index (old.node n).bytes i) (slice_index a.bytes i) (slice_index b.bytes i) (slice_index (new.node n).bytes i)
  pub attr : (name : List ℕ) → OneOf ((old.node n).attr name) (a.attr name) (b.attr name) ((new.node n).attr name)

-- the length, each byte and each attribute is a's or b's
pub record Within (a b v : Version) : Type 0 where
  pub dir : v.dir ≡ a.dir
  pub len : (length v.bytes ≡ length a.bytes) ⊎ (length v.bytes ≡ length b.bytes)
  pub byte : (i : ℕ) → (slice_index v.bytes i ≡ slice_index a.bytes i) ⊎ (slice_index v.bytes i ≡ slice_index b.bytes i)
  pub attr : (name : List ℕ) → (v.attr name ≡ a.attr name) ⊎ (v.attr name ≡ b.attr name)

-- one attribute has this value, or goes
abbrev pub with_attr : List ℕ → Option (List ℕ) → Version → Version
with_attr name value v = record v { attr = λ key. if bytes_eq key name then value else v.attr key }

-- One attribute of node n is as it was, as in a, or this; and all else of it is as it was or as in a.
abbrev pub AttrPassing : ℕ → List ℕ → Option (List ℕ) → Version → Tree → Tree → Type 0
AttrPassing n name value a = Passing n a (with_attr name value a)
