-- The cells of an object: whether there is one, its length, each byte and each attribute.
use Rattle.std.specs.Prelude.{ℕ, Bool, true, false, List, [], length, slice_index, Option, Some, None}
use Rattle.tree_api.specs.Tree.{Version}
use Rattle.tree_api.specs.Passing.{OneOf}

abbrev pub is_there : Option Version → Bool
is_there None = false
is_there (Some v) = true

abbrev pub bytes_in : Option Version → List ℕ
bytes_in None = []
bytes_in (Some v) = v.bytes

abbrev pub attr_in : Option Version → List ℕ → Option (List ℕ)
attr_in None k = None
attr_in (Some v) k = v.attr k

-- each cell of v is the same as in x, a or b
pub record Cells (a b x v : Option Version) : Type 0 where
  pub there : OneOf (is_there x) (is_there a) (is_there b) (is_there v)
  pub len : OneOf (length (bytes_in x)) (length (bytes_in a)) (length (bytes_in b)) (length (bytes_in v))
  pub byte : (i : ℕ) → OneOf (slice_index (bytes_in x) i) (slice_index (bytes_in a) i) (slice_index (bytes_in b) i) (slice_index (bytes_in v) i)
  pub attr : (k : List ℕ) → OneOf (attr_in x k) (attr_in a k) (attr_in b k) (attr_in v k)

-- f of v, with this attribute beside it, is the same as of x, a or b
abbrev pub OneBeside : {A : Type 0} → List ℕ → (Option Version → A) → Option Version → Option Version → Option Version → Option Version → Type 0
OneBeside {A} key f a b x v = OneOf {A = A × Option (List ℕ)} (f x, attr_in x key) (f a, attr_in a key) (f b, attr_in b key) (f v, attr_in v key)

-- each cell of v, with this attribute beside it, is the same as in x, a or b
pub record CellsBeside (key : List ℕ) (a b x v : Option Version) : Type 0 where
  pub there : OneBeside key is_there a b x v
  pub len : OneBeside key (λ y. length (bytes_in y)) a b x v
  pub byte : (i : ℕ) → OneBeside key (λ y. slice_index (bytes_in y) i) a b x v
  pub attr : (k : List ℕ) → OneBeside key (λ y. attr_in y k) a b x v
