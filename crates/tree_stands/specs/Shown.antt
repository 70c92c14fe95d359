-- What is seen of the objects of a store, with the guards beside them.
use Rattle.std.specs.Prelude.{◌≡◌, ◌⊎◌, ℕ, max, true, cond, List, length, get_or, Option, Some, None}
use Rattle.fs_names.specs.declared.coll.Coll.{Coll}
use Rattle.tree_api.specs.Tree.{Version}
use Rattle.tree_api.specs.Passing.{OneOf}
use Rattle.object_file.specs.Attrs.{attr_name}
use Rattle.replay_guard.specs.Guards.{guard_name}
use Rattle.fs_cells.specs.declared.cell.Cell.{Cell}
use Rattle.fs_cells.specs.declared.cell.Part.{Part}
use Rattle.fs_cells.specs.declared.cell.Part.TheVariants.{Exists, Length, Byte, Attr, OmapHeader, OmapKey}
use Rattle.fs_cells.specs.Values.{Value, flag, number, content, absent}
use Rattle.tree_stands.specs.Names.{Name, name_of, same_name}

-- a part of the object that a file holds; its omap lies elsewhere
abbrev pub part_in : Version → Part → Value
part_in v Exists = flag true
part_in v Length = number (length v.bytes)
part_in v (Byte i) = number (get_or v.bytes i 0)
part_in v (Attr k) = content (v.attr (attr_name k))
part_in v OmapHeader = absent OmapHeader
part_in v (OmapKey k) = absent (OmapKey k)

abbrev pub value_in : Option Version → Part → Value
value_in None part = absent part
value_in (Some v) part = part_in v part

abbrev pub guard_in : Option Version → Option (List ℕ)
guard_in None = None
guard_in (Some v) = v.attr guard_name

-- a cell with the guard that stands beside it
abbrev pub seen : Option Version → Part → Value × Option (List ℕ)
seen v part = (value_in v part, guard_in v)

-- each cell of v, with its guard, is x's, a's or b's
abbrev pub Paired : Option Version → Option Version → Option Version → Option Version → Type 0
Paired a b x v = (part : Part) → OneOf (seen x part) (seen a part) (seen b part) (seen v part)

-- how many operations guards leave out
pub record Counts : Type 0 where
  -- where this text is the guard of an object's file, and of a collection's directory
  pub of_file : Name → List ℕ → ℕ
  pub of_dir : Coll → List ℕ → ℕ
  -- in a missing collection: one past the operation that took it away, 0 where it was never there
  pub gone : Coll → ℕ

abbrev pub counted : (List ℕ → ℕ) → Option (List ℕ) → ℕ
counted count None = 0
counted count (Some text) = count text

-- the files of all objects, and of each collection that is there the guard of its directory
pub record Shown : Type 0 where
  pub object : Name → Option Version
  pub dir : Coll → Option (Option (List ℕ))

abbrev pub guard_at : Counts → Name → Option (Option (List ℕ)) → Option (List ℕ) → ℕ
guard_at g n None file = g.gone n.coll
guard_at g n (Some dir) file = max (counted (g.of_dir n.coll) dir) (counted (g.of_file n) file)

abbrev pub cells_in : Shown → Cell → Value
cells_in s x = value_in (s.object (name_of x)) x.part

-- the greater of the guards on a cell's file and on its collection
abbrev pub guards_in : Counts → Shown → Cell → ℕ
guards_in g s x = guard_at g (name_of x) (s.dir x.c) (guard_in (s.object (name_of x)))

-- with this file in place of one object's
abbrev pub with_file : Name → Option Version → Shown → Shown
with_file n b s = record { object = λ o. cond (same_name o n) b (s.object o); dir = s.dir }

-- At a name, F shows what E shows; or it is n, whose collection has one guard in all three, and each cell with its guard is
-- E's, T's or b's.
abbrev pub ComesAt : Shown → Name → Option Version → Name → Shown → Shown → Type 0
ComesAt T n b o E F =
    ((F.dir o.coll ≡ E.dir o.coll) × (F.object o ≡ E.object o))
    ⊎ ((o ≡ n) × (F.dir o.coll ≡ E.dir o.coll) × (F.dir o.coll ≡ T.dir o.coll) × Paired (T.object n) b (E.object n) (F.object n))
