-- The cells of objects and their values.
use Rattle.std.specs.Prelude.{ℕ, max, Bool, true, false, List, [], length, get_or, Option, None, Some}
use Rattle.std.specs.FinMap as map
use Rattle.fs_model.specs.Objects.{Object, Objects, look}
use Rattle.fs_cells.specs.declared.cell.Cell.{Cell}
use Rattle.fs_cells.specs.declared.cell.Part.{Part}
use Rattle.fs_cells.specs.declared.cell.Part.TheVariants.{Exists, Length, Byte, Attr, OmapHeader, OmapKey}

pub data Value : Type 0 where
  flag : Bool → Value
  number : ℕ → Value
  content : Option (List ℕ) → Value

-- a number becomes at least n
abbrev pub raise : ℕ → Value → Value
raise n (flag b) = flag b
raise n (number m) = number (max m n)
raise n (content v) = content v

-- a byte past the end is 0
abbrev pub part_of : Object → Part → Value
part_of x Exists = flag true
part_of x Length = number (length x.bytes)
part_of x (Byte i) = number (get_or x.bytes i 0)
part_of x (Attr k) = content (map.get x.attrs k)
part_of x OmapHeader = content (Some x.header)
part_of x (OmapKey k) = content (map.get x.omap k)

-- those of an empty object, but that it does not exist
abbrev pub absent : Part → Value
absent Exists = flag false
absent Length = number 0
absent (Byte i) = number 0
absent (Attr k) = content None
absent OmapHeader = content (Some [])
absent (OmapKey k) = content None

abbrev pub value_at : Option Object → Part → Value
value_at None part = absent part
value_at (Some x) part = part_of x part

abbrev pub cells_of : Objects → Cell → Value
cells_of O x = value_at (look O x.c x.o) x.part

-- The omap is a side of its own: no copy goes from it to another part, nor the other way.
abbrev pub is_omap : Part → Bool
is_omap Exists = false
is_omap Length = false
is_omap (Byte i) = false
is_omap (Attr k) = false
is_omap OmapHeader = true
is_omap (OmapKey k) = true
