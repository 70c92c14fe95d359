-- What an operation does to the parts of the object that it changes.
use Rattle.std.specs.Prelude.{ℕ, ◌+◌, ◌-◌, min, Bool, true, if◌then◌else◌, ◌&&◌, nat_lt, nat_le, List, [], ◌∷◌, Option, None, Some}
use Rattle.std.specs.List.{list_any}
use Rattle.std.specs.Option.{option_or}
use Rattle.std.specs.Ordering.{nat_cmp, eq_by_cmp}
use Rattle.std.specs.Cmp.Lexicographic.{slice_cmp}
use Rattle.fs_names.specs.declared.coll.Coll.{Coll}
use Rattle.fs_names.specs.declared.oid.Oid.{Oid}
use Rattle.fs_model.specs.declared.pair.Pair.{Pair}
use Rattle.fs_model.specs.Rows.{is_between}
use Rattle.replay_laws.specs.Replay.{Effect, stays, becomes, rises, Act, leaves, sets, raises, copies}
use Rattle.fs_cells.specs.declared.cell.Cell.{Cell}
use Rattle.fs_cells.specs.declared.cell.Part.{Part}
use Rattle.fs_cells.specs.declared.cell.Part.TheVariants.{Exists, Length, Byte, Attr, OmapHeader, OmapKey}
use Rattle.fs_cells.specs.Values.{Value, flag, number, content, absent}

-- what an operation does to a cell
abbrev pub CellAct : Type 0
CellAct = Act Cell Value

-- the object exists, and no other part changes
abbrev pub touched : Part → CellAct
touched Exists = sets (flag true)
touched part = leaves

-- n bytes from a place on
abbrev pub is_within : ℕ → ℕ → ℕ → Bool
is_within at n i = nat_le at i && nat_lt i (at + n)

-- n bytes from a place on are written, each by its place in them
abbrev pub overwritten : ℕ → ℕ → (ℕ → ℕ) → Part → CellAct
overwritten at n byte Exists = sets (flag true)
overwritten at n byte Length = if nat_lt 0 n then raises (at + n) else leaves
overwritten at n byte (Byte i) = if is_within at n i then sets (number (byte (i - at))) else leaves
overwritten at n byte part = leaves

-- the length is set; what is past it is 0
abbrev pub resized : ℕ → Part → CellAct
resized n Exists = sets (flag true)
resized n Length = sets (number n)
resized n (Byte i) = if nat_le n i then sets (number 0) else leaves
resized n part = leaves

abbrev pub removed : Part → CellAct
removed part = sets (absent part)

abbrev pub same_bytes : List ℕ → List ℕ → Bool
same_bytes = eq_by_cmp (slice_cmp nat_cmp)

-- the value of a key's last pair in a list
abbrev pub value_in : List Pair → List ℕ → Option (List ℕ)
value_in [] k = None
value_in (p ∷ pairs) k = option_or (value_in pairs k) (if same_bytes k p.key then Some p.value else None)

-- what is set, where something is
abbrev pub set_to : Option (List ℕ) → CellAct
set_to None = leaves
set_to (Some v) = sets (content (Some v))

-- the value goes, under a test
abbrev pub gone_if : Bool → CellAct
gone_if b = if b then sets (content None) else leaves

abbrev pub attrs_set : List Pair → Part → CellAct
attrs_set pairs Exists = sets (flag true)
attrs_set pairs (Attr k) = set_to (value_in pairs k)
attrs_set pairs part = leaves

abbrev pub attr_removed : List ℕ → Part → CellAct
attr_removed name Exists = sets (flag true)
attr_removed name (Attr k) = gone_if (same_bytes k name)
attr_removed name part = leaves

abbrev pub attrs_removed : Part → CellAct
attrs_removed Exists = sets (flag true)
attrs_removed (Attr k) = sets (content None)
attrs_removed part = leaves

abbrev pub omap_cleared : Part → CellAct
omap_cleared Exists = sets (flag true)
omap_cleared OmapHeader = sets (content (Some []))
omap_cleared (OmapKey k) = sets (content None)
omap_cleared part = leaves

abbrev pub omap_set : Option (List ℕ) → List Pair → Part → CellAct
omap_set header pairs Exists = sets (flag true)
omap_set header pairs OmapHeader = set_to header
omap_set header pairs (OmapKey k) = set_to (value_in pairs k)
omap_set header pairs part = leaves

abbrev pub omap_removed : List (List ℕ) → Part → CellAct
omap_removed keys Exists = sets (flag true)
omap_removed keys (OmapKey k) = gone_if (list_any (same_bytes k) keys)
omap_removed keys part = leaves

abbrev pub omap_range_removed : List ℕ → List ℕ → Part → CellAct
omap_range_removed from to Exists = sets (flag true)
omap_range_removed from to (OmapKey k) = gone_if (is_between from to k)
omap_range_removed from to part = leaves

-- the same part of another object
abbrev pub part_at : Coll → Oid → Part → Cell
part_at c o part = record { c = c; o = o; part = part }

-- the value of the first source cell
abbrev pub first_value : List Value → Effect Value
first_value [] = stays
first_value (v ∷ more) = becomes v

-- every part becomes that of the object o; a missing one reads as empty
abbrev pub copied : Coll → Oid → Part → CellAct
copied c o Exists = sets (flag true)
copied c o part = copies (part_at c o part ∷ []) first_value

-- how many bytes of n from a place on an object of a length has
abbrev pub bytes_there : ℕ → ℕ → ℕ → ℕ
bytes_there from n len = min n (len - from)

abbrev pub rises_by_source : ℕ → ℕ → ℕ → List Value → Effect Value
rises_by_source from n to (number len ∷ more) = if nat_lt 0 (bytes_there from n len) then rises (to + bytes_there from n len) else stays
rises_by_source from n to others = stays

-- the source has such a byte: its length says so
abbrev pub byte_of_source : ℕ → List Value → Effect Value
byte_of_source i (number len ∷ v ∷ more) = if nat_lt i len then becomes v else stays
byte_of_source i others = stays

-- n bytes of the object o from a place on are copied to another place
abbrev pub range_copied : Coll → Oid → ℕ → ℕ → ℕ → Part → CellAct
range_copied c o from n to Exists = sets (flag true)
range_copied c o from n to Length = copies (part_at c o Length ∷ []) (rises_by_source from n to)
range_copied c o from n to (Byte i) = if is_within to n i then copies (part_at c o Length ∷ part_at c o (Byte (from + (i - to))) ∷ []) (byte_of_source (from + (i - to))) else leaves
range_copied c o from n to part = leaves
