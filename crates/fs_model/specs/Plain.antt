-- What an object in memory stands for.
use Rattle.std.specs.Prelude.{ℕ, ◌+◌, ◌<◌, ◌^◌, List, [], ◌∷◌, length, ◌≡◌, true, Option, None, Some}
use Rattle.std.specs.FinMap as map
use Rattle.fs_model.specs.declared.pair.Pair.{Pair}
use Rattle.fs_model.specs.declared.object.PlainObject.{PlainObject}
use Rattle.fs_model.specs.declared.edit.Edit.{Edit}
use Rattle.fs_model.specs.declared.edit.Edit.TheVariants.{Touch, Write, Zero, Truncate, SetAttrs, RmAttr, RmAttrs, OmapClear, OmapSet, OmapRemove, OmapRange}
use Rattle.fs_model.specs.declared.pair_map.Undo.{Undo}
use Rattle.fs_model.specs.Objects.{ByteMap, Object}
use Rattle.fs_model.specs.Rows.{written, zeroed, truncated, with_attrs, without_attr, without_attrs, without_omap, with_omap, without_keys, without_range}

abbrev pub object_of : PlainObject → Object
object_of x = record { bytes = x.bytes; attrs = x.attrs; header = x.header; omap = x.pairs }

-- a pair as an entry of a map
abbrev pub entry_of : Pair → List ℕ × List ℕ
entry_of p = (p.key, p.value)

-- the object after an edit
abbrev pub edited : Object → Edit → Object
edited x Touch = x
edited x (Write at bytes) = written x at bytes.now
edited x (Zero at len) = zeroed x at len
edited x (Truncate len) = truncated x len
edited x (SetAttrs pairs) = with_attrs x pairs.now
edited x (RmAttr name) = without_attr x name.now
edited x RmAttrs = without_attrs x
edited x OmapClear = without_omap x
edited x (OmapSet header pairs) = with_omap x header.now pairs.now
edited x (OmapRemove keys) = without_keys x keys.now
edited x (OmapRange from to) = without_range x from.now to.now

-- no place of the edit is past what memory can hold
abbrev pub IsInReach : Edit → Type 0
IsInReach (Write at bytes) = at + length bytes.now < 2 ^ 63
IsInReach (Zero at len) = at + len < 2 ^ 63
IsInReach (Truncate len) = len < 2 ^ 63
IsInReach _ = Unit {0}

-- A map before a name was set; and before all names of a list were set, of which the last was set last.
abbrev pub put_back : ByteMap → List ℕ → Option (List ℕ) → ByteMap
put_back m key None = map.remove m key
put_back m key (Some value) = map.insert m key value

abbrev pub put_back_last : Undo → ByteMap → ByteMap
put_back_last u m = put_back m u.key u.old

abbrev pub undone : ByteMap → List Undo → ByteMap
undone m [] = m
undone m (u ∷ us) = put_back_last u (undone m us)

-- each name is there when it is put back
abbrev pub IsUndoOf : ByteMap → List Undo → Type 0
IsUndoOf m [] = Unit {0}
IsUndoOf m (u ∷ us) = IsUndoOf m us × (map.contains_key (undone m us) u.key ≡ true)
