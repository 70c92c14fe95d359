-- What each operation means.
use Rattle.std.specs.Prelude.{ℕ, ◌+◌, ◌-◌, Bool, not, ◌&&◌, if◌then◌else◌, List, [], ◌∷◌, ◌++◌, length, take, drop, replicate, Option}
use Rattle.std.specs.List.{fold}
use Rattle.std.specs.Ordering.{is_ge, is_lt, nat_cmp}
use Rattle.std.specs.Cmp.Lexicographic.{slice_cmp}
use Rattle.std.specs.Option.{unwrap_or}
use Rattle.std.specs.FinMap as map
use Rattle.fs_names.specs.declared.coll.Coll.{Coll}
use Rattle.fs_model.specs.declared.op.Op.{Op}
use Rattle.fs_model.specs.declared.op.Op.TheVariants.{Touch, Write, Zero, Truncate, Remove, SetAttrs, RmAttr, RmAttrs, Clone, CloneRange, MoveRename, MkColl, RmColl, OmapClear, OmapSet, OmapRemove, OmapRange}
use Rattle.fs_model.specs.declared.pair.Pair.{Pair}
use Rattle.fs_model.specs.Objects.{ByteMap, Object, Objects, read_object, with_object, without_object}

-- bytes from a place on: a gap is 0, and no bytes leave all as it is
abbrev pub overwrite : List ℕ → ℕ → List ℕ → List ℕ
overwrite old at [] = old
overwrite old at (b ∷ bs) = take at old ++ replicate (at - length old) 0 ++ (b ∷ bs) ++ drop (at + length (b ∷ bs)) old

-- bytes of a length: those past it go, new ones are 0
abbrev pub resize : List ℕ → ℕ → List ℕ
resize old len = take len old ++ replicate (len - length old) 0

-- pairs set one after the other
abbrev pub set_pair : ByteMap → Pair → ByteMap
set_pair m p = map.insert m p.key p.value

abbrev pub set_pairs : ByteMap → List Pair → ByteMap
set_pairs = fold set_pair

-- keys taken away one after the other
abbrev pub take_keys : ByteMap → List (List ℕ) → ByteMap
take_keys = fold map.remove

-- the key is from `from` up to, not including, `to`
abbrev pub is_between : List ℕ → List ℕ → List ℕ → Bool
is_between from to key = is_ge (slice_cmp nat_cmp key from) && is_lt (slice_cmp nat_cmp key to)

abbrev pub take_range : ByteMap → List ℕ → List ℕ → ByteMap
take_range m from to = map.retain_keys m (λ key. not (is_between from to key))

-- the object after an operation on it alone
abbrev pub written : Object → ℕ → List ℕ → Object
written x at bytes = record x { bytes = overwrite x.bytes at bytes }

abbrev pub zeroed : Object → ℕ → ℕ → Object
zeroed x at len = written x at (replicate len 0)

abbrev pub truncated : Object → ℕ → Object
truncated x len = record x { bytes = resize x.bytes len }

abbrev pub with_attrs : Object → List Pair → Object
with_attrs x pairs = record x { attrs = set_pairs x.attrs pairs }

abbrev pub without_attr : Object → List ℕ → Object
without_attr x name = record x { attrs = map.remove x.attrs name }

abbrev pub without_attrs : Object → Object
without_attrs x = record x { attrs = map.empty }

abbrev pub without_omap : Object → Object
without_omap x = record x { header = []; omap = map.empty }

abbrev pub with_omap : Object → Option (List ℕ) → List Pair → Object
with_omap x header pairs = record x { header = unwrap_or header x.header; omap = set_pairs x.omap pairs }

abbrev pub without_keys : Object → List (List ℕ) → Object
without_keys x keys = record x { omap = take_keys x.omap keys }

abbrev pub without_range : Object → List ℕ → List ℕ → Object
without_range x from to = record x { omap = take_range x.omap from to }

-- the bytes from a place on, at most so many
abbrev pub part : Object → ℕ → ℕ → List ℕ
part x from len = take len (drop from x.bytes)

-- both collections are there
abbrev pub both_there : Objects → Coll → Coll → Bool
both_there O c c2 = map.contains_key O c && map.contains_key O c2

-- a missing object reads as empty, and nothing changes where a collection is missing
abbrev pub row : Objects → Op → Objects
row O (Touch c o) = with_object O c o (read_object O c o)
row O (Write c o at bytes) = with_object O c o (written (read_object O c o) at bytes)
row O (Zero c o at len) = with_object O c o (zeroed (read_object O c o) at len)
row O (Truncate c o len) = with_object O c o (truncated (read_object O c o) len)
row O (Remove c o) = without_object O c o
row O (SetAttrs c o pairs) = with_object O c o (with_attrs (read_object O c o) pairs)
row O (RmAttr c o name) = with_object O c o (without_attr (read_object O c o) name)
row O (RmAttrs c o) = with_object O c o (without_attrs (read_object O c o))
row O (Clone c o c2 o2) = if both_there O c c2 then with_object O c2 o2 (read_object O c o) else O
row O (CloneRange c o c2 o2 from len to) =
    if both_there O c c2 then with_object O c2 o2 (written (read_object O c2 o2) to (part (read_object O c o) from len)) else O
row O (MoveRename c o c2 o2) = if both_there O c c2 then with_object (without_object O c o) c2 o2 (read_object O c o) else O
row O (MkColl c) = if map.contains_key O c then O else map.insert O c map.empty
row O (RmColl c) = map.remove O c
row O (OmapClear c o) = with_object O c o (without_omap (read_object O c o))
row O (OmapSet c o header pairs) = with_object O c o (with_omap (read_object O c o) header pairs)
row O (OmapRemove c o keys) = with_object O c o (without_keys (read_object O c o) keys)
row O (OmapRange c o from to) = with_object O c o (without_range (read_object O c o) from to)

-- a transaction folds its operations, and a list folds its transactions
abbrev pub fold_ops : Objects → List Op → Objects
fold_ops = fold row

abbrev pub fold_txns : Objects → List (List Op) → Objects
fold_txns = fold fold_ops
