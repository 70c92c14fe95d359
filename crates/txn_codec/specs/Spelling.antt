-- The one spelling of each list of operations.
use Rattle.std.specs.Prelude.{ℕ, ◌^◌, ◌<◌, ◌≤◌, Bool, true, false, List, [], ◌∷◌, ◌++◌, length, Option, Some, None, IfSome}
use Rattle.std.specs.List.{flat_map, AllByRecursion}
use Rattle.byteorder.specs.Endian.{big_bytes}
use Rattle.fs_names.specs.declared.coll.Coll.{Coll}
use Rattle.fs_names.specs.declared.coll.Coll.TheVariants.{Meta, Pg}
use Rattle.fs_names.specs.declared.oid.Oid.{Oid}
use Rattle.fs_names.specs.declared.oid.Snap.{Snap}
use Rattle.fs_names.specs.declared.oid.Snap.TheVariants.{Head, Dir, Id}
use Rattle.fs_names.specs.Reading.{CollFits, OidFits}
use Rattle.fs_model.specs.declared.op.Op.{Op}
use Rattle.fs_model.specs.declared.op.Op.TheVariants.{Touch, Write, Zero, Truncate, Remove, SetAttrs, RmAttr, RmAttrs, Clone, CloneRange, MoveRename, MkColl, RmColl, OmapClear, OmapSet, OmapRemove, OmapRange}
use Rattle.fs_model.specs.declared.pair.Pair.{Pair}

-- bytes behind their length, which has n bytes
abbrev pub sized : ℕ → List ℕ → List ℕ
sized n bytes = big_bytes n (length bytes) ++ bytes

abbrev pub flag : Bool → List ℕ
flag false = 0 ∷ []
flag true = 1 ∷ []

abbrev pub coll : Coll → List ℕ
coll Meta = 0 ∷ []
coll (Pg pool seed temp) = 1 ∷ (big_bytes 8 pool ++ (big_bytes 4 seed ++ flag temp))

abbrev pub snap : Snap → List ℕ
snap Head = 0 ∷ []
snap Dir = 1 ∷ []
snap (Id n) = 2 ∷ big_bytes 8 n

abbrev pub pool : Option ℕ → List ℕ
pool None = 0 ∷ []
pool (Some p) = 1 ∷ big_bytes 8 p

abbrev pub oid : Oid → List ℕ
oid o = sized 2 o.name ++ (sized 2 o.key ++ (sized 2 o.nspace ++ (snap o.snap ++ (big_bytes 4 o.hash ++ pool o.pool))))

-- values behind their number, which has 4 bytes
abbrev pub counted : {A : Type 0} → (A → List ℕ) → List A → List ℕ
counted spell xs = big_bytes 4 (length xs) ++ flat_map spell xs

abbrev pub blob : List ℕ → List ℕ
blob = sized 4

abbrev pub pair : Pair → List ℕ
pair p = blob p.key ++ blob p.value

abbrev pub header : Option (List ℕ) → List ℕ
header None = 0 ∷ []
header (Some h) = 1 ∷ blob h

abbrev pub count8 : ℕ → List ℕ
count8 = big_bytes 8

-- a collection and an object of it
abbrev pub object : Coll → Oid → List ℕ
object c o = coll c ++ oid o

-- a tag, and the operation's fields
abbrev pub op : Op → List ℕ
op (Touch c o) = 1 ∷ object c o
op (Write c o at bytes) = 2 ∷ (object c o ++ (count8 at ++ blob bytes))
op (Zero c o at len) = 3 ∷ (object c o ++ (count8 at ++ count8 len))
op (Truncate c o len) = 4 ∷ (object c o ++ count8 len)
op (Remove c o) = 5 ∷ object c o
op (SetAttrs c o pairs) = 6 ∷ (object c o ++ counted pair pairs)
op (RmAttr c o name) = 7 ∷ (object c o ++ blob name)
op (RmAttrs c o) = 8 ∷ object c o
op (Clone c o c2 o2) = 9 ∷ (object c o ++ object c2 o2)
op (CloneRange c o c2 o2 from len to) = 10 ∷ (object c o ++ (object c2 o2 ++ (count8 from ++ (count8 len ++ count8 to))))
op (MoveRename c o c2 o2) = 11 ∷ (object c o ++ object c2 o2)
op (MkColl c) = 12 ∷ coll c
op (RmColl c) = 13 ∷ coll c
op (OmapClear c o) = 14 ∷ object c o
op (OmapSet c o h pairs) = 15 ∷ (object c o ++ (header h ++ counted pair pairs))
op (OmapRemove c o keys) = 16 ∷ (object c o ++ counted blob keys)
op (OmapRange c o from to) = 17 ∷ (object c o ++ (blob from ++ blob to))

-- the number of operations, and each of them
abbrev pub payload : List Op → List ℕ
payload ops = big_bytes 4 (length ops) ++ flat_map op ops

-- what has a spelling
abbrev pub Fits8 : ℕ → Type 0
Fits8 n = n < 2 ^ 64

abbrev pub BlobFits : List ℕ → Type 0
BlobFits bytes = length bytes < 2 ^ 32

abbrev pub PairFits : Pair → Type 0
PairFits p = BlobFits p.key × BlobFits p.value

abbrev pub AllFit : {A : Type 0} → (A → Type 0) → List A → Type 0
AllFit fits xs = (length xs < 2 ^ 32) × AllByRecursion fits xs

abbrev pub HeaderFits : Option (List ℕ) → Type 0
HeaderFits h = IfSome h BlobFits

abbrev pub ObjectFits : Coll → Oid → Type 0
ObjectFits c o = CollFits c × OidFits o

abbrev pub OpFits : Op → Type 0
OpFits (Touch c o) = ObjectFits c o
OpFits (Write c o at bytes) = ObjectFits c o × (Fits8 at × BlobFits bytes)
OpFits (Zero c o at len) = ObjectFits c o × (Fits8 at × Fits8 len)
OpFits (Truncate c o len) = ObjectFits c o × Fits8 len
OpFits (Remove c o) = ObjectFits c o
OpFits (SetAttrs c o pairs) = ObjectFits c o × AllFit PairFits pairs
OpFits (RmAttr c o name) = ObjectFits c o × BlobFits name
OpFits (RmAttrs c o) = ObjectFits c o
OpFits (Clone c o c2 o2) = ObjectFits c o × ObjectFits c2 o2
OpFits (CloneRange c o c2 o2 from len to) = ObjectFits c o × (ObjectFits c2 o2 × (Fits8 from × (Fits8 len × Fits8 to)))
OpFits (MoveRename c o c2 o2) = ObjectFits c o × ObjectFits c2 o2
OpFits (MkColl c) = CollFits c
OpFits (RmColl c) = CollFits c
OpFits (OmapClear c o) = ObjectFits c o
OpFits (OmapSet c o h pairs) = ObjectFits c o × (HeaderFits h × AllFit PairFits pairs)
OpFits (OmapRemove c o keys) = ObjectFits c o × AllFit BlobFits keys
OpFits (OmapRange c o from to) = ObjectFits c o × (BlobFits from × BlobFits to)

abbrev pub OpsFit : List Op → Type 0
OpsFit ops = (length ops ≤ 4096) × AllByRecursion OpFits ops

-- what of it is no matter of an operation's type
abbrev pub IsShort : Op → Type 0
IsShort (Write c o at bytes) = BlobFits bytes
IsShort (SetAttrs c o pairs) = AllFit PairFits pairs
IsShort (RmAttr c o name) = BlobFits name
IsShort (OmapSet c o h pairs) = HeaderFits h × AllFit PairFits pairs
IsShort (OmapRemove c o keys) = AllFit BlobFits keys
IsShort (OmapRange c o from to) = BlobFits from × BlobFits to
IsShort _ = Unit {0}
