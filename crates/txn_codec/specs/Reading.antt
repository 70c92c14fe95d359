-- Reading from left to right, with the first fault that is met.
use Rattle.std.specs.Prelude.{◌≡◌, ℕ, zero, suc, ◌+◌, Bool, true, false, if◌then◌else◌, ◌==◌, nat_lt, List, [], ◌∷◌, length, take, drop, Option, Some, None, Result, Ok, Err}
use Rattle.std.specs.Option.{option_map_or}
use Rattle.byteorder.specs.Endian.{big_number}
use Rattle.fs_names.specs.declared.coll.Coll.{Coll}
use Rattle.fs_names.specs.declared.coll.Coll.TheVariants.{Meta, Pg}
use Rattle.fs_names.specs.declared.oid.Oid.{Oid}
use Rattle.fs_names.specs.declared.oid.Snap.{Snap}
use Rattle.fs_names.specs.declared.oid.Snap.TheVariants.{Head, Dir, Id}
use Rattle.fs_names.specs.Codes.{oid_unpack}
use Rattle.fs_model.specs.declared.op.Op.{Op}
use Rattle.fs_model.specs.declared.op.Op.TheVariants.{Touch, Write, Zero, Truncate, Remove, SetAttrs, RmAttr, RmAttrs, Clone, CloneRange, MoveRename, MkColl, RmColl, OmapClear, OmapSet, OmapRemove, OmapRange}
use Rattle.fs_model.specs.declared.pair.Pair.{Pair}
use Rattle.txn_codec.specs.declared.fault.CodecFault.{CodecFault}
use Rattle.txn_codec.specs.declared.fault.CodecFault.TheVariants.{Short, BadTag, BadLength, Trailing, Memory}

-- what is left to read, and the place where it begins
pub record Rest : Type 0 where
  pub at : ℕ
  pub bytes : List ℕ

-- a value from the front, and what is left after it, or the first fault
abbrev pub Reader : Type 0 → Type 0
Reader A = Rest → Result (A × Rest) CodecFault

infixl 10 ◌>>=◌
abbrev pub ◌>>=◌ : {A B : Type 0} → Result A CodecFault → (A → Result B CodecFault) → Result B CodecFault
(Ok x) >>= f = f x
(Err e) >>= f = Err e

-- one after the other
infixr 20 ◌&◌
abbrev pub ◌&◌ : {A B : Type 0} → Reader A → Reader B → Reader (A × B)
(first & second) r = do
  a ← first r
  b ← second a.1
  Ok ((a.0, b.0), b.1)

abbrev pub mapped : {A B : Type 0} → (A → B) → Reader A → Reader B
mapped f read r = do
  a ← read r
  Ok (f a.0, a.1)

-- nothing is read
abbrev pub given : {A : Type 0} → A → Reader A
given a r = Ok (a, r)

-- n bytes
abbrev pub field : ℕ → Reader (List ℕ)
field n r = if nat_lt (length r.bytes) n then Err (Short r.at) else Ok (take n r.bytes, record { at = r.at + n; bytes = drop n r.bytes })

-- a number of n bytes
abbrev pub number : ℕ → Reader ℕ
number n = mapped (big_number n) (field n)

abbrev pub byte_of : ℕ → List ℕ → Result (ℕ × Rest) CodecFault
byte_of at [] = Err (Short at)
byte_of at (b ∷ bytes) = Ok (b, record { at = at + 1; bytes = bytes })

abbrev pub byte : Reader ℕ
byte r = byte_of r.at r.bytes

-- a byte that says what follows it; none where it isn't listed
abbrev pub tagged : {A : Type 0} → (ℕ → Option (Reader A)) → Reader A
tagged follows r = do
  tag ← byte r
  option_map_or (λ read. read tag.1) (follows tag.0) (Err (BadTag r.at))

abbrev pub flag_follows : ℕ → Option (Reader Bool)
flag_follows zero = Some (given false)
flag_follows (suc zero) = Some (given true)
flag_follows (suc (suc n)) = None

abbrev pub coll_follows : ℕ → Option (Reader Coll)
coll_follows zero = Some (given Meta)
coll_follows (suc zero) = Some (mapped (λ p. Pg p.0 p.1.0 p.1.1) (number 8 & number 4 & tagged flag_follows))
coll_follows (suc (suc n)) = None

abbrev pub snap_follows : ℕ → Option (Reader Snap)
snap_follows zero = Some (given Head)
snap_follows (suc zero) = Some (given Dir)
snap_follows (suc (suc zero)) = Some (mapped Id (number 8))
snap_follows (suc (suc (suc n))) = None

abbrev pub pool_follows : ℕ → Option (Reader (Option ℕ))
pool_follows zero = Some (given None)
pool_follows (suc zero) = Some (mapped Some (number 8))
pool_follows (suc (suc n)) = None

-- a name is any bytes, but few
unfoldable pub name_at : Reader (List ℕ)
name_at r = do
  len ← number 2 r
  if nat_lt 1024 len.0 then Err (BadLength r.at) else field len.0 len.1

unfoldable pub blob_at : Reader (List ℕ)
blob_at r = do
  len ← number 4 r
  field len.0 len.1

unfoldable pub coll_at : Reader Coll
coll_at = tagged coll_follows

unfoldable pub oid_at : Reader Oid
oid_at = mapped oid_unpack (name_at & name_at & name_at & tagged snap_follows & number 4 & tagged pool_follows)

-- that many values
abbrev pub repeated : {A : Type 0} → ℕ → Reader A → Reader (List A)
repeated zero read = given []
repeated (suc n) read = mapped (λ p. p.0 ∷ p.1) (read & repeated n read)

abbrev pub pair_of : List ℕ × List ℕ → Pair
pair_of p = record { key = p.0; value = p.1 }

unfoldable pub pair_at : Reader Pair
pair_at = mapped pair_of (blob_at & blob_at)

-- a number of values, and the values
abbrev pub counted_at : {A : Type 0} → Reader A → Reader (List A)
counted_at read r = do
  count ← number 4 r
  repeated count.0 read count.1

unfoldable pub pairs_at : Reader (List Pair)
pairs_at = counted_at pair_at

unfoldable pub blobs_at : Reader (List (List ℕ))
blobs_at = counted_at blob_at

abbrev pub header_follows : ℕ → Option (Reader (Option (List ℕ)))
header_follows zero = Some (given None)
header_follows (suc zero) = Some (mapped Some blob_at)
header_follows (suc (suc n)) = None

unfoldable pub object_at : Reader (Coll × Oid)
object_at = coll_at & oid_at

-- the operation of its fields
abbrev pub touch : Coll × Oid → Op
touch p = Touch p.0 p.1

abbrev pub write : (Coll × Oid) × (ℕ × List ℕ) → Op
write p = Write p.0.0 p.0.1 p.1.0 p.1.1

abbrev pub zero_part : (Coll × Oid) × (ℕ × ℕ) → Op
zero_part p = Zero p.0.0 p.0.1 p.1.0 p.1.1

abbrev pub truncate : (Coll × Oid) × ℕ → Op
truncate p = Truncate p.0.0 p.0.1 p.1

abbrev pub remove : Coll × Oid → Op
remove p = Remove p.0 p.1

abbrev pub set_attrs : (Coll × Oid) × List Pair → Op
set_attrs p = SetAttrs p.0.0 p.0.1 p.1

abbrev pub rm_attr : (Coll × Oid) × List ℕ → Op
rm_attr p = RmAttr p.0.0 p.0.1 p.1

abbrev pub rm_attrs : Coll × Oid → Op
rm_attrs p = RmAttrs p.0 p.1

abbrev pub clone : (Coll × Oid) × (Coll × Oid) → Op
clone p = Clone p.0.0 p.0.1 p.1.0 p.1.1

abbrev pub clone_range : (Coll × Oid) × ((Coll × Oid) × (ℕ × (ℕ × ℕ))) → Op
clone_range p = CloneRange p.0.0 p.0.1 p.1.0.0 p.1.0.1 p.1.1.0 p.1.1.1.0 p.1.1.1.1

abbrev pub move_rename : (Coll × Oid) × (Coll × Oid) → Op
move_rename p = MoveRename p.0.0 p.0.1 p.1.0 p.1.1

abbrev pub omap_clear : Coll × Oid → Op
omap_clear p = OmapClear p.0 p.1

abbrev pub omap_set : (Coll × Oid) × (Option (List ℕ) × List Pair) → Op
omap_set p = OmapSet p.0.0 p.0.1 p.1.0 p.1.1

abbrev pub omap_remove : (Coll × Oid) × List (List ℕ) → Op
omap_remove p = OmapRemove p.0.0 p.0.1 p.1

abbrev pub omap_range : (Coll × Oid) × (List ℕ × List ℕ) → Op
omap_range p = OmapRange p.0.0 p.0.1 p.1.0 p.1.1

abbrev pub op_follows : ℕ → Option (Reader Op)
op_follows tag =
    if tag == 1 then Some (mapped touch object_at) else (
    if tag == 2 then Some (mapped write (object_at & number 8 & blob_at)) else (
    if tag == 3 then Some (mapped zero_part (object_at & number 8 & number 8)) else (
    if tag == 4 then Some (mapped truncate (object_at & number 8)) else (
    if tag == 5 then Some (mapped remove object_at) else (
    if tag == 6 then Some (mapped set_attrs (object_at & pairs_at)) else (
    if tag == 7 then Some (mapped rm_attr (object_at & blob_at)) else (
    if tag == 8 then Some (mapped rm_attrs object_at) else (
    if tag == 9 then Some (mapped clone (object_at & object_at)) else (
    if tag == 10 then Some (mapped clone_range (object_at & object_at & number 8 & number 8 & number 8)) else (
    if tag == 11 then Some (mapped move_rename (object_at & object_at)) else (
    if tag == 12 then Some (mapped MkColl coll_at) else (
    if tag == 13 then Some (mapped RmColl coll_at) else (
    if tag == 14 then Some (mapped omap_clear object_at) else (
    if tag == 15 then Some (mapped omap_set (object_at & tagged header_follows & pairs_at)) else (
    if tag == 16 then Some (mapped omap_remove (object_at & blobs_at)) else (
    if tag == 17 then Some (mapped omap_range (object_at & blob_at & blob_at)) else None))))))))))))))))

unfoldable pub op_at : Reader Op
op_at = tagged op_follows

unfoldable pub ops_at : Reader (List Op)
ops_at r = do
  count ← number 4 r
  if nat_lt 4096 count.0 then Err (BadLength r.at) else repeated count.0 op_at count.1

-- the operations that all of the bytes spell, or the first fault
unfoldable pub decoded : List ℕ → Result (List Op) CodecFault
decoded bytes = do
  ops ← ops_at (record { at = 0; bytes = bytes })
  if length ops.1.bytes == 0 then Ok ops.0 else Err (Trailing ops.1.at)

-- What a call returned and left to read is what reading gives, unless memory ran out.
abbrev pub IsFault : {Y : Type 0} → CodecFault → Result Y CodecFault → Type 0
IsFault Memory read = Unit {0}
IsFault (Short at) read = read ≡ Err (Short at)
IsFault (BadTag at) read = read ≡ Err (BadTag at)
IsFault (BadLength at) read = read ≡ Err (BadLength at)
IsFault (Trailing at) read = read ≡ Err (Trailing at)

abbrev pub Reads : {X Y : Type 0} → (X → Y) → Result X CodecFault → Rest → Result (Y × Rest) CodecFault → Type 0
Reads view (Ok x) rest read = read ≡ Ok (view x, rest)
Reads view (Err fault) rest read = IsFault fault read

abbrev pub Decodes : {X Y : Type 0} → (X → Y) → Result X CodecFault → Result Y CodecFault → Type 0
Decodes view (Ok x) read = read ≡ Ok (view x)
Decodes view (Err fault) read = IsFault fault read
