-- Objects: a finite map from collection to a finite map from object name to object.
use Rattle.std.specs.Prelude.{ℕ, List, [], Option, None, Some, refl}
use Rattle.std.specs.Ordering.{nat_cmp}
use Rattle.std.specs.Cmp.Lexicographic.{slice_cmp}
use Rattle.std.specs.Option.{unwrap_or}
use Rattle.std.specs.FinMap as map
use Rattle.std.specs.Coded.{Coded, code_by, coded×, coded_ℕ, coded_list}
use Rattle.fs_names.specs.declared.oid.Oid.{Oid}
use Rattle.fs_names.specs.declared.coll.Coll.{Coll}
use Rattle.fs_names.specs.Order.{oid_cmp, coll_cmp}
use Rattle.fs_names.specs.Codes.{oid_code, coll_code}

-- from byte lists to byte lists, in byte order
abbrev pub ByteMap : Type 0
ByteMap = map.FinMap (slice_cmp nat_cmp) (List ℕ)

abbrev pub bytes_code : Coded (List ℕ)
bytes_code = coded_list coded_ℕ

abbrev pub map_code : Coded ByteMap
map_code = map.code bytes_code bytes_code

pub record Object : Type 0 where
  pub bytes : List ℕ
  pub attrs : ByteMap
  pub header : List ℕ
  pub omap : ByteMap

abbrev pub object_code : Coded Object
object_code =
    code_by (List ℕ × (ByteMap × (List ℕ × ByteMap))) (coded× bytes_code (coded× map_code (coded× bytes_code map_code)))
    (λ x. (x.bytes, (x.attrs, (x.header, x.omap)))) (λ p. record { bytes = p.0; attrs = p.1.0; header = p.1.1.0; omap = p.1.1.1 }) (λ _. refl)

-- what a missing object reads as
abbrev pub empty_object : Object
empty_object = record { bytes = []; attrs = map.empty; header = []; omap = map.empty }

-- the objects of one collection
abbrev pub Shelf : Type 0
Shelf = map.FinMap oid_cmp Object

abbrev pub shelf_code : Coded Shelf
shelf_code = map.code oid_code object_code

abbrev pub Objects : Type 0
Objects = map.FinMap coll_cmp Shelf

abbrev pub objects_code : Coded Objects
objects_code = map.code coll_code shelf_code

-- none where the object or its collection is missing
abbrev pub on_shelf : Option Shelf → Oid → Option Object
on_shelf None o = None
on_shelf (Some s) o = map.get s o

abbrev pub look : Objects → Coll → Oid → Option Object
look O c o = on_shelf (map.get O c) o

abbrev pub read_object : Objects → Coll → Oid → Object
read_object O c o = unwrap_or (look O c o) empty_object

-- a change of one collection, which changes nothing where it is missing
abbrev pub shelved : Objects → Coll → (Shelf → Shelf) → Option Shelf → Objects
shelved O c f None = O
shelved O c f (Some s) = map.insert O c (f s)

unfoldable pub with_object : Objects → Coll → Oid → Object → Objects
with_object O c o x = shelved O c (λ s. map.insert s o x) (map.get O c)

unfoldable pub without_object : Objects → Coll → Oid → Objects
without_object O c o = shelved O c (λ s. map.remove s o) (map.get O c)
