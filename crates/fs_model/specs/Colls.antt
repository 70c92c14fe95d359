-- Sets of collections.
use Rattle.std.specs.FinSet as set
use Rattle.std.specs.FinMap as map
use Rattle.fs_names.specs.Order.{coll_cmp}
use Rattle.fs_model.specs.Objects.{Objects}

abbrev pub CollSet : Type 0
CollSet = set.FinSet coll_cmp

-- the collections of objects
unfoldable pub colls_of : Objects → CollSet
colls_of O = set.from_list (map.keys O)
