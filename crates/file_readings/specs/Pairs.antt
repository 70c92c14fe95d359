-- Pairs of names and values.
use Rattle.std.specs.Prelude.{List, map as map_list}
use Rattle.std.specs.FinMap as map
use Rattle.fs_model.specs.declared.pair.Pair.{Pair}
use Rattle.fs_model.specs.Objects.{ByteMap}
use Rattle.object_file.specs.declared.attrs.AttrPair.{AttrPair}

-- pairs by name, in byte order
abbrev pub pairs_of : ByteMap → List Pair
pairs_of pairs = map_list (λ entry. record { key = entry.0; value = entry.1 }) (map.entries pairs)

-- an attribute as a pair
abbrev pub pair_of : AttrPair → Pair
pair_of attr = record { key = attr.name; value = attr.value }
