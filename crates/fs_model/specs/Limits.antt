-- The limits of operations. Lengths count bytes.
use Rattle.std.specs.Prelude.{ℕ}

abbrev pub object_limit : ℕ
object_limit = 16777216

abbrev pub write_limit : ℕ
write_limit = 4194304

-- operations of a transaction
abbrev pub ops_limit : ℕ
ops_limit = 4096

-- an attribute's name, which is not empty
abbrev pub attr_name_limit : ℕ
attr_name_limit = 255

-- an attribute's value, an omap value or an omap header
abbrev pub value_limit : ℕ
value_limit = 65536

abbrev pub omap_key_limit : ℕ
omap_key_limit = 1024

-- the attributes, pairs or keys of one operation
abbrev pub pairs_limit : ℕ
pairs_limit = 65536
