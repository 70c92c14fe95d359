-- The texts of object names and of collections.
use Rattle.std.specs.Prelude.{ℕ, ◌/◌, ◌%◌, ◌^◌, true, false, cond, ◌||◌, eqb, ltb, nat_eq, List, [], ◌∷◌, ◌++◌, map, drop, Option, None, Some, codes}
use Rattle.std.specs.List.{flat_map, starts_with}
use Rattle.std.specs.Fmt.{digits, digit_glyph}
use Rattle.fs_names.specs.declared.oid.Snap.{Snap}
use Rattle.fs_names.specs.declared.oid.Snap.TheVariants.{Head, Dir, Id}
use Rattle.fs_names.specs.declared.oid.Oid.{Oid}
use Rattle.fs_names.specs.declared.coll.Coll.{Coll}
use Rattle.fs_names.specs.declared.coll.Coll.TheVariants.{Meta, Pg}

-- one byte of a name, a key or a namespace: `\` `/` `_` and 0 by a letter, others outside 0x21 to 0x7E by two digits
abbrev pub spelled : ℕ → List ℕ
spelled b =
    cond (eqb b 92) (92 ∷ 92 ∷ []) (
    cond (eqb b 47) (92 ∷ 115 ∷ []) (
    cond (eqb b 95) (92 ∷ 117 ∷ []) (
    cond (eqb b 0) (92 ∷ 110 ∷ []) (
    cond (ltb b 33 || ltb 126 b) (92 ∷ 120 ∷ digit_glyph false (b / 16) ∷ digit_glyph false (b % 16) ∷ []) (b ∷ [])))))

abbrev pub field_text : List ℕ → List ℕ
field_text = flat_map spelled

-- a first `DIR_` is `\d`, and a first `.` is `\.`
abbrev pub name_text : List ℕ → List ℕ
name_text bs =
    cond (starts_with nat_eq bs (codes "DIR_")) (92 ∷ 100 ∷ field_text (drop 4 bs)) (
    cond (starts_with nat_eq bs (codes ".")) (92 ∷ 46 ∷ field_text (drop 1 bs)) (field_text bs))

abbrev pub snap_text : Snap → List ℕ
snap_text Head = codes "head"
snap_text Dir = codes "snapdir"
snap_text (Id n) = digits 16 false n

abbrev pub pool_text : Option ℕ → List ℕ
pool_text None = codes "none"
pool_text (Some p) = digits 16 false p

-- the digit of a hash that the directories of a level go by, the least significant first
abbrev pub digit_at : ℕ → ℕ → ℕ
digit_at hash level = (hash / 16 ^ level) % 16

-- the eight digits of a hash, the least significant first
abbrev pub hash_digits : ℕ → List ℕ
hash_digits hash = map (digit_at hash) (0 ∷ 1 ∷ 2 ∷ 3 ∷ 4 ∷ 5 ∷ 6 ∷ 7 ∷ [])

-- and the other way round, in upper case
abbrev pub hash_text : ℕ → List ℕ
hash_text hash = map (λ level. digit_glyph true (digit_at hash level)) (7 ∷ 6 ∷ 5 ∷ 4 ∷ 3 ∷ 2 ∷ 1 ∷ 0 ∷ [])

unfoldable pub oid_text : Oid → List ℕ
oid_text o =
    name_text o.name ++ 95 ∷ field_text o.key ++ 95 ∷ snap_text o.snap ++ 95 ∷ hash_text o.hash ++ 95 ∷ field_text o.nspace ++ 95 ∷ pool_text o.pool

unfoldable pub coll_text : Coll → List ℕ
coll_text Meta = codes "meta"
coll_text (Pg pool seed temp) = digits 10 false pool ++ codes "." ++ digits 16 false seed ++ codes (cond temp "_TEMP" "_head")
