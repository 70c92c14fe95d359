-- Which object and which collection a text names.
use Rattle.std.specs.Prelude.{ℕ, ◌+◌, ◌^◌, ◌<◌, Bool, true, false, ◌&&◌, if◌then◌else◌, ◌==◌, nat_lt, ⊤, List, [], ◌∷◌, length, codes, Option, Some, None, IfSome, Result, Ok, Err}
use Rattle.std.specs.List.{slice_split, before_first, after_first}
use Rattle.std.specs.Option.{option_map, option_and_then, ok_or}
use Rattle.std.specs.Str.{bytes_eq}
use Rattle.std.specs.Str.Parse.{digits_value}
use Rattle.fs_names.specs.Names.{IsName}
use Rattle.fs_names.specs.Numbers.{number_of}
use Rattle.fs_names.specs.Text.{hash_text}
use Rattle.fs_names.specs.Units.{field_of, name_of}
use Rattle.fs_names.specs.declared.fault.NameFault.{NameFault}
use Rattle.fs_names.specs.declared.fault.NameFault.TheVariants.{BadField, TooLong}
use Rattle.fs_names.specs.declared.oid.Snap.{Snap}
use Rattle.fs_names.specs.declared.oid.Snap.TheVariants.{Head, Dir, Id}
use Rattle.fs_names.specs.declared.oid.Oid.{Oid}
use Rattle.fs_names.specs.declared.coll.Coll.{Coll}
use Rattle.fs_names.specs.declared.coll.Coll.TheVariants.{Meta, Pg}

-- the names that a value of the type can have
abbrev pub SnapFits : Snap → Type 0
SnapFits Head = ⊤
SnapFits Dir = ⊤
SnapFits (Id n) = n < 2 ^ 64

pub record OidFits (o : Oid) : Type 0 where
  pub name : IsName o.name
  pub key : IsName o.key
  pub nspace : IsName o.nspace
  pub snap : SnapFits o.snap
  pub hash : o.hash < 2 ^ 32
  pub pool : IfSome o.pool (λ p. p < 2 ^ 64)

abbrev pub CollFits : Coll → Type 0
CollFits Meta = ⊤
CollFits (Pg pool seed temp) = (pool < 2 ^ 64) × (seed < 2 ^ 32)

-- a number of 32 bits, and none where it has more
abbrev pub below_32_bits : ℕ → Option ℕ
below_32_bits n = if nat_lt n (2 ^ 32) then Some n else None

abbrev pub seed_of : List ℕ → Option ℕ
seed_of text = option_and_then below_32_bits (number_of 16 text)

-- `head` or `TEMP`: whether the collection is a temporary one
abbrev pub kind_of : List ℕ → Option Bool
kind_of text = if bytes_eq text (codes "head") then Some false else (if bytes_eq text (codes "TEMP") then Some true else None)

abbrev pub pg_from : Option ℕ → Option ℕ → Option Bool → Option Coll
pg_from (Some pool) (Some seed) (Some temp) = Some (Pg pool seed temp)
pg_from _ _ _ = None

abbrev pub is_dot : ℕ → Bool
is_dot b = b == 46

abbrev pub is_underscore : ℕ → Bool
is_underscore b = b == 95

-- the pool stands before the first `.`, the seed before the first `_` after it, and the kind after that
unfoldable pub pg_of : List ℕ → Option Coll
pg_of text =
    let group = after_first is_dot text in
    pg_from (number_of 10 (before_first is_dot text)) (seed_of (before_first is_underscore group)) (kind_of (after_first is_underscore group))

-- the collection that a text names, if it names one
unfoldable pub coll_of : List ℕ → Option Coll
coll_of text = if bytes_eq text (codes "meta") then Some Meta else pg_of text

abbrev pub snap_of : List ℕ → Option Snap
snap_of text = if bytes_eq text (codes "head") then Some Head else (if bytes_eq text (codes "snapdir") then Some Dir else option_map Id (number_of 16 text))

-- the number below 2 ^ 32 that eight upper-case digits spell
abbrev pub hash_of : List ℕ → Option ℕ
hash_of text =
    let hash = digits_value 16 text in
    if bytes_eq text (hash_text hash) && nat_lt hash (2 ^ 32) then Some hash else None

abbrev pub pool_of : List ℕ → Option (Option ℕ)
pool_of text = if bytes_eq text (codes "none") then Some None else option_map Some (number_of 16 text)

-- one after the other, up to the first fault
infixl 10 ◌>>=◌
abbrev pub ◌>>=◌ : {A B : Type 0} → Result A NameFault → (A → Result B NameFault) → Result B NameFault
(Ok x) >>= f = f x
(Err e) >>= f = Err e

-- a field with at most 1,024 bytes
abbrev pub within_limit : ℕ → List ℕ → Result (List ℕ) NameFault
within_limit field bytes = if nat_lt 1024 (length bytes) then Err (TooLong field) else Ok bytes

-- the name, key and namespace of these fields: first each unit is one, and then none is too long
abbrev pub names_of : List ℕ → List ℕ → List ℕ → List ℕ → List ℕ → Result (List ℕ × List ℕ × List ℕ) NameFault
names_of name key snap hash nspace =
    let key_at = length name + 1 in
    let nspace_at = key_at + length key + 1 + length snap + 1 + length hash + 1 in
    name_of name >>= λ n. field_of key_at key >>= λ k. field_of nspace_at nspace >>= λ s.
    within_limit 0 n >>= λ _. within_limit 1 k >>= λ _. within_limit 4 s >>= λ _. Ok (n, k, s)

-- the object that six fields name, or the first fault
unfoldable pub oid_of_six : List ℕ → List ℕ → List ℕ → List ℕ → List ℕ → List ℕ → Result Oid NameFault
oid_of_six name key snap hash nspace pool =
    names_of name key snap hash nspace >>= λ names. ok_or (snap_of snap) (BadField 2) >>= λ s. ok_or (hash_of hash) (BadField 3) >>= λ h.
    ok_or (pool_of pool) (BadField 5) >>= λ p. Ok (record { name = names.0; key = names.1; nspace = names.2; snap = s; hash = h; pool = p })

abbrev pub oid_of_fields : List (List ℕ) → Result Oid NameFault
oid_of_fields (name ∷ key ∷ snap ∷ hash ∷ nspace ∷ pool ∷ []) = oid_of_six name key snap hash nspace pool
oid_of_fields _ = Err (BadField 6)

-- the object that a text names, or the first fault of the text
unfoldable pub oid_of : List ℕ → Result Oid NameFault
oid_of text = oid_of_fields (slice_split is_underscore text)
