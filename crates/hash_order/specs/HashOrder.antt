-- The hash order.
use Rattle.std.specs.Prelude.{◌≡◌}
use Rattle.std.specs.Cmp.Lexicographic.{slice_cmp}
use Rattle.std.specs.Ordering.{nat_cmp, ordering_then}
use Rattle.std.specs.declared.cmp.Ordering.{Ordering}
use Rattle.std.specs.declared.cmp.Ordering.TheVariants.{Equal}
use Rattle.fs_names.specs.Reading.{OidFits}
use Rattle.fs_names.specs.Text.{hash_digits, oid_text}
use Rattle.fs_names.specs.declared.oid.Oid.{Oid}

-- the digits of the hashes, the least significant first, and then the bytes of the texts
abbrev pub hash_order : Oid → Oid → Ordering
hash_order a b = ordering_then (slice_cmp nat_cmp (hash_digits a.hash) (hash_digits b.hash)) (slice_cmp nat_cmp (oid_text a) (oid_text b))

-- an order agrees with it on all objects that there are
abbrev pub IsHashOrder : (Oid → Oid → Ordering) → Type 0
IsHashOrder R = (a b : Oid) → OidFits a → OidFits b → R a b ≡ hash_order a b

abbrev pub TiesAreEqual : Type 0
TiesAreEqual = (a b : Oid) → OidFits a → OidFits b → hash_order a b ≡ Equal → a ≡ b
