-- What texts and values tell of each other.
use Rattle.std.specs.Prelude.{◌≡◌, ℕ, List, Some, Ok}
use Rattle.std.specs.Char.{is_ascii_graphic}
use Rattle.std.specs.Cmp.Lexicographic.{slice_cmp}
use Rattle.std.specs.List.{AllPass}
use Rattle.std.specs.Ordering.{nat_cmp, ordering_then}
use Rattle.fs_names.specs.Reading.{oid_of, OidFits, coll_of, CollFits}
use Rattle.fs_names.specs.Order.{oid_cmp}
use Rattle.fs_names.specs.Text.{oid_text, coll_text, hash_digits}
use Rattle.fs_names.specs.declared.oid.Oid.{Oid}
use Rattle.fs_names.specs.declared.coll.Coll.{Coll}

-- The text of an object is read as the object, and what is read as an object is the object's text. So no object has two texts,
-- and no text names two objects.
abbrev pub OidTextsAreRead : Type 0
OidTextsAreRead = (o : Oid) → OidFits o → oid_of (oid_text o) ≡ Ok o

abbrev pub OidsReadAreSpelled : Type 0
OidsReadAreSpelled = (text : List ℕ) (o : Oid) → oid_of text ≡ Ok o → (oid_text o ≡ text) × OidFits o

-- each byte is from 0x21 to 0x7E: no blank and no newline
abbrev pub OidTextsPrint : Type 0
OidTextsPrint = (o : Oid) → OidFits o → AllPass is_ascii_graphic (oid_text o)

-- the same of collections
abbrev pub CollTextsAreRead : Type 0
CollTextsAreRead = (c : Coll) → CollFits c → coll_of (coll_text c) ≡ Some c

abbrev pub CollsReadAreSpelled : Type 0
CollsReadAreSpelled = (text : List ℕ) (c : Coll) → coll_of text ≡ Some c → (coll_text c ≡ text) × CollFits c

abbrev pub CollTextsPrint : Type 0
CollTextsPrint = (c : Coll) → CollFits c → AllPass is_ascii_graphic (coll_text c)

-- objects are ordered by the digits of their hashes, the least significant first, and then by their texts: nothing else decides
abbrev pub OidOrderIsByTexts : Type 0
OidOrderIsByTexts =
    (a b : Oid) → OidFits a → OidFits b
    → oid_cmp a b ≡ ordering_then (slice_cmp nat_cmp (hash_digits a.hash) (hash_digits b.hash)) (slice_cmp nat_cmp (oid_text a) (oid_text b))
