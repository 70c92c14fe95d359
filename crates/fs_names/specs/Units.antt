-- The text of a name, a key or a namespace, read unit by unit.
use Rattle.std.specs.Prelude.{ℕ, zero, suc, ◌+◌, ◌-◌, Bool, ◌||◌, if◌then◌else◌, nat_eq, List, [], ◌∷◌, ◌++◌, length, drop, codes, Option, Result, Ok, Err}
use Rattle.std.specs.List.{find, range_with_len, starts_with}
use Rattle.std.specs.Option.{option_map_or}
use Rattle.fs_names.specs.declared.fault.NameFault.{NameFault}
use Rattle.fs_names.specs.declared.fault.NameFault.TheVariants.{BadEscape}
use Rattle.fs_names.specs.Text.{spelled}

abbrev pub begins : List ℕ → List ℕ → Bool
begins text front = starts_with nat_eq text front

-- the byte whose spelling begins a text. No byte's spelling begins another's, so there is at most one
unfoldable pub unit_byte : List ℕ → Option ℕ
unit_byte text = find (λ b. begins text (spelled b)) (range_with_len 0 256)

-- these bytes, and then those that were read
abbrev pub after : List ℕ → Result (List ℕ) NameFault → Result (List ℕ) NameFault
after front (Ok bytes) = Ok (front ++ bytes)
after front (Err fault) = Err fault

-- The bytes that a text's units spell, or the first place where something begins that is no unit.
-- The text stands at place `at`, and its first `left` bytes belong to a unit that was read.
unfoldable pub units_of : ℕ → ℕ → List ℕ → Result (List ℕ) NameFault
units_of left at [] = Ok []
units_of (suc left) at (c ∷ text) = units_of left (at + 1) text
units_of zero at (c ∷ text) =
    option_map_or (λ b. after (b ∷ []) (units_of (length (spelled b) - 1) (at + 1) text)) (unit_byte (c ∷ text)) (Err (BadEscape at))

-- the key or namespace that a text at a place spells
abbrev pub field_of : ℕ → List ℕ → Result (List ℕ) NameFault
field_of at text = units_of 0 at text

-- The name that a text spells. There `\d` is a first `DIR_`, `\.` is a first `.`, and neither has another spelling.
abbrev pub name_of : List ℕ → Result (List ℕ) NameFault
name_of text =
    if begins text (92 ∷ 100 ∷ []) then after (codes "DIR_") (field_of 2 (drop 2 text)) else (
    if begins text (92 ∷ 46 ∷ []) then after (codes ".") (field_of 2 (drop 2 text)) else (
    if begins text (codes ".") || begins text (codes "DIR" ++ 92 ∷ 117 ∷ []) then Err (BadEscape 0) else field_of 0 text))

-- how many bytes were read
abbrev pub counted : Result (List ℕ) NameFault → Result ℕ NameFault
counted (Ok bytes) = Ok (length bytes)
counted (Err fault) = Err fault
