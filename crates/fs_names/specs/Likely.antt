-- How a text is looked up in the table of spellings: the byte that its first unit would stand for.
use Rattle.std.specs.Prelude.{ℕ, ◌+◌, ◌*◌, ◌==◌, Bool, ◌&&◌, not, if◌then◌else◌, nat_lt, List, [], ◌∷◌, Option, Some, None}
use Rattle.std.specs.Char.{digit_value, is_ascii_graphic}
use Rattle.std.specs.Option.{option_map, option_and_then}

-- a digit in either case
abbrev pub value_of_digit : ℕ → Option ℕ
value_of_digit d = if nat_lt (digit_value d) 16 then Some (digit_value d) else None

-- what follows `\x`
abbrev pub byte_of_digits : List ℕ → Option ℕ
byte_of_digits (high ∷ low ∷ rest) = option_and_then (λ h. option_map (λ l. h * 16 + l) (value_of_digit low)) (value_of_digit high)
byte_of_digits rest = None

-- a letter after `\`
abbrev pub byte_of_letter : ℕ → Option ℕ
byte_of_letter letter =
    if letter == 92 then Some 92 else (if letter == 115 then Some 47 else (if letter == 117 then Some 95 else (if letter == 110 then Some 0 else None)))

-- what follows `\`
abbrev pub byte_of_escape : List ℕ → Option ℕ
byte_of_escape [] = None
byte_of_escape (letter ∷ rest) = if letter == 120 then byte_of_digits rest else byte_of_letter letter

-- the only byte whose spelling may begin a text. Whether it does is still to be seen
abbrev pub likely_byte : List ℕ → Option ℕ
likely_byte [] = None
likely_byte (first ∷ rest) = if first == 92 then byte_of_escape rest else Some first

-- a byte that spells itself
abbrev pub is_plain : ℕ → Bool
is_plain b = is_ascii_graphic b && not (b == 92) && not (b == 47) && not (b == 95)
