-- Bytes as a script spells them: `x` and two lower-case digits for each.
use Rattle.std.specs.Prelude.{ℕ, ◌+◌, ◌-◌, ◌*◌, ◌&&◌, nat_le, ◌==◌, if◌then◌else◌, List, [], ◌∷◌, Option, None, Some}
use Rattle.hex.specs.Hex.{encode_lower}

abbrev pub bytes_text : List ℕ → List ℕ
bytes_text bytes = 120 ∷ encode_lower bytes

-- the value of a lower-case digit
abbrev pub digit_value : ℕ → Option ℕ
digit_value c =
    if nat_le 48 c && nat_le c 57 then Some (c - 48)
    else if nat_le 97 c && nat_le c 102 then Some (c - 87)
    else None

abbrev pub byte_of : Option ℕ → Option ℕ → Option ℕ
byte_of (Some high) (Some low) = Some (high * 16 + low)
byte_of _ _ = None

abbrev pub before_bytes : Option ℕ → Option (List ℕ) → Option (List ℕ)
before_bytes (Some byte) (Some bytes) = Some (byte ∷ bytes)
before_bytes _ _ = None

-- the bytes of pairs of digits
unfoldable pub bytes_of_digits : List ℕ → Option (List ℕ)
bytes_of_digits [] = Some []
bytes_of_digits (digit ∷ []) = None
bytes_of_digits (high ∷ low ∷ digits) = before_bytes (byte_of (digit_value high) (digit_value low)) (bytes_of_digits digits)

-- the bytes that a word spells
unfoldable pub bytes_of : List ℕ → Option (List ℕ)
bytes_of [] = None
bytes_of (x ∷ digits) = if x == 120 then bytes_of_digits digits else None
