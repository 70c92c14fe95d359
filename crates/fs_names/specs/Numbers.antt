-- Numbers as names and scripts spell them.
use Rattle.std.specs.Prelude.{◌≡◌, ◌↔◌, ℕ, ◌^◌, ◌<◌, Bool, false, ◌&&◌, not, if◌then◌else◌, nat_lt, List, Option, Some, None}
use Rattle.std.specs.Char.{digit_value, is_ascii_lowercase, is_ascii_uppercase}
use Rattle.std.specs.Fmt.{digits}
use Rattle.std.specs.Str.{bytes_eq}
use Rattle.std.specs.Str.Parse.{digits_value}

-- a digit of a base that is no upper-case letter
abbrev pub is_lower_digit : ℕ → ℕ → Bool
is_lower_digit base b = nat_lt (digit_value b) base && not (is_ascii_uppercase b)

abbrev pub lower_value : ℕ → ℕ → Option ℕ
lower_value base b = if is_lower_digit base b then Some (digit_value b) else None

-- a hexadecimal digit that is no lower-case letter
abbrev pub is_upper_digit : ℕ → Bool
is_upper_digit b = nat_lt (digit_value b) 16 && not (is_ascii_lowercase b)

abbrev pub upper_value : ℕ → Option ℕ
upper_value b = if is_upper_digit b then Some (digit_value b) else None

-- a number of 64 bits, and none where it has more
abbrev pub below_64_bits : ℕ → Option ℕ
below_64_bits n = if nat_lt n (2 ^ 64) then Some n else None

-- The number below 2 ^ 64 that a text spells in a base: the text is the number's digits, in lower case and without leading zeros.
unfoldable pub number_of : ℕ → List ℕ → Option ℕ
number_of base text =
    let n = digits_value base text in
    if nat_lt n (2 ^ 64) && bytes_eq text (digits base false n) then Some n else None

-- a text spells a number exactly where it is the number's digits
abbrev pub IsSpelledByDigits : ℕ → Type 0
IsSpelledByDigits base = (text : List ℕ) (n : ℕ) → (number_of base text ≡ Some n) ↔ ((n < 2 ^ 64) × (text ≡ digits base false n))
