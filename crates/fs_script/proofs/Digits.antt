-- The bytes of the digits so far, and the digits that are left.
use Rattle.std.proofs.Common.{◌≡◌, ℕ, ◌+◌, ◌-◌, ◌*◌, ◌/◌, ◌≤◌, ◌<◌, List, [], ◌∷◌, ◌++◌, length, take, drop, get_or, refl, sym, ◌∙◌, ap, append_assoc, arith}
use Rattle.std.proofs.lemmas.List.{take_all}
use mathlib.Core.List.{append-nil}
use Rattle.std.specs.Prelude.{Option, None, Some}
use Rattle.fs_script.specs.Bytes.{digit_value, byte_of, before_bytes, bytes_of_digits}

-- the bytes so far, and then those of the others
abbrev pub after_bytes : List ℕ → Option (List ℕ) → Option (List ℕ)
after_bytes bytes None = None
after_bytes bytes (Some more) = Some (bytes ++ more)

-- so many bytes so far, in a vector with room for so many
pub record Decoded (digits bytes : List ℕ) (len room : ℕ) (rest : List ℕ) : Type 0 where
  pub said : bytes_of_digits digits ≡ after_bytes bytes (bytes_of_digits rest)
  pub fits : 2 * len + length rest ≤ 2 * room + 1

before-any : (r : Option (List ℕ)) → r ≡ after_bytes [] r
before-any None = refl
before-any (Some bytes) = refl

-- before the first byte
pub none-yet : (digits bytes : List ℕ) (len room : ℕ) → bytes ≡ [] → len ≡ 0 → room ≡ length digits / 2 → Decoded digits bytes len room digits
none-yet digits bytes len room is none exact = record {
  said = before-any (bytes_of_digits digits) ∙ ap (λ (l : List ℕ). after_bytes l (bytes_of_digits digits)) (sym is);
  fits = omega (arith, none, exact);
}

after-byte : (bytes : List ℕ) (byte : ℕ) (r : Option (List ℕ)) → after_bytes bytes (before_bytes (Some byte) r) ≡ after_bytes (bytes ++ byte ∷ []) r
after-byte bytes byte None = refl
after-byte bytes byte (Some more) = ap Some (sym (append_assoc bytes (byte ∷ []) more))

one-byte : (all bytes new : List ℕ) (high low byte : ℕ) (more : List ℕ) → bytes_of_digits all ≡ after_bytes bytes (bytes_of_digits (high ∷ low ∷ more))
    → byte_of (digit_value high) (digit_value low) ≡ Some byte → new ≡ bytes ++ byte ∷ []
    → bytes_of_digits all ≡ after_bytes new (bytes_of_digits more)
unfolding bytes_of_digits
one-byte all bytes new high low byte more so_far value added =
    so_far ∙ ap (λ (b : Option ℕ). after_bytes bytes (before_bytes b (bytes_of_digits more))) value
    ∙ after-byte bytes byte (bytes_of_digits more)
    ∙ ap (λ (l : List ℕ). after_bytes l (bytes_of_digits more)) (sym added)

-- a byte more, by its digits' places
pub next-byte : (all bytes new rest : List ℕ) (byte len room after room_after : ℕ) → Decoded all bytes len room rest → 2 ≤ length rest
    → byte_of (digit_value (get_or rest 0 0)) (digit_value (get_or rest 1 0)) ≡ Some byte → new ≡ bytes ++ byte ∷ []
    → after ≡ len + 1 → room_after ≡ room
    → Decoded all new after room_after (take (length rest - 2) (drop 2 rest))
next-byte all bytes new [] byte len room after room_after so_far long value added more same = absurd (omega (arith, long))
next-byte all bytes new (digit ∷ []) byte len room after room_after so_far long value added more same = absurd (omega (arith, long))
next-byte all bytes new (high ∷ low ∷ rest) byte len room after room_after so_far long value added more same =
    let whole : take (length (high ∷ low ∷ rest) - 2) rest ≡ rest = take_all (length (high ∷ low ∷ rest) - 2) rest (omega arith) in
    let had : 2 * len + (length rest + 2) ≤ 2 * room + 1 = omega (arith, so_far.fits) in record {
      said =
          one-byte all bytes new high low byte rest so_far.said value added
          ∙ ap (λ (l : List ℕ). after_bytes new (bytes_of_digits l)) (sym whole);
      fits =
          let left : length (take (length (high ∷ low ∷ rest) - 2) rest) ≡ length rest = ap length whole in
          omega (arith, had, left, more, same);
    }

-- there is room for another byte
pub room-left : (all bytes rest : List ℕ) (len room : ℕ) → Decoded all bytes len room rest → 2 ≤ length rest → len < room
room-left all bytes rest len room so_far long = let had = so_far.fits in omega (arith, had, long)

pub bad-pair : (all bytes rest : List ℕ) (len room high low : ℕ) (more : List ℕ) → Decoded all bytes len room rest
    → rest ≡ high ∷ low ∷ more → byte_of (digit_value high) (digit_value low) ≡ None → bytes_of_digits all ≡ None
unfolding bytes_of_digits
bad-pair all bytes rest len room high low more so_far is value =
    so_far.said ∙ ap (λ (l : List ℕ). after_bytes bytes (bytes_of_digits l)) is
    ∙ ap (λ (b : Option ℕ). after_bytes bytes (before_bytes b (bytes_of_digits more))) value

pub all-bytes : (all bytes rest : List ℕ) (len room : ℕ) → Decoded all bytes len room rest → rest ≡ [] → bytes_of_digits all ≡ Some bytes
unfolding bytes_of_digits
all-bytes all bytes rest len room so_far is =
    so_far.said ∙ ap (λ (l : List ℕ). after_bytes bytes (bytes_of_digits l)) is ∙ ap Some (append-nil bytes)

pub odd-digit : (all bytes rest : List ℕ) (len room digit : ℕ) → Decoded all bytes len room rest → rest ≡ digit ∷ []
    → bytes_of_digits all ≡ None
unfolding bytes_of_digits
odd-digit all bytes rest len room digit so_far is = so_far.said ∙ ap (λ (l : List ℕ). after_bytes bytes (bytes_of_digits l)) is

pub ruleset digits = (none-yet, bad-pair, all-bytes, odd-digit, room-left)
