-- A number's text.
use Rattle.std.proofs.Common.{◌≡◌, ℕ, zero, suc, ◌+◌, ◌*◌, ◌/◌, ◌<◌, ◌^◌, List, [], ◌∷◌, take, length, true, false, is_err, nat_eq, refl, ◌∙◌, ap, subst, sym, arith, Option, Some, None, Result, Ok, Err, All, length-append}
use Rattle.std.specs.Prelude.{MatchResult}
use Rattle.std.specs.Cmp.Lexicographic.{pointwise, nat_list_eq_equiv}
use Rattle.std.proofs.lemmas.List.{take_at}
use Rattle.std.proofs.lemmas.List.Elements.{All-cons, All-nil, All-head, All-tail}
use Rattle.std.proofs.lemmas.Nat.{mod_below, from_be_bytes-to_be_bytes_8}
use Rattle.std.specs.Int.{byte_at, bytes_high_first, to_be_bytes, from_be_bytes, w64}
use Rattle.hex.specs.Hex.{encode_lower, decode_sized, IsBytes, lower_digits}
use Rattle.hex.specs.declared.error.FromHexError.{FromHexError}
use Rattle.hex.proofs.HexLemmas.{length-encode_with, decode_sized-encode_lower}
use Rattle.commit_point.specs.Number.{spelled}

byte_small : (k n : ℕ) → byte_at k n < 256
byte_small zero n = mod_below n 256 (omega arith)
byte_small (suc k) n = mod_below (n / 256 ^ suc k) 256 (omega arith)

bytes_small : (k n : ℕ) → All (λ x. x < 256) (bytes_high_first k n)
bytes_small zero n = All-nil (λ x. x < 256)
bytes_small (suc k) n = All-cons (λ x. x < 256) (byte_at k n) (bytes_high_first k n) (byte_small k n) (bytes_small k n)

are_bytes : (bytes : List ℕ) → All (λ x. x < 256) bytes → IsBytes bytes
are_bytes [] all i = omega arith
are_bytes (b ∷ bs) all zero = All-head (λ x. x < 256) b bs all
are_bytes (b ∷ bs) all (suc i) = are_bytes bs (All-tail (λ x. x < 256) b bs all) i

abbrev pub eight : ℕ → List ℕ
eight n = to_be_bytes w64 n

eight_long : (n : ℕ) → length (eight n) ≡ 8
eight_long n = refl

digits_length : (n : ℕ) → length (encode_lower (eight n)) ≡ 16
digits_length n = length-encode_with lower_digits (eight n) ∙ ap (λ (k : ℕ). 2 * k) (eight_long n)

pub spelled_length : (n : ℕ) → length (spelled n) ≡ 17
spelled_length n = length-append (encode_lower (eight n)) (10 ∷ []) ∙ ap (λ (k : ℕ). k + 1) (digits_length n)

pub first_digits : (n : ℕ) → take 16 (spelled n) ≡ encode_lower (eight n)
first_digits n = take_at (encode_lower (eight n)) (10 ∷ []) 16 (digits_length n)

-- the first digits of a number's text are those of its bytes
pub spelled_bytes : (text : List ℕ) (n : ℕ) → text ≡ spelled n → decode_sized (take 16 text) 8 ≡ Ok (eight n)
spelled_bytes text n is =
    ap (λ (l : List ℕ). decode_sized l 8) (ap (take 16) is ∙ first_digits n) ∙ decode_sized-encode_lower (eight n) 8 (eight_long n) (are_bytes (eight n) (bytes_small 8 n))

-- what decoding those digits answers
pub decoded : (text digits : List ℕ) (n room : ℕ) (r : Result Unit FromHexError) (out : List ℕ) → digits ≡ take 16 text → room ≡ 8 → text ≡ spelled n
    → MatchResult (decode_sized digits room) (λ bytes. (r ≡ Ok tt) × (out ≡ bytes)) (λ e. r ≡ Err e) → (r ≡ Ok tt) × (out ≡ eight n)
decoded text digits n room r out at long is value =
    subst (λ (d : Result (List ℕ) FromHexError). MatchResult d (λ bytes. (r ≡ Ok tt) × (out ≡ bytes)) (λ e. r ≡ Err e))
    (ap (λ (l : List ℕ). decode_sized l room) at ∙ ap (λ (k : ℕ). decode_sized (take 16 text) k) long ∙ spelled_bytes text n is) value

pub number_back : (n : ℕ) (out : List ℕ) → n < 2 ^ 63 → out ≡ eight n → from_be_bytes w64 out ≡ n
number_back n out small is = ap (from_be_bytes w64) is ∙ from_be_bytes-to_be_bytes_8 n (omega (arith, small))

pub one_number : (a b : ℕ) → Some a ≡ Some b → a ≡ b
one_number a b e = cc

pub differs : true ≡ false → ⊥
differs e = cc

pub no_fault : (r : Result Unit FromHexError) → r ≡ Ok tt → is_err r ≡ true → ⊥
no_fault r ok is = differs (sym is ∙ ap (λ (x : Result Unit FromHexError). is_err x) ok)

pub texts_same : (a b : List ℕ) → a ≡ b → pointwise nat_eq a b ≡ false → ⊥
texts_same a b same other = differs (sym (nat_list_eq_equiv.refl a) ∙ ap (λ (l : List ℕ). pointwise nat_eq a l) same ∙ other)
