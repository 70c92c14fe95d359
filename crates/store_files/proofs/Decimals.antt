-- Numbers as settings have them.
use Rattle.std.proofs.Common.{◌≡◌, ◌≢◌, ◌<◌, ◌^◌, ℕ, ℤ, pos, negsuc, suc, List, ◌∷◌, drop, Option, Some, None, SFits, w32, MatchOption, All, true, false, sym, ap, subst, ◌∙◌, arith}
use Rattle.std.proofs.lemmas.List.Elements.{All-weaker, All-head, All-cons}
use Rattle.std.specs.Fmt.{decimal, signed_decimal}
use Rattle.fs_names.specs.Numbers.{number_of, is_lower_digit}
use Rattle.fs_names.proofs.Digits.{number_gives, number_reads, digits-lower, digits-value}
use Rattle.store_files.specs.Lines.{NoNewline}
use Rattle.store_files.specs.Texts.{IsWithin, IsMerge}

pub number_read : (text : List ℕ) (r : Option ℕ) → r ≡ number_of 10 text → MatchOption r ((n : ℕ) → n < 2 ^ 64 → text ≢ decimal n) (λ n. (n < 2 ^ 64) × (text ≡ decimal n))
number_read text None is = λ n small spelled.
    let e : None ≡ Some n = is ∙ ap (number_of 10) spelled ∙ number_reads 10 n (omega arith) (omega arith) small in
    cc
number_read text (Some n) is = number_gives 10 text n (sym is)

-- a number has one text, and a text one number
pub one_decimal : (a b : ℕ) → a < 2 ^ 64 → b < 2 ^ 64 → decimal a ≡ decimal b → a ≡ b
one_decimal a b small small2 e =
    sym (digits-value 10 a (omega arith) (omega arith) small) ∙ ap (λ l. Rattle.std.specs.Str.Parse.digits_value 10 l) e ∙ digits-value 10 b (omega arith) (omega arith) small2

lower : (n : ℕ) → All (λ b. is_lower_digit 10 b ≡ true) (decimal n)
lower n = digits-lower 10 n (omega arith) (omega arith)

not_newline : (b : ℕ) → is_lower_digit 10 b ≡ true → b ≢ 10
not_newline b h e = let z : true ≡ false = sym h ∙ ap (is_lower_digit 10) e in cc

pub decimal_clear : (n : ℕ) → NoNewline (decimal n)
decimal_clear n = All-weaker (λ b. is_lower_digit 10 b ≡ true) (λ b. b ≢ 10) not_newline (decimal n) (lower n)

pub signed_clear : (z : ℤ) → NoNewline (signed_decimal z)
signed_clear (pos n) = decimal_clear n
signed_clear (negsuc n) = All-cons (λ b. b ≢ 10) 45 (decimal (suc n)) (λ e. omega arith) (decimal_clear (suc n))

pub not_dash : (n : ℕ) (rest : List ℕ) → decimal n ≢ 45 ∷ rest
not_dash n rest e =
    let z : false ≡ true = All-head (λ b. is_lower_digit 10 b ≡ true) 45 rest (subst (All (λ b. is_lower_digit 10 b ≡ true)) e (lower n)) in
    cc

-- no number with a dash, and none without
pub no_dashed : (text digits : List ℕ) → text ≡ 45 ∷ digits → ((n : ℕ) → IsWithin 1000 n → digits ≢ decimal n) → (z : ℤ) → IsMerge z → text ≢ signed_decimal z
no_dashed text digits at none (pos n) fits e = not_dash n digits (sym e ∙ at)
no_dashed text digits at none (negsuc n) fits e = none (suc n) fits (ap (drop 1) (sym at ∙ e))

pub no_plain : (text : List ℕ) → ((rest : List ℕ) → text ≢ 45 ∷ rest) → ((n : ℕ) → IsWithin 1000 n → text ≢ decimal n) → (z : ℤ) → IsMerge z → text ≢ signed_decimal z
no_plain text plain none (pos n) fits e = none n fits e
no_plain text plain none (negsuc n) fits e = plain (decimal (suc n)) e

-- the bits of a number hold it
pub merge_fits : (z : ℤ) → IsMerge z → SFits w32 z
merge_fits (pos n) fits = omega (arith, fits.1)
merge_fits (negsuc n) fits = omega (arith, fits.1)
