-- From a number back to its bytes.
use Rattle.std.proofs.Common.{◌≡◌, ℕ, ◌+◌, ◌<◌, ◌≤◌, ⊎_elim, List, length, take, drop, get_or, sym, ◌∙◌, subst, arith, length-take, All}
use Rattle.std.proofs.lemmas.List.{get_or-take, get_or-drop, get_or_past, length-take-le}
use Rattle.std.proofs.lemmas.List.Elements.{All-get_or}
use Rattle.std.proofs.lemmas.Nat.{be_bytes_4, be_bytes_8}
use Rattle.std.proofs.lemmas.Bool.{cases_lt}
use Rattle.std.specs.Int.{w32, w64, from_be_bytes}
use Rattle.byteorder.specs.Endian.{big_bytes, big_number}
use Rattle.byteorder.specs.Numbers.{big_from-take}

-- each number is a byte
abbrev pub AreBytes : List ℕ → Type 0
AreBytes xs = (i : ℕ) → get_or xs i 0 < 256

pub AreBytes-from_All : (xs : List ℕ) → All (λ b. b < 256) xs → AreBytes xs
AreBytes-from_All xs all i =
    ⊎_elim
    (λ lt. All-get_or (λ b. b < 256) xs i 0 lt all)
    (λ le. let past : get_or xs i 0 ≡ 0 = get_or_past xs i 0 le in omega (arith, past))
    (cases_lt i (length xs))

pub AreBytes-drop : (n : ℕ) (xs : List ℕ) → AreBytes xs → AreBytes (drop n xs)
AreBytes-drop n xs small i = subst (λ (b : ℕ). b < 256) (sym (get_or-drop n xs i 0)) (small (n + i))

AreBytes-take : (n : ℕ) (xs : List ℕ) → AreBytes xs → AreBytes (take n xs)
AreBytes-take n xs small i =
    ⊎_elim
    (λ lt. subst (λ (b : ℕ). b < 256) (sym (get_or-take n xs i 0 lt)) (small i))
    (λ le. let past : get_or (take n xs) i 0 ≡ 0 = get_or_past (take n xs) i 0 (omega (arith, length-take n xs)) in omega (arith, past))
    (cases_lt i n)

from_8 : (xs : List ℕ) → big_number 8 xs ≡ from_be_bytes w64 xs
from_8 xs = omega arith

from_4 : (xs : List ℕ) → big_number 4 xs ≡ from_be_bytes w32 xs
from_4 xs = omega arith

pub bytes_back_8 : (xs : List ℕ) → 8 ≤ length xs → AreBytes xs → big_bytes 8 (big_number 8 xs) ≡ take 8 xs
bytes_back_8 xs long small =
    be_bytes_8 (take 8 xs) (big_number 8 xs) (length-take-le 8 xs long) (AreBytes-take 8 xs small)
    (sym (big_from-take 0 8 8 xs (omega arith)) ∙ from_8 (take 8 xs))

pub bytes_back_4 : (xs : List ℕ) → 4 ≤ length xs → AreBytes xs → big_bytes 4 (big_number 4 xs) ≡ take 4 xs
bytes_back_4 xs long small =
    be_bytes_4 (take 4 xs) (big_number 4 xs) (length-take-le 4 xs long) (AreBytes-take 4 xs small)
    (sym (big_from-take 0 4 4 xs (omega arith)) ∙ from_4 (take 4 xs))
