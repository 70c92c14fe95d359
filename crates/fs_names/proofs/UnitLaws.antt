-- The units of a text: each byte has one spelling, and no spelling begins another.
use Rattle.std.proofs.Common.{◌≡◌, ◌≢◌, inl, inr, ℕ, zero, suc, ◌+◌, ◌*◌, ◌/◌, ◌%◌, ◌<◌, ◌≤◌, Bool, true, false, cond, List, [], ◌∷◌, ◌++◌, length, drop, Some, None, refl, sym, ap, subst, ◌∙◌, arith}
use Rattle.std.proofs.Math.Nat.{mod-lt, div-lt_iff_lt-mul}
use Rattle.std.proofs.lemmas.Nat.{div-add-mod'}
use Rattle.std.proofs.lemmas.Bool.{cases_eq, ne_eqb, lt-ltb, cond-true, cond-false}
use Rattle.std.proofs.lemmas.Bool.Decides.{nat_tests, Decides-eqb}
use Rattle.std.proofs.lemmas.Slice.Eq.{starts_is}
use Rattle.std.specs.Char.{is_ascii_graphic, digit_value}
use Rattle.std.specs.Fmt.{digit_glyph}
use Rattle.std.specs.List.{find, range_with_len}
use Rattle.std.specs.Option.{option_map, option_and_then}
use Rattle.fs_names.specs.Text.{spelled}
use Rattle.fs_names.specs.Likely.{likely_byte, value_of_digit}
use Rattle.fs_names.specs.Units.{begins, unit_byte}
use Rattle.fs_names.proofs.Digits.{glyph_value, none_from}

-- how a byte is spelled
pub spelled-plain : (b : ℕ) → b ≢ 92 → b ≢ 47 → b ≢ 95 → is_ascii_graphic b ≡ true → spelled b ≡ b ∷ []
spelled-plain b p q r h = grind (arith, nat_tests)

pub spelled-digits : (b : ℕ) → b ≢ 92 → b ≢ 47 → b ≢ 95 → b ≢ 0 → is_ascii_graphic b ≡ false
    → spelled b ≡ 92 ∷ 120 ∷ digit_glyph false (b / 16) ∷ digit_glyph false (b % 16) ∷ []
spelled-digits b p q r s h = grind (arith, nat_tests)

-- the one byte that a spelling may stand for is its own
by_letter : (b : ℕ) (rest : List ℕ) (w : ℕ) → b ≡ w → likely_byte (spelled w ++ rest) ≡ Some w → likely_byte (spelled b ++ rest) ≡ Some b
by_letter b rest w e h = subst (λ x. likely_byte (spelled x ++ rest) ≡ Some x) (sym e) h

by_itself : (b : ℕ) (rest : List ℕ) → b ≢ 92 → spelled b ≡ b ∷ [] → likely_byte (spelled b ++ rest) ≡ Some b
by_itself b rest other is = ap (λ l. likely_byte (l ++ rest)) is ∙ cond-false _ _ _ (ne_eqb b 92 other)

value_of_glyph : (d : ℕ) → d < 16 → value_of_digit (digit_glyph false d) ≡ Some d
value_of_glyph d small =
    let value = glyph_value d small in
    cond-true _ _ None (lt-ltb (digit_value (digit_glyph false d)) 16 (subst (λ n. n < 16) (sym value) small)) ∙ ap Some value

by_digits : (b : ℕ) (rest : List ℕ) → b < 256 → spelled b ≡ 92 ∷ 120 ∷ digit_glyph false (b / 16) ∷ digit_glyph false (b % 16) ∷ []
    → likely_byte (spelled b ++ rest) ≡ Some b
by_digits b rest small is =
    let some : 0 < 16 = omega arith in
    let high : b / 16 < 16 = (div-lt_iff_lt-mul some).1 (omega arith) in
    let low : b % 16 < 16 = mod-lt b some in
    ap (λ l. likely_byte (l ++ rest)) is
    ∙ ap (λ o. option_and_then (λ h. option_map (λ l. h * 16 + l) (value_of_digit (digit_glyph false (b % 16)))) o) (value_of_glyph (b / 16) high)
    ∙ ap (λ o. option_map (λ l. b / 16 * 16 + l) o) (value_of_glyph (b % 16) low)
    ∙ ap Some (div-add-mod' b 16)

pub likely_spelled : (b : ℕ) (rest : List ℕ) → b < 256 → likely_byte (spelled b ++ rest) ≡ Some b
likely_spelled b rest small =
    elim (cases_eq b 92) [
      | inl e ↦ by_letter b rest 92 e refl
      | inr p ↦ elim (cases_eq b 47) [
        | inl e ↦ by_letter b rest 47 e refl
        | inr q ↦ elim (cases_eq b 95) [
          | inl e ↦ by_letter b rest 95 e refl
          | inr r ↦ elim (cases_eq b 0) [
            | inl e ↦ by_letter b rest 0 e refl
            | inr s ↦ by (is_ascii_graphic b) refl p q r s
          ]
        ]
      ]
    ]
  where
    by : (g : Bool) → is_ascii_graphic b ≡ g → b ≢ 92 → b ≢ 47 → b ≢ 95 → b ≢ 0 → likely_byte (spelled b ++ rest) ≡ Some b
    by true e p q r s = by_itself b rest p (spelled-plain b p q r e)
    by false e p q r s = by_digits b rest small (spelled-digits b p q r s e)

-- what is found among numbers
found_is : (p : ℕ → Bool) (a n b : ℕ) → find p (range_with_len a n) ≡ Some b → (p b ≡ true) × (b < a + n)
found_is p a zero b e = cc
found_is p a (suc n) b e = by (p a) refl e (found_is p (a + 1) n b)
  where
    by : (t : Bool) → p a ≡ t → cond t (Some a) (find p (range_with_len (a + 1) n)) ≡ Some b
        → (find p (range_with_len (a + 1) n) ≡ Some b → (p b ≡ true) × (b < a + 1 + n)) → (p b ≡ true) × (b < a + suc n)
    by true is f more = let same : a ≡ b = cc in (ap p (sym same) ∙ is, omega arith)
    by false is f more = let m = more f in (m.0, omega arith)

found_some : (p : ℕ → Bool) (a n b : ℕ) → p b ≡ true → a ≤ b → b < a + n → (c : ℕ) × (find p (range_with_len a n) ≡ Some c)
found_some p a zero b is low high = absurd (omega arith)
found_some p a (suc n) b is low high = by (p a) refl (found_some p (a + 1) n b is)
  where
    by : (t : Bool) → p a ≡ t → (a + 1 ≤ b → b < a + 1 + n → (c : ℕ) × (find p (range_with_len (a + 1) n) ≡ Some c))
        → (c : ℕ) × (cond t (Some a) (find p (range_with_len (a + 1) n)) ≡ Some c)
    by true e more = (a, refl)
    by false e more =
        elim (cases_eq b a) [
          | inl same ↦ (let clash : true ≡ false = sym is ∙ ap p same ∙ e in absurd cc)
          | inr other ↦ more (omega arith) (omega arith)
        ]

-- a text begins with a list
pub begins_from : (front rest : List ℕ) → begins (front ++ rest) front ≡ true
begins_from front rest = (starts_is Decides-eqb (front ++ rest) front _ refl).1 rest refl

pub begins_is : (text front : List ℕ) → begins text front ≡ true → text ≡ front ++ drop (length front) text
begins_is text front e = (starts_is Decides-eqb text front _ refl).0 e

-- the first unit
pub unit_byte_gives : (text : List ℕ) (b : ℕ) → unit_byte text ≡ Some b → (b < 256) × (text ≡ spelled b ++ drop (length (spelled b)) text)
unfolding unit_byte
unit_byte_gives text b e =
    let f = found_is (λ c. begins text (spelled c)) 0 256 b e in
    (omega (arith, f.1), begins_is text (spelled b) f.0)

unit_byte_some : (b : ℕ) (rest : List ℕ) → b < 256 → (c : ℕ) × (unit_byte (spelled b ++ rest) ≡ Some c)
unfolding unit_byte
unit_byte_some b rest small = found_some (λ c. begins (spelled b ++ rest) (spelled c)) 0 256 b (begins_from (spelled b) rest) (omega arith) (omega arith)

pub likely_from : (text : List ℕ) (b : ℕ) → unit_byte text ≡ Some b → likely_byte text ≡ Some b
likely_from text b e = let u = unit_byte_gives text b e in ap likely_byte u.1 ∙ likely_spelled b _ u.0

pub unit_byte_is : (b : ℕ) (rest : List ℕ) → b < 256 → unit_byte (spelled b ++ rest) ≡ Some b
unit_byte_is b rest small =
    let found = unit_byte_some b rest small in
    found.1 ∙ sym (likely_from _ found.0 found.1) ∙ likely_spelled b rest small

pub unit_byte_at : (text rest : List ℕ) (b : ℕ) → b < 256 → text ≡ spelled b ++ rest → unit_byte text ≡ Some b
unit_byte_at text rest b small e = ap unit_byte e ∙ unit_byte_is b rest small

pub unlikely : (text : List ℕ) → likely_byte text ≡ None → unit_byte text ≡ None
unlikely text e = none_from (unit_byte text) (λ b h. let likely = likely_from text b h in cc)

pub unlike : (text : List ℕ) (b : ℕ) → likely_byte text ≡ Some b → ((rest : List ℕ) → text ≢ spelled b ++ rest) → unit_byte text ≡ None
unlike text b e other =
    none_from (unit_byte text) (λ c h.
    let likely = likely_from text c h in
    let same : c ≡ b = cc in
    other _ ((unit_byte_gives text c h).1 ∙ ap (λ x. spelled x ++ drop (length (spelled c)) text) same))
