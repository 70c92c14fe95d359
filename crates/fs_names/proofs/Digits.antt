-- The digits of a number, without leading zeros, and the number that they spell.
use Rattle.std.proofs.Common.{◌≡◌, ◌≢◌, ◌⊎◌, inl, inr, ℕ, zero, suc, ◌+◌, ◌-◌, ◌*◌, ◌/◌, ◌%◌, ◌^◌, ◌<◌, ◌≤◌, Bool, true, false, ◌&&◌, cond, List, [], ◌∷◌, ◌++◌, length, get_or, take, Option, Some, None, refl, sym, ap, subst, ◌∙◌, arith, eqb, ltb}
use Rattle.std.proofs.Math.Nat.{mul-le-mul_left, mul-le-mul_right, pow-le-pow_left, zero-div, mul_assoc, pow-succ', pow-suc, pow-zero, mod-lt, div-lt_iff_lt-mul}
use Rattle.std.proofs.Math.Pow.{pow_mono}
use Rattle.std.proofs.lemmas.Nat.{div-add-mod', div-mul-add, mod-mul-add, pow_pos}
use Rattle.std.proofs.lemmas.Bool.{both_ways, eq-eqb, ne_eqb, cases_eq, cases_lt, cond_both, cond-true, and_parts, and_from, ltb-true, ltb-false, lt-ltb}
use Rattle.std.proofs.lemmas.Bool.Decides.{nat_tests}
use Rattle.std.proofs.lemmas.Fmt.{digits_is_IsNumeral}
use Rattle.std.proofs.lemmas.Int.Digits.{digits_value_push, digits_value_more}
use Rattle.std.proofs.lemmas.List.{take_more, take_all, append-nil, append_assoc, length-take, get_or-take}
use Rattle.std.proofs.lemmas.List.Elements.{All-nil, All-cons, All-head, All-push, All-take, All-get_or}
use Rattle.std.proofs.lemmas.Str.Parse.{digits_value-take-le}
use Rattle.std.proofs.lemmas.Slice.Eq.{bytes_eq-Decides}
use Rattle.std.specs.Char.{digit_value}
use Rattle.std.specs.Fmt.{digits, digits_onto, digit_glyph}
use Rattle.std.specs.List.{AllPass}
use Rattle.std.specs.Str.{bytes_eq}
use Rattle.std.specs.Str.Parse.{digits_value, digits_value_after}
use Rattle.fs_names.specs.Numbers.{is_lower_digit, lower_value, below_64_bits, number_of, IsSpelledByDigits}

pub onto_all : (base n : ℕ) → digits base false n ≡ digits_onto 64 base false n []
unfolding digits
onto_all base n = refl

-- what a digit tells
pub lower_tells : (base b : ℕ) → base ≤ 16 → is_lower_digit base b ≡ true → (digit_value b < base) × (digit_glyph false (digit_value b) ≡ b)
lower_tells base b high h = (grind (arith, nat_tests), grind (arith, nat_tests))

pub glyph_lower : (base d : ℕ) → base ≤ 16 → d < base → is_lower_digit base (digit_glyph false d) ≡ true
glyph_lower base d high h = grind (arith, nat_tests)

pub glyph_value : (d : ℕ) → d < 16 → digit_value (digit_glyph false d) ≡ d
glyph_value d h = grind (arith, nat_tests)

-- one step of the digits
onto_last : (k base n : ℕ) (acc : List ℕ) → n / base ≡ 0 → digits_onto (suc k) base false n acc ≡ digit_glyph false (n % base) ∷ acc
onto_last k base n acc e = ap (λ t. cond t (digit_glyph false (n % base) ∷ acc) (digits_onto k base false (n / base) (digit_glyph false (n % base) ∷ acc))) (eq-eqb (n / base) 0 e)

onto_next : (k base n : ℕ) (acc : List ℕ) → n / base ≢ 0 → digits_onto (suc k) base false n acc ≡ digits_onto k base false (n / base) (digit_glyph false (n % base) ∷ acc)
onto_next k base n acc e = ap (λ t. cond t (digit_glyph false (n % base) ∷ acc) (digits_onto k base false (n / base) (digit_glyph false (n % base) ∷ acc))) (ne_eqb (n / base) 0 e)

-- digits that follow a number make no smaller one
after_grows : (base n : ℕ) (ds : List ℕ) → 2 ≤ base → n * 2 ^ length ds ≤ digits_value_after base n ds
after_grows base n [] low = omega arith
after_grows base n (d ∷ ds) low =
    let m = n * base + digit_value d in
    let twice : n * 2 ≤ n * base = mul-le-mul_left n low in
    let grown : n * 2 * 2 ^ length ds ≤ m * 2 ^ length ds = mul-le-mul_right (2 ^ length ds) (omega arith) in
    let more = after_grows base m ds low in
    let power : n * 2 ^ suc (length ds) ≡ n * 2 * 2 ^ length ds = rw pow-succ' (sym (mul_assoc n 2 (2 ^ length ds))) in
    omega arith

-- a digit other than 0 that stands first makes the number positive, and long texts spell large numbers
first_counts : (base d : ℕ) (ds : List ℕ) → 2 ≤ base → 0 < digit_value d → 2 ^ length ds ≤ digits_value base (d ∷ ds)
first_counts base d ds low pos =
    let grown = after_grows base (0 * base + digit_value d) ds low in
    let least : 1 * 2 ^ length ds ≤ (0 * base + digit_value d) * 2 ^ length ds = mul-le-mul_right (2 ^ length ds) (omega arith) in
    omega arith

nonzero_digit : (base d : ℕ) → is_lower_digit base d ≡ true → d ≢ 48 → 0 < digit_value d
nonzero_digit base d h e = grind (arith, nat_tests)

abbrev NoZeroFirst : List ℕ → Type 0
NoZeroFirst ds = get_or ds 0 0 ≡ 48 → length ds ≤ 1

-- a list that isn't empty, cut before its last element
cut_last : (ds : List ℕ) (n : ℕ) → length ds ≡ suc n → ds ≡ take n ds ++ get_or ds n 0 ∷ []
cut_last ds n e = sym (sym (take_more ds n 0 (omega arith)) ∙ take_all (n + 1) ds (omega arith))

value_pos : (base : ℕ) (ds : List ℕ) → 2 ≤ base → AllPass (is_lower_digit base) ds → 0 < length ds → get_or ds 0 0 ≢ 48 → 0 < digits_value base ds
value_pos base [] low all some first = absurd (omega arith)
value_pos base (d ∷ ds) low all some first =
    let pos = nonzero_digit base d (All-head (λ b. is_lower_digit base b ≡ true) d ds all) first in
    omega (arith, first_counts base d ds low pos, pow_pos (length ds))

-- the front of a list of digits is one too
front_lower : (base : ℕ) (ds : List ℕ) → AllPass (is_lower_digit base) ds → AllPass (is_lower_digit base) (take (length ds - 1) ds)
front_lower base ds all = All-take (λ b. is_lower_digit base b ≡ true) (length ds - 1) ds all

length_front : (ds : List ℕ) → length (take (length ds - 1) ds) ≡ length ds - 1
length_front ds = length-take (length ds - 1) ds ∙ omega arith

front_first : (ds : List ℕ) → NoZeroFirst ds → 1 < length ds → get_or (take (length ds - 1) ds) 0 0 ≢ 48
front_first ds first two = λ e. let one = first (sym (get_or-take (length ds - 1) ds 0 0 (omega arith)) ∙ e) in omega arith

abbrev IsOnto : ℕ → ℕ → List ℕ → List ℕ → Type 0
IsOnto k base ds acc = digits_onto k base false (digits_value base ds) acc ≡ ds ++ acc

-- one digit more at the end
onto_more : (k base : ℕ) (ds acc : List ℕ) → 2 ≤ base → base ≤ 16 → AllPass (is_lower_digit base) ds → 0 < length ds → NoZeroFirst ds
    → (1 < length ds → IsOnto k base (take (length ds - 1) ds) (get_or ds (length ds - 1) 0 ∷ acc)) → IsOnto (suc k) base ds acc
onto_more k base ds acc low high all some first shorter = by (cases_eq n 0)
  where
    n : ℕ
    n = length ds - 1

    es : List ℕ
    es = take n ds

    c : ℕ
    c = get_or ds n 0

    cut : ds ≡ es ++ c ∷ []
    cut = cut_last ds n (omega arith)

    last : (digit_value c < base) × (digit_glyph false (digit_value c) ≡ c)
    last = lower_tells base c high (All-get_or (λ b. is_lower_digit base b ≡ true) ds n 0 (omega arith) all)

    value : digits_value base ds ≡ digits_value base es * base + digit_value c
    value = ap (digits_value base) cut ∙ digits_value_push base es c

    front : digits_value base ds / base ≡ digits_value base es
    front = ap (λ v. v / base) value ∙ div-mul-add (digits_value base es) base (digit_value c) last.0

    back : digit_glyph false (digits_value base ds % base) ≡ c
    back = ap (λ v. digit_glyph false (v % base)) value ∙ (ap (digit_glyph false) (mod-mul-add (digits_value base es) base (digit_value c) last.0) ∙ last.1)

    by : (n ≡ 0) ⊎ (n ≡ 0 → ⊥) → IsOnto (suc k) base ds acc
    by (inl one) =
        let none : es ≡ [] = ap (λ i. take i ds) one in
        let small : digits_value base ds / base ≡ 0 = front ∙ ap (digits_value base) none in
        onto_last k base (digits_value base ds) acc small ∙ ap (λ b. b ∷ acc) back ∙ ap (λ l. l ++ acc) (ap (λ l. l ++ c ∷ []) (sym none) ∙ sym cut)
    by (inr more) =
        let some_front = length_front ds in
        let pos : 0 < digits_value base es = value_pos base es low (front_lower base ds all) (omega arith) (front_first ds first (omega arith)) in
        let large : digits_value base ds / base ≢ 0 = λ e. omega (arith, front) in
        onto_next k base (digits_value base ds) acc large
        ∙ ap (λ v. digits_onto k base false v (digit_glyph false (digits_value base ds % base) ∷ acc)) front
        ∙ ap (λ b. digits_onto k base false (digits_value base es) (b ∷ acc)) back
        ∙ shorter (omega arith)
        ∙ sym (append_assoc es (c ∷ []) acc) ∙ ap (λ l. l ++ acc) (sym cut)

-- digits without a leading zero are those of their number
onto_value : (k base : ℕ) (ds acc : List ℕ) → 2 ≤ base → base ≤ 16 → AllPass (is_lower_digit base) ds → 0 < length ds → length ds ≤ k → NoZeroFirst ds
    → IsOnto k base ds acc
onto_value zero base ds acc low high all some short first = absurd (omega arith)
onto_value (suc k) base ds acc low high all some short first =
    onto_more k base ds acc low high all some first (λ two.
    let n = length_front ds in
    onto_value k base (take (length ds - 1) ds) (get_or ds (length ds - 1) 0 ∷ acc) low high (front_lower base ds all) (omega arith) (omega arith)
    (λ e. absurd (front_first ds first two e)))

-- how long they are
length_short : (base : ℕ) (ds : List ℕ) → 2 ≤ base → AllPass (is_lower_digit base) ds → NoZeroFirst ds → digits_value base ds < 2 ^ 64 → length ds ≤ 64
length_short base [] low all first small = omega arith
length_short base (d ∷ []) low all first small = omega arith
length_short base (d ∷ e ∷ ds) low all first small =
    let pos = nonzero_digit base d (All-head (λ b. is_lower_digit base b ≡ true) d (e ∷ ds) all) (λ z. let one = first z in omega arith) in
    let large = first_counts base d (e ∷ ds) low pos in
    elim (cases_lt (length (e ∷ ds)) 64) [
      | inl short ↦ omega arith
      | inr long ↦ absurd (let power = pow_mono long in omega arith)
    ]

pub digits-digits_value : (base : ℕ) (ds : List ℕ) → 2 ≤ base → base ≤ 16 → AllPass (is_lower_digit base) ds → 0 < length ds → NoZeroFirst ds → digits_value base ds < 2 ^ 64
    → digits base false (digits_value base ds) ≡ ds
digits-digits_value base ds low high all some first small =
    onto_all base (digits_value base ds) ∙ onto_value 64 base ds [] low high all some (length_short base ds low all first small) first ∙ append-nil ds

-- the digits of a number are lower-case digits, and 0 stands first for 0 alone
onto_lower : (k base n : ℕ) (acc : List ℕ) → 2 ≤ base → base ≤ 16 → AllPass (is_lower_digit base) acc → AllPass (is_lower_digit base) (digits_onto k base false n acc)
onto_lower zero base n acc low high all = all
onto_lower (suc k) base n acc low high all =
    let pos : 0 < base = omega arith in
    let more = All-cons (λ b. is_lower_digit base b ≡ true) _ acc (glyph_lower base (n % base) high (mod-lt n pos)) all in
    cond_both (eqb (n / base) 0) _ _ (AllPass (is_lower_digit base)) (λ e. more) (λ e. onto_lower k base (n / base) _ low high more)

pub digits-lower : (base n : ℕ) → 2 ≤ base → base ≤ 16 → AllPass (is_lower_digit base) (digits base false n)
digits-lower base n low high = rw onto_all (onto_lower 64 base n [] low high (All-nil _))

glyph_zero : (d : ℕ) → d < 16 → digit_glyph false d ≡ 48 → d ≡ 0
glyph_zero d small e = grind (arith, nat_tests)

onto_first : (k base n : ℕ) (acc : List ℕ) → 2 ≤ base → base ≤ 16 → 0 < n → n < base ^ k → get_or (digits_onto k base false n acc) 0 0 ≢ 48
onto_first zero base n acc low high pos small = absurd (omega (arith, pow-zero base))
onto_first (suc k) base n acc low high pos small =
    elim (cases_eq (n / base) 0) [
      | inl one ↦ λ e.
          let whole = div-add-mod' n base in
          let rest : n % base < 16 = (let some : 0 < base = omega arith in omega (arith, mod-lt n some)) in
          let none = glyph_zero (n % base) rest (sym (ap (λ l. get_or l 0 0) (onto_last k base n acc one)) ∙ e) in
          let none_times : n / base * base ≡ 0 * base = ap (λ q. q * base) one in
          omega arith
      | inr more ↦ λ e.
          let some : 0 < base = omega arith in
          let short : n / base < base ^ k = (div-lt_iff_lt-mul some).1 (omega (arith, pow-suc base k)) in
          onto_first k base (n / base) (digit_glyph false (n % base) ∷ acc) low high (omega arith) short (sym (ap (λ l. get_or l 0 0) (onto_next k base n acc more)) ∙ e)
    ]

fits_digits : (base n : ℕ) → 2 ≤ base → n < 2 ^ 64 → n < base ^ 64
fits_digits base n low small = let power = pow-le-pow_left low 64 in omega arith

pub digits-value : (base n : ℕ) → 2 ≤ base → base ≤ 16 → n < 2 ^ 64 → digits_value base (digits base false n) ≡ n
digits-value base n low high small = (digits_is_IsNumeral base false low high n (fits_digits base n low small)).1

pub length-digits : (base n : ℕ) → 2 ≤ base → base ≤ 16 → n < 2 ^ 64 → 0 < length (digits base false n)
length-digits base n low high small = (digits_is_IsNumeral base false low high n (fits_digits base n low small)).0.0

pub digits_first : (base n : ℕ) → 2 ≤ base → base ≤ 16 → n < 2 ^ 64 → NoZeroFirst (digits base false n)
digits_first base zero low high small = λ e.
    let none : 0 / base ≡ 0 = zero-div base in
    rw (onto_all, onto_last 63 base 0 [] none) (omega arith)
digits_first base (suc n) low high small = λ e.
    absurd (onto_first 64 base (suc n) [] low high (omega arith) (fits_digits base (suc n) low small) (ap (λ l. get_or l 0 0) (sym (onto_all base (suc n))) ∙ e))

-- what `number_of` gives
pub picked : (b : Bool) (m n : ℕ) → cond b (Some m) None ≡ Some n → (b ≡ true) × (m ≡ n)
picked true m n e = (refl, cc)
picked false m n e = cc

pub number_gives : (base : ℕ) (text : List ℕ) (n : ℕ) → number_of base text ≡ Some n → (n < 2 ^ 64) × (text ≡ digits base false n)
unfolding number_of
number_gives base text n e =
    let v = digits_value base text in
    let p = picked (ltb v (2 ^ 64) && bytes_eq text (digits base false v)) v n e in
    let q = and_parts _ _ p.0 in
    let small = ltb-true v (2 ^ 64) q.0 in
    (subst (λ m. m < 2 ^ 64) p.1 small, (bytes_eq-Decides text (digits base false v)).0 q.1 ∙ ap (digits base false) p.1)

pub number_reads : (base n : ℕ) → 2 ≤ base → base ≤ 16 → n < 2 ^ 64 → number_of base (digits base false n) ≡ Some n
unfolding number_of
number_reads base n low high small =
    let text = digits base false n in
    let value = digits-value base n low high small in
    let same = (bytes_eq-Decides text (digits base false (digits_value base text))).1 (ap (digits base false) (sym value)) in
    let fits = lt-ltb (digits_value base text) (2 ^ 64) (omega arith) in
    cond-true _ (Some (digits_value base text)) None (and_from _ _ fits same) ∙ ap Some value

pub digits_spell : (base : ℕ) → 2 ≤ base → base ≤ 16 → IsSpelledByDigits base
digits_spell base low high text n = (λ e. number_gives base text n e, λ p. ap (number_of base) p.1 ∙ number_reads base n low high p.0)

-- texts that spell no number
pub none_from : (o : Option ℕ) → ((n : ℕ) → o ≡ Some n → ⊥) → o ≡ None
none_from None h = refl
none_from (Some n) h = absurd (h n refl)

pub number_of-leading_zero : (base : ℕ) (text : List ℕ) → 2 ≤ base → base ≤ 16 → 1 < length text → get_or text 0 0 ≡ 48 → number_of base text ≡ None
number_of-leading_zero base text low high long zero_first =
    none_from (number_of base text) (λ n e.
    let p = number_gives base text n e in
    let first = digits_first base n low high p.0 (ap (λ l. get_or l 0 0) (sym p.1) ∙ zero_first) in
    omega (arith, ap length p.1))

-- what was read of a text's digits, up to a place
pub record ReadTo (base : ℕ) (is_digit : ℕ → Bool) (text : List ℕ) (i n : ℕ) : Type 0 where
  pub digits : AllPass is_digit (take i text)
  pub is : n ≡ digits_value base (take i text)

pub read_first : (base : ℕ) (is_digit : ℕ → Bool) (text : List ℕ) → ReadTo base is_digit text 0 0
read_first base is_digit text = record { digits = All-nil (λ b. is_digit b ≡ true); is = refl }

pub read_more : (base : ℕ) (is_digit : ℕ → Bool) (text : List ℕ) (i n m : ℕ) → i < length text → is_digit (get_or text i 0) ≡ true
    → m ≡ n * base + digit_value (get_or text i 0) → ReadTo base is_digit text i n → ReadTo base is_digit text (i + 1) m
read_more base is_digit text i n m small is e r =
    record {
      digits = subst (AllPass is_digit) (sym (take_more text i 0 small)) (All-push (λ b. is_digit b ≡ true) (take i text) (get_or text i 0) r.digits is);
      is = e ∙ ap (λ v. v * base + digit_value (get_or text i 0)) r.is ∙ sym (digits_value_more base text i small);
    }

pub read_all : (base : ℕ) (is_digit : ℕ → Bool) (text : List ℕ) (i n : ℕ) → length text ≤ i → ReadTo base is_digit text i n
    → AllPass is_digit text × (n ≡ digits_value base text)
read_all base is_digit text i n end r =
    let whole = take_all i text end in
    (subst (AllPass is_digit) whole r.digits, r.is ∙ ap (digits_value base) whole)

-- a test that gave a value, and one that gave none
pub unpicked : (b : Bool) (m : ℕ) → cond b (Some m) None ≡ None → b ≡ false
unpicked true m e = cc
unpicked false m e = refl

-- where reading ends
pub number_of-empty : (base : ℕ) (text : List ℕ) → 2 ≤ base → base ≤ 16 → length text ≡ 0 → number_of base text ≡ None
number_of-empty base text low high none =
    none_from (number_of base text) (λ n e.
    let p = number_gives base text n e in
    let some = length-digits base n low high p.0 in
    omega (arith, ap length p.1))

pub number_of-stops : (base : ℕ) (text : List ℕ) (i : ℕ) → 2 ≤ base → base ≤ 16 → i < length text → lower_value base (get_or text i 0) ≡ None → number_of base text ≡ None
number_of-stops base text i low high small other =
    none_from (number_of base text) (λ n e.
    let p = number_gives base text n e in
    let all = subst (AllPass (is_lower_digit base)) (sym p.1) (digits-lower base n low high) in
    both_ways _ (unpicked (is_lower_digit base (get_or text i 0)) (digit_value (get_or text i 0)) other)
    (All-get_or (λ b. is_lower_digit base b ≡ true) text i 0 small all))

pub number_of-large : (base : ℕ) (text : List ℕ) (i n d : ℕ) → 2 ≤ base → base ≤ 16 → i < length text → lower_value base (get_or text i 0) ≡ Some d
    → below_64_bits (n * base + d) ≡ None → ReadTo base (is_lower_digit base) text i n → number_of base text ≡ None
number_of-large base text i n d low high small is other r =
    none_from (number_of base text) (λ m e.
    let p = number_gives base text m e in
    let digit = picked (is_lower_digit base (get_or text i 0)) (digit_value (get_or text i 0)) d is in
    let more = read_more base (is_lower_digit base) text i n (n * base + d) small digit.0 (ap (λ v. n * base + v) (sym digit.1)) r in
    let large = ltb-false (n * base + d) (2 ^ 64) (unpicked (ltb (n * base + d) (2 ^ 64)) (n * base + d) other) in
    let part = digits_value-take-le base text (i + 1) (omega arith) in
    let whole : digits_value base text ≡ m = ap (digits_value base) p.1 ∙ digits-value base m low high p.0 in
    let bound : 2 ^ 64 ≤ digits_value base (take (i + 1) text) = subst (λ v. 2 ^ 64 ≤ v) more.is large in
    omega (arith, p.0))

pub number_of-read : (base : ℕ) (text : List ℕ) (i n : ℕ) → 2 ≤ base → base ≤ 16 → 0 < length text → NoZeroFirst text → n < 2 ^ 64 → length text ≤ i
    → ReadTo base (is_lower_digit base) text i n → Some n ≡ number_of base text
number_of-read base text i n low high some first small end r =
    let whole = read_all base (is_lower_digit base) text i n end r in
    let v_small : digits_value base text < 2 ^ 64 = subst (λ v. v < 2 ^ 64) whole.1 small in
    let is = digits-digits_value base text low high whole.0 some first v_small in
    ap Some whole.1 ∙ sym (ap (number_of base) (sym is) ∙ number_reads base (digits_value base text) low high v_small)
