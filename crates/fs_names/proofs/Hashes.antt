-- The eight digits of a hash.
use Rattle.std.proofs.Common.{◌≡◌, ℕ, zero, suc, ◌+◌, ◌*◌, ◌/◌, ◌%◌, ◌^◌, ◌<◌, ◌≤◌, true, ◌&&◌, List, [], ◌∷◌, map, length, get_or, Some, None, sym, ap, subst, ◌∙◌, arith, ltb}
use Rattle.std.proofs.Math.Nat.{pow-suc}
use Rattle.std.proofs.lemmas.Nat.{div-mul-add, mod-mul-add}
use Rattle.std.proofs.lemmas.Bool.{cond-true, and_parts, and_from, ltb-true, lt-ltb, both_ways}
use Rattle.std.proofs.lemmas.Bool.Decides.{nat_tests}
use Rattle.std.proofs.lemmas.List.Elements.{All-map, All-get_or}
use Rattle.std.proofs.lemmas.Slice.Eq.{bytes_eq-Decides}
use Rattle.std.specs.Char.{digit_value}
use Rattle.std.specs.Fmt.{digit_glyph}
use Rattle.std.specs.List.{All, AllPass}
use Rattle.std.specs.Str.{bytes_eq}
use Rattle.std.specs.Str.Parse.{digits_value}
use Rattle.fs_names.specs.Numbers.{is_upper_digit, upper_value}
use Rattle.fs_names.specs.Text.{digit_at, hash_text}
use Rattle.fs_names.specs.Reading.{hash_of}
use Rattle.fs_names.proofs.Digits.{none_from, picked, unpicked, ReadTo, read_all}

digit_at-lt : (h level : ℕ) → digit_at h level < 16
digit_at-lt h level = omega arith

glyph_upper : (d : ℕ) → d < 16 → digit_value (digit_glyph true d) ≡ d
glyph_upper d h = grind (arith, nat_tests)

upper_upper : (d : ℕ) → d < 16 → is_upper_digit (digit_glyph true d) ≡ true
upper_upper d h = grind (arith, nat_tests)

upper_tells : (b : ℕ) → is_upper_digit b ≡ true → (digit_value b < 16) × (digit_glyph true (digit_value b) ≡ b)
upper_tells b h = (grind (arith, nat_tests), grind (arith, nat_tests))

abbrev levels : List ℕ
levels = 7 ∷ 6 ∷ 5 ∷ 4 ∷ 3 ∷ 2 ∷ 1 ∷ 0 ∷ []

-- what holds of each upper-case digit holds of each byte of the text
pub hash_text-All : (P : ℕ → Type 0) (h : ℕ) → ((d : ℕ) → d < 16 → P (digit_glyph true d)) → All P (hash_text h)
hash_text-All P h each =
    All-map P (λ level. digit_glyph true (digit_at h level)) levels (λ k d l. each (digit_at h (get_or levels k d)) (digit_at-lt h (get_or levels k d)))

-- a hash is the number of its digits
level_6 : (h : ℕ) → h / 268435456 ≡ h / 16777216 / 16
level_6 h = omega arith

level_5 : (h : ℕ) → h / 16777216 ≡ h / 1048576 / 16
level_5 h = omega arith

level_4 : (h : ℕ) → h / 1048576 ≡ h / 65536 / 16
level_4 h = omega arith

level_3 : (h : ℕ) → h / 65536 ≡ h / 4096 / 16
level_3 h = omega arith

level_2 : (h : ℕ) → h / 4096 ≡ h / 256 / 16
level_2 h = omega arith

level_1 : (h : ℕ) → h / 256 ≡ h / 16 / 16
level_1 h = omega arith

step : (p q r : ℕ) → p ≡ r → r ≡ q / 16 → p * 16 + q % 16 ≡ q
step p q r e f = omega arith

abbrev joined : ℕ → ℕ → ℕ → ℕ → ℕ → ℕ → ℕ → ℕ → ℕ
joined a b c d e f g h = ((((((a * 16 + b) * 16 + c) * 16 + d) * 16 + e) * 16 + f) * 16 + g) * 16 + h

value_of_eight : (a b c d e f g h : ℕ) → digits_value 16 (a ∷ b ∷ c ∷ d ∷ e ∷ f ∷ g ∷ h ∷ [])
    ≡ joined (digit_value a) (digit_value b) (digit_value c) (digit_value d) (digit_value e) (digit_value f) (digit_value g) (digit_value h)
value_of_eight a b c d e f g h = omega arith

joined_digits : (h : ℕ) → h < 2 ^ 32
    → joined (digit_at h 7) (digit_at h 6) (digit_at h 5) (digit_at h 4) (digit_at h 3) (digit_at h 2) (digit_at h 1) (digit_at h 0) ≡ h
joined_digits h small =
    let top : (h / 268435456) % 16 ≡ h / 268435456 = omega arith in
    let two = step _ (h / 16777216) (h / 268435456) top (level_6 h) in
    let three = step _ (h / 1048576) (h / 16777216) two (level_5 h) in
    let four = step _ (h / 65536) (h / 1048576) three (level_4 h) in
    let five = step _ (h / 4096) (h / 65536) four (level_3 h) in
    let six = step _ (h / 256) (h / 4096) five (level_2 h) in
    let seven = step _ (h / 16) (h / 256) six (level_1 h) in
    let none : h / 1 ≡ h = omega arith in
    let next : h / 16 ≡ h / 1 / 16 = omega arith in
    step _ (h / 1) (h / 16) seven next ∙ none

pub hash_text-value : (h : ℕ) → h < 2 ^ 32 → digits_value 16 (hash_text h) ≡ h
hash_text-value h small =
    let v = λ (level : ℕ). glyph_upper (digit_at h level) (digit_at-lt h level) in
    let seven = v 7 in
    let six = v 6 in
    let five = v 5 in
    let four = v 4 in
    let three = v 3 in
    let two = v 2 in
    let one = v 1 in
    let zero_th = v 0 in
    let eight = value_of_eight (digit_glyph true (digit_at h 7)) (digit_glyph true (digit_at h 6)) (digit_glyph true (digit_at h 5)) (digit_glyph true (digit_at h 4))
    (digit_glyph true (digit_at h 3)) (digit_glyph true (digit_at h 2)) (digit_glyph true (digit_at h 1)) (digit_glyph true (digit_at h 0)) in
    let whole = joined_digits h small in
    cc

-- what `hash_of` gives
pub hash_of_gives : (text : List ℕ) (h : ℕ) → hash_of text ≡ Some h → (h < 2 ^ 32) × (text ≡ hash_text h)
hash_of_gives text h e =
    let v = digits_value 16 text in
    let p = picked (bytes_eq text (hash_text v) && ltb v (2 ^ 32)) v h e in
    let q = and_parts _ _ p.0 in
    (subst (λ m. m < 2 ^ 32) p.1 (ltb-true v (2 ^ 32) q.1), (bytes_eq-Decides text (hash_text v)).0 q.0 ∙ ap hash_text p.1)

pub hash_of_reads : (h : ℕ) → h < 2 ^ 32 → hash_of (hash_text h) ≡ Some h
hash_of_reads h small =
    let value = hash_text-value h small in
    let same = (bytes_eq-Decides (hash_text h) (hash_text (digits_value 16 (hash_text h)))).1 (ap hash_text (sym value)) in
    let fits = lt-ltb (digits_value 16 (hash_text h)) (2 ^ 32) (omega arith) in
    cond-true _ (Some (digits_value 16 (hash_text h))) None (and_from _ _ same fits) ∙ ap Some value

-- the digits of a number that eight digits spell
next_digit : (n m d : ℕ) → d < 16 → n ≡ m * 16 + d → (n / 16 ≡ m) × (n % 16 ≡ d)
next_digit n m d small e = (ap (λ v. v / 16) e ∙ div-mul-add m 16 d small, ap (λ v. v % 16) e ∙ mod-mul-add m 16 d small)

digits_back : (a b c d e f g h : ℕ) → a < 16 → b < 16 → c < 16 → d < 16 → e < 16 → f < 16 → g < 16 → h < 16 → (n : ℕ) → n ≡ joined a b c d e f g h
    → map (digit_at n) levels ≡ a ∷ b ∷ c ∷ d ∷ e ∷ f ∷ g ∷ h ∷ []
digits_back a b c d e f g h a_small b_small c_small d_small e_small f_small g_small h_small n is =
    let none : n / 1 ≡ n = omega arith in
    let two_read = a * 16 + b in
    let three_read = two_read * 16 + c in
    let four_read = three_read * 16 + d in
    let five_read = four_read * 16 + e in
    let six_read = five_read * 16 + f in
    let seven_read = six_read * 16 + g in
    let zero_th = next_digit (n / 1) seven_read h h_small (none ∙ is) in
    let one = next_digit (n / 16) six_read g g_small (ap (λ v. v / 16) (sym none) ∙ zero_th.0) in
    let two = next_digit (n / 256) five_read f f_small (level_1 n ∙ one.0) in
    let three = next_digit (n / 4096) four_read e e_small (level_2 n ∙ two.0) in
    let four = next_digit (n / 65536) three_read d d_small (level_3 n ∙ three.0) in
    let five = next_digit (n / 1048576) two_read c c_small (level_4 n ∙ four.0) in
    let six = next_digit (n / 16777216) a b b_small (level_5 n ∙ five.0) in
    let top : n / 268435456 ≡ a = level_6 n ∙ six.0 in
    let e_7 : (n / 268435456) % 16 ≡ a = omega arith in
    let e_6 = six.1 in
    let e_5 = five.1 in
    let e_4 = four.1 in
    let e_3 = three.1 in
    let e_2 = two.1 in
    let e_1 = one.1 in
    let e_0 = zero_th.1 in
    cc

-- eight upper-case digits are those of their number
upper_eight : (text : List ℕ) → length text ≡ 8 → AllPass is_upper_digit text → hash_text (digits_value 16 text) ≡ text
upper_eight (a ∷ b ∷ c ∷ d ∷ e ∷ f ∷ g ∷ h ∷ []) long all =
    let text = a ∷ b ∷ c ∷ d ∷ e ∷ f ∷ g ∷ h ∷ [] in
    let at = λ (i : ℕ) (small : i < 8). upper_tells (get_or text i 0) (All-get_or (λ x. is_upper_digit x ≡ true) text i 0 small all) in
    let t_0 = at 0 (omega arith) in
    let t_1 = at 1 (omega arith) in
    let t_2 = at 2 (omega arith) in
    let t_3 = at 3 (omega arith) in
    let t_4 = at 4 (omega arith) in
    let t_5 = at 5 (omega arith) in
    let t_6 = at 6 (omega arith) in
    let t_7 = at 7 (omega arith) in
    let back = digits_back (digit_value a) (digit_value b) (digit_value c) (digit_value d) (digit_value e) (digit_value f) (digit_value g) (digit_value h)
    t_0.0 t_1.0 t_2.0 t_3.0 t_4.0 t_5.0 t_6.0 t_7.0 (digits_value 16 text) (value_of_eight a b c d e f g h) in
    let g_0 = t_0.1 in
    let g_1 = t_1.1 in
    let g_2 = t_2.1 in
    let g_3 = t_3.1 in
    let g_4 = t_4.1 in
    let g_5 = t_5.1 in
    let g_6 = t_6.1 in
    let g_7 = t_7.1 in
    ap (map (digit_glyph true)) back ∙ cc
upper_eight [] long all = cc
upper_eight (a ∷ []) long all = cc
upper_eight (a ∷ b ∷ []) long all = cc
upper_eight (a ∷ b ∷ c ∷ []) long all = cc
upper_eight (a ∷ b ∷ c ∷ d ∷ []) long all = cc
upper_eight (a ∷ b ∷ c ∷ d ∷ e ∷ []) long all = cc
upper_eight (a ∷ b ∷ c ∷ d ∷ e ∷ f ∷ []) long all = cc
upper_eight (a ∷ b ∷ c ∷ d ∷ e ∷ f ∷ g ∷ []) long all = cc
upper_eight (a ∷ b ∷ c ∷ d ∷ e ∷ f ∷ g ∷ h ∷ i ∷ more) long all = absurd (omega arith)

-- where reading ends
pub hash_of-length : (text : List ℕ) → (length text ≡ 8 → ⊥) → hash_of text ≡ None
hash_of-length text other = none_from (hash_of text) (λ h e. other (ap length (hash_of_gives text h e).1))

pub hash_of-stops : (text : List ℕ) (i : ℕ) → i < length text → upper_value (get_or text i 0) ≡ None → hash_of text ≡ None
hash_of-stops text i small none =
    none_from (hash_of text) (λ h e.
    let all = subst (AllPass is_upper_digit) (sym (hash_of_gives text h e).1) (hash_text-All (λ b. is_upper_digit b ≡ true) h upper_upper) in
    both_ways _ (unpicked (is_upper_digit (get_or text i 0)) (digit_value (get_or text i 0)) none)
    (All-get_or (λ b. is_upper_digit b ≡ true) text i 0 small all))

pub hash_of-read : (text : List ℕ) (i n : ℕ) → length text ≡ 8 → length text ≤ i → n < 2 ^ 32 → ReadTo 16 is_upper_digit text i n → Some n ≡ hash_of text
hash_of-read text i n long end small r =
    let whole = read_all 16 is_upper_digit text i n end r in
    let same : hash_text n ≡ text = ap hash_text whole.1 ∙ upper_eight text long whole.0 in
    sym (ap hash_of (sym same) ∙ hash_of_reads n small)

-- a number of at most seven digits has room for another
pub room_left : (i n : ℕ) → n < 16 ^ i → i < 8 → n < 268435456
room_left zero n small few = (let s : n < 1 = small in omega arith)
room_left (suc zero) n small few = (let s : n < 16 = small in omega arith)
room_left (suc (suc zero)) n small few = (let s : n < 256 = small in omega arith)
room_left (suc (suc (suc zero))) n small few = (let s : n < 4096 = small in omega arith)
room_left (suc (suc (suc (suc zero)))) n small few = (let s : n < 65536 = small in omega arith)
room_left (suc (suc (suc (suc (suc zero))))) n small few = (let s : n < 1048576 = small in omega arith)
room_left (suc (suc (suc (suc (suc (suc zero)))))) n small few = (let s : n < 16777216 = small in omega arith)
room_left (suc (suc (suc (suc (suc (suc (suc zero))))))) n small few = small
room_left (suc (suc (suc (suc (suc (suc (suc (suc i)))))))) n small few = absurd (omega arith)

pub room_kept : (i n d : ℕ) → n < 16 ^ i → d < 16 → n * 16 + d < 16 ^ (i + 1)
room_kept i n d small digit =
    let next : i + 1 ≡ suc i = omega arith in
    let more : 16 ^ (i + 1) ≡ 16 ^ i * 16 = ap (λ k. 16 ^ k) next ∙ pow-suc 16 i in
    omega arith

pub upper_value-lt : (b d : ℕ) → upper_value b ≡ Some d → (is_upper_digit b ≡ true) × (digit_value b ≡ d) × (d < 16)
upper_value-lt b d e =
    let p = picked (is_upper_digit b) (digit_value b) d e in
    (p.0, p.1, subst (λ v. v < 16) p.1 (upper_tells b p.0).0)
