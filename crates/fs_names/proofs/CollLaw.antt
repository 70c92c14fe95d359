-- A collection's text is read as the collection, and what is read as a collection is the collection's text.
use Rattle.std.proofs.Common.{◌≡◌, ◌≢◌, inl, inr, ℕ, ◌+◌, ◌^◌, ◌<◌, ◌≤◌, Bool, true, false, not, ltb, eqb, cond, codes, List, [], ◌∷◌, ◌++◌, length, take, drop, get_or, Option, Some, None, refl, sym, ap, subst, ◌∙◌, arith}
use Rattle.std.proofs.lemmas.Bool.{and_parts, cond-false, cond-true, false_from_ne_true, ltb-true, lt-ltb, eqb-true, cases_lt}
use Rattle.std.proofs.lemmas.Bool.Decides.{nat_tests}
use Rattle.std.proofs.lemmas.List.{append_assoc, take_at, drop_at, length_push}
use Rattle.std.proofs.lemmas.List.Elements.{All-weaker, All-append, All-cons, All-head, All-tail}
use Rattle.std.proofs.lemmas.List.Sums.{AllPass-from_list_all, split_at_first, passes_at_first}
use Rattle.std.proofs.lemmas.Slice.Eq.{bytes_eq-Decides}
use Rattle.std.specs.Char.{is_ascii_graphic}
use Rattle.std.specs.Fmt.{digits}
use Rattle.std.specs.List.{All, AllPass, list_all, position_or_len, before_first, after_first}
use Rattle.std.specs.Option.{option_and_then}
use Rattle.std.specs.Str.{bytes_eq}
use Rattle.fs_names.specs.declared.coll.Coll.{Coll}
use Rattle.fs_names.specs.declared.coll.Coll.TheVariants.{Meta, Pg}
use Rattle.fs_names.specs.Laws.{CollTextsAreRead, CollsReadAreSpelled, CollTextsPrint}
use Rattle.fs_names.specs.Numbers.{number_of, is_lower_digit}
use Rattle.fs_names.specs.Reading.{CollFits, coll_of, pg_of, pg_from, seed_of, kind_of, below_32_bits, is_dot, is_underscore}
use Rattle.fs_names.specs.Text.{coll_text}
use Rattle.fs_names.proofs.Colls.{head_text, temp_text, no_group, no_kind}
use Rattle.fs_names.proofs.Digits.{digits-lower, length-digits, number_gives, number_reads}
use Rattle.fs_names.proofs.Inner.{is_inner, digits-inner}
use Rattle.fs_names.proofs.Splits.{position_or_len_le}

-- what stands before and after a byte that does not stand before
position_at : (p : ℕ → Bool) (xs : List ℕ) (y : ℕ) (ys : List ℕ) → All (λ x. p x ≡ false) xs → p y ≡ true → position_or_len p (xs ++ y ∷ ys) ≡ length xs
position_at p [] y ys all is = ap (λ b. cond (not b) (1 + position_or_len p ys) 0) is
position_at p (x ∷ xs) y ys all is =
    ap (λ b. cond (not b) (1 + position_or_len p (xs ++ y ∷ ys)) 0) (All-head (λ x. p x ≡ false) x xs all)
    ∙ (let more = position_at p xs y ys (All-tail (λ x. p x ≡ false) x xs all) is in omega arith)

before_at : (p : ℕ → Bool) (xs : List ℕ) (y : ℕ) (ys : List ℕ) → All (λ x. p x ≡ false) xs → p y ≡ true → before_first p (xs ++ y ∷ ys) ≡ xs
before_at p xs y ys all is = ap (λ n. take n (xs ++ y ∷ ys)) (position_at p xs y ys all is) ∙ take_at xs (y ∷ ys) (length xs) refl

after_at : (p : ℕ → Bool) (xs : List ℕ) (y : ℕ) (ys : List ℕ) → All (λ x. p x ≡ false) xs → p y ≡ true → after_first p (xs ++ y ∷ ys) ≡ ys
after_at p xs y ys all is =
    ap (λ n. drop (n + 1) (xs ++ y ∷ ys)) (position_at p xs y ys all is)
    ∙ ap (drop (length xs + 1)) (sym (append_assoc xs (y ∷ []) ys)) ∙ drop_at (xs ++ y ∷ []) ys (length xs + 1) (length_push xs y)

-- digits hold no `.` and no `_`
lower_not_dot : (base b : ℕ) → base ≤ 16 → is_lower_digit base b ≡ true → is_dot b ≡ false
lower_not_dot base b high h = grind (arith, nat_tests)

lower_not_underscore : (base b : ℕ) → base ≤ 16 → is_lower_digit base b ≡ true → is_underscore b ≡ false
lower_not_underscore base b high h = grind (arith, nat_tests)

no_dot : (n : ℕ) → All (λ b. is_dot b ≡ false) (digits 10 false n)
no_dot n = All-weaker (λ b. is_lower_digit 10 b ≡ true) (λ b. is_dot b ≡ false) (λ b. lower_not_dot 10 b (omega arith)) _ (digits-lower 10 n (omega arith) (omega arith))

no_underscore : (n : ℕ) → All (λ b. is_underscore b ≡ false) (digits 16 false n)
no_underscore n =
    All-weaker (λ b. is_lower_digit 16 b ≡ true) (λ b. is_underscore b ≡ false) (λ b. lower_not_underscore 16 b (omega arith)) _
    (digits-lower 16 n (omega arith) (omega arith))

-- the text of a group's collection isn't `meta`
lower_not_m : (b : ℕ) → is_lower_digit 10 b ≡ true → b ≢ 109
lower_not_m b h e = grind (arith, nat_tests)

not_meta : (n : ℕ) (rest : List ℕ) → n < 2 ^ 64 → bytes_eq (digits 10 false n ++ rest) (codes "meta") ≡ false
not_meta n rest small = by (digits 10 false n) (length-digits 10 n (omega arith) (omega arith) small) (digits-lower 10 n (omega arith) (omega arith))
  where
    by : (ds : List ℕ) → 0 < length ds → AllPass (is_lower_digit 10) ds → bytes_eq (ds ++ rest) (codes "meta") ≡ false
    by [] some all = absurd (omega arith)
    by (d ∷ ds) some all =
        false_from_ne_true _ (λ e.
        let same = (bytes_eq-Decides (d ∷ ds ++ rest) (codes "meta")).0 e in
        lower_not_m d (All-head (λ b. is_lower_digit 10 b ≡ true) d ds all) (ap (λ l. get_or l 0 0) same))

seed_of_digits : (seed : ℕ) → seed < 2 ^ 32 → seed_of (digits 16 false seed) ≡ Some seed
seed_of_digits seed small =
    ap (option_and_then below_32_bits) (number_reads 16 seed (omega arith) (omega arith) (omega arith))
    ∙ cond-true _ (Some seed) None (lt-ltb seed (2 ^ 32) small)

-- a text in three parts
parts_read : (pool seed : ℕ) (kind : List ℕ) (temp : Bool) → pool < 2 ^ 64 → seed < 2 ^ 32 → kind_of kind ≡ Some temp
    → pg_of (digits 10 false pool ++ (46 ∷ (digits 16 false seed ++ (95 ∷ kind)))) ≡ Some (Pg pool seed temp)
unfolding pg_of
parts_read pool seed kind temp p s k =
    let group = digits 16 false seed ++ (95 ∷ kind) in
    let text = digits 10 false pool ++ (46 ∷ group) in
    let first : before_first is_dot text ≡ digits 10 false pool = before_at is_dot (digits 10 false pool) 46 group (no_dot pool) refl in
    let rest : after_first is_dot text ≡ group = after_at is_dot (digits 10 false pool) 46 group (no_dot pool) refl in
    let second : before_first is_underscore group ≡ digits 16 false seed = before_at is_underscore (digits 16 false seed) 95 kind (no_underscore seed) refl in
    let third : after_first is_underscore group ≡ kind = after_at is_underscore (digits 16 false seed) 95 kind (no_underscore seed) refl in
    ap (λ l. pg_from (number_of 10 l) (seed_of (before_first is_underscore (after_first is_dot text))) (kind_of (after_first is_underscore (after_first is_dot text)))) first
    ∙ ap (λ l. pg_from (number_of 10 (digits 10 false pool)) (seed_of (before_first is_underscore l)) (kind_of (after_first is_underscore l))) rest
    ∙ ap (λ l. pg_from (number_of 10 (digits 10 false pool)) (seed_of l) (kind_of (after_first is_underscore group))) second
    ∙ ap (λ l. pg_from (number_of 10 (digits 10 false pool)) (seed_of (digits 16 false seed)) (kind_of l)) third
    ∙ ap (λ o. pg_from o (seed_of (digits 16 false seed)) (kind_of kind)) (number_reads 10 pool (omega arith) (omega arith) p)
    ∙ ap (λ o. pg_from (Some pool) o (kind_of kind)) (seed_of_digits seed s)
    ∙ ap (λ o. pg_from (Some pool) (Some seed) o) k

text_read : (pool seed : ℕ) (kind : List ℕ) (temp : Bool) → pool < 2 ^ 64 → seed < 2 ^ 32 → kind_of kind ≡ Some temp
    → coll_of (digits 10 false pool ++ (46 ∷ (digits 16 false seed ++ (95 ∷ kind)))) ≡ Some (Pg pool seed temp)
unfolding coll_of
text_read pool seed kind temp p s k =
    cond-false _ _ _ (not_meta pool (46 ∷ (digits 16 false seed ++ (95 ∷ kind))) p) ∙ parts_read pool seed kind temp p s k

meta_read : coll_of (coll_text Meta) ≡ Some Meta
unfolding coll_of coll_text
meta_read = refl

pub coll_texts_are_read : CollTextsAreRead
coll_texts_are_read Meta fits = meta_read
coll_texts_are_read (Pg pool seed false) fits = ap coll_of (head_text pool seed) ∙ text_read pool seed (codes "head") false fits.0 fits.1 refl
coll_texts_are_read (Pg pool seed true) fits = ap coll_of (temp_text pool seed) ∙ text_read pool seed (codes "TEMP") true fits.0 fits.1 refl

-- a list is what stands before and after the byte
cut_at : (c : ℕ) (xs : List ℕ) → position_or_len (λ b. eqb b c) xs < length xs → xs ≡ before_first (λ b. eqb b c) xs ++ (c ∷ after_first (λ b. eqb b c) xs)
cut_at c xs h =
    let is = λ (b : ℕ). eqb b c in
    let found = eqb-true (get_or xs (position_or_len is xs) 0) c (passes_at_first is xs 0 h) in
    split_at_first is xs 0 h ∙ ap (λ b. before_first is xs ++ (b ∷ after_first is xs)) found

-- what the parts tell
record Given (pool seed : Option ℕ) (kind : Option Bool) (c : Coll) : Type 0 where
  p : ℕ
  s : ℕ
  t : Bool
  pool_is : pool ≡ Some p
  seed_is : seed ≡ Some s
  kind_is : kind ≡ Some t
  whole : c ≡ Pg p s t

given : (pool seed : Option ℕ) (kind : Option Bool) (c : Coll) → pg_from pool seed kind ≡ Some c → Given pool seed kind c
given None seed kind c h = cc
given (Some p) None kind c h = cc
given (Some p) (Some s) None c h = cc
given (Some p) (Some s) (Some t) c h = record { p = p; s = s; t = t; pool_is = refl; seed_is = refl; kind_is = refl; whole = cc }

seed_given : (text : List ℕ) (o : Option ℕ) (s : ℕ) → number_of 16 text ≡ o → option_and_then below_32_bits o ≡ Some s → (text ≡ digits 16 false s) × (s < 2 ^ 32)
seed_given text None s e h = cc
seed_given text (Some n) s e h = by (ltb n (2 ^ 32)) refl h
  where
    by : (b : Bool) → ltb n (2 ^ 32) ≡ b → cond b (Some n) None ≡ Some s → (text ≡ digits 16 false s) × (s < 2 ^ 32)
    by true small g =
        let same : n ≡ s = cc in
        ((number_gives 16 text n e).1 ∙ ap (digits 16 false) same, subst (λ m. m < 2 ^ 32) same (ltb-true n (2 ^ 32) small))
    by false small g = cc

kind_given : (text : List ℕ) (t : Bool) → kind_of text ≡ Some t → text ≡ codes (cond t "TEMP" "head")
kind_given text t h = by (bytes_eq text (codes "head")) (bytes_eq text (codes "TEMP")) refl refl h
  where
    by : (a b : Bool) → bytes_eq text (codes "head") ≡ a → bytes_eq text (codes "TEMP") ≡ b → cond a (Some false) (cond b (Some true) None) ≡ Some t
        → text ≡ codes (cond t "TEMP" "head")
    by true b e f g =
        let same : false ≡ t = cc in
        (bytes_eq-Decides text (codes "head")).0 e ∙ ap (λ b. codes (cond b "TEMP" "head")) same
    by false true e f g =
        let same : true ≡ t = cc in
        (bytes_eq-Decides text (codes "TEMP")).0 f ∙ ap (λ b. codes (cond b "TEMP" "head")) same
    by false false e f g = cc

text_of_parts : (pool seed : ℕ) (temp : Bool) → coll_text (Pg pool seed temp) ≡ digits 10 false pool ++ (46 ∷ (digits 16 false seed ++ (95 ∷ codes (cond temp "TEMP" "head"))))
text_of_parts pool seed true = temp_text pool seed
text_of_parts pool seed false = head_text pool seed

-- a group's collection that was read
pg_spelled : (text : List ℕ) (c : Coll) → position_or_len is_dot text < length text
    → position_or_len is_underscore (after_first is_dot text) < length (after_first is_dot text) → pg_of text ≡ Some c → (coll_text c ≡ text) × CollFits c
unfolding pg_of
pg_spelled text c dot low h =
    let group = after_first is_dot text in
    let g = given (number_of 10 (before_first is_dot text)) (seed_of (before_first is_underscore group)) (kind_of (after_first is_underscore group)) c h in
    let pool = number_gives 10 (before_first is_dot text) g.p g.pool_is in
    let seed = seed_given (before_first is_underscore group) (number_of 16 (before_first is_underscore group)) g.s refl g.seed_is in
    let kind = kind_given (after_first is_underscore group) g.t g.kind_is in
    let inner : group ≡ digits 16 false g.s ++ (95 ∷ codes (cond g.t "TEMP" "head")) =
    cut_at 95 group low ∙ ap (λ l. l ++ (95 ∷ after_first is_underscore group)) seed.0 ∙ ap (λ l. digits 16 false g.s ++ (95 ∷ l)) kind in
    let whole : text ≡ digits 10 false g.p ++ (46 ∷ (digits 16 false g.s ++ (95 ∷ codes (cond g.t "TEMP" "head")))) =
    cut_at 46 text dot ∙ ap (λ l. l ++ (46 ∷ group)) pool.1 ∙ ap (λ l. digits 10 false g.p ++ (46 ∷ l)) inner in
    subst (λ x. (coll_text x ≡ text) × CollFits x) (sym g.whole) (text_of_parts g.p g.s g.t ∙ sym whole, (pool.0, seed.1))

pg_read : (text : List ℕ) (c : Coll) → pg_of text ≡ Some c → (coll_text c ≡ text) × CollFits c
pg_read text c h =
    let group = after_first is_dot text in
    elim (cases_lt (position_or_len is_dot text) (length text)) [
      | inr none ↦ (let missing = no_group text (omega (arith, position_or_len_le is_dot text)) in cc)
      | inl dot ↦ elim (cases_lt (position_or_len is_underscore group) (length group)) [
        | inr none ↦ (let missing = no_kind text group refl (omega (arith, position_or_len_le is_underscore group)) in cc)
        | inl low ↦ pg_spelled text c dot low h
      ]
    ]

meta_text : coll_text Meta ≡ codes "meta"
unfolding coll_text
meta_text = refl

pub colls_read_are_spelled : CollsReadAreSpelled
unfolding coll_of
colls_read_are_spelled text c h = by (bytes_eq text (codes "meta")) refl h
  where
    by : (b : Bool) → bytes_eq text (codes "meta") ≡ b → cond b (Some Meta) (pg_of text) ≡ Some c → (coll_text c ≡ text) × CollFits c
    by true e f =
        let same : Meta ≡ c = cc in
        subst (λ x. (coll_text x ≡ text) × CollFits x) same (meta_text ∙ sym ((bytes_eq-Decides text (codes "meta")).0 e), tt)
    by false e f = pg_read text c f

-- each byte prints
digits_print : (base n : ℕ) → 2 ≤ base → base ≤ 16 → AllPass is_ascii_graphic (digits base false n)
digits_print base n low high = All-weaker (λ b. is_inner b ≡ true) (λ b. is_ascii_graphic b ≡ true) (λ b h. (and_parts _ _ h).0) _ (digits-inner base n low high)

parts_print : (pool seed : ℕ) (kind : List ℕ) → AllPass is_ascii_graphic (95 ∷ kind)
    → AllPass is_ascii_graphic (digits 10 false pool ++ (46 ∷ (digits 16 false seed ++ (95 ∷ kind))))
parts_print pool seed kind k =
    let P = λ (b : ℕ). is_ascii_graphic b ≡ true in
    All-append P (digits 10 false pool) _ (digits_print 10 pool (omega arith) (omega arith))
    (All-cons P 46 _ refl (All-append P (digits 16 false seed) _ (digits_print 16 seed (omega arith) (omega arith)) k))

pub coll_texts_print : CollTextsPrint
coll_texts_print Meta fits = subst (AllPass is_ascii_graphic) (sym meta_text) (AllPass-from_list_all is_ascii_graphic (codes "meta") refl)
coll_texts_print (Pg pool seed temp) fits =
    subst (AllPass is_ascii_graphic) (sym (text_of_parts pool seed temp)) (parts_print pool seed _ (AllPass-from_list_all is_ascii_graphic (95 ∷ codes (cond temp "TEMP" "head")) (by temp)))
  where
    by : (t : Bool) → list_all is_ascii_graphic (95 ∷ codes (cond t "TEMP" "head")) ≡ true
    by true = refl
    by false = refl
