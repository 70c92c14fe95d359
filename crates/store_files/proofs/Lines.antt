-- Lines, cut at the first newline.
use Rattle.std.proofs.Common.{◌≡◌, ◌≢◌, ℕ, suc, ◌+◌, ◌<◌, Bool, true, false, not, cond, ◌==◌, List, [], ◌∷◌, ◌++◌, length, get_or, take, drop, Option, Some, None, MatchOption, Bor, refl, sym, subst, ap, ◌∙◌, arith}
use Rattle.std.proofs.lemmas.Bool.Decides.{nat_tests}
use Rattle.std.proofs.lemmas.List.{append_cancel_left}
use Rattle.std.proofs.lemmas.List.Elements.{All-weaker, All-nil, All-cons, All-head, All-tail}
use Rattle.std.proofs.lemmas.List.Sums.{AllPass-from_list_all, split_at_first, passes_at_first}
use Rattle.std.specs.List.{list_all, position_or_len, before_first, after_first}
use Rattle.store_files.specs.Lines.{NoNewline, IsLine, NoLine}

abbrev is_newline : ℕ → Bool
is_newline b = b == 10

abbrev Other : ℕ → Type 0
Other b = b ≢ 10

-- a newline stands somewhere
newline_stands : (v r : List ℕ) → position_or_len is_newline (v ++ 10 ∷ r) < length (v ++ 10 ∷ r)
newline_stands [] r = omega arith
newline_stands (x ∷ v) r = by (not (is_newline x)) (newline_stands v r)
  where
    by : (b : Bool) → position_or_len is_newline (v ++ 10 ∷ r) < length (v ++ 10 ∷ r) → cond b (1 + position_or_len is_newline (v ++ 10 ∷ r)) 0 < suc (length (v ++ 10 ∷ r))
    by true h = omega arith
    by false h = omega arith

front_clear : (xs : List ℕ) → NoNewline (before_first is_newline xs)
front_clear [] = All-nil Other
front_clear (x ∷ xs) = by (is_newline x) refl (front_clear xs)
  where
    by : (b : Bool) → is_newline x ≡ b → NoNewline (before_first is_newline xs) → NoNewline (take (cond (not b) (1 + position_or_len is_newline xs) 0) (x ∷ xs))
    by true is more = All-nil Other
    by false is more =
        let one : suc (position_or_len is_newline xs) ≡ 1 + position_or_len is_newline xs = omega arith in
        subst (λ k. NoNewline (take k (x ∷ xs))) one
        (All-cons Other x (before_first is_newline xs) (λ e. let z : false ≡ true = sym is ∙ ap is_newline e in cc) more)

-- by looking at each byte
pub clear_by : (xs : List ℕ) → list_all (λ b. not (is_newline b)) xs ≡ true → NoNewline xs
clear_by xs all = All-weaker (λ b. not (is_newline b) ≡ true) Other not_newline xs (AllPass-from_list_all (λ b. not (is_newline b)) xs all)
  where
    not_newline : (b : ℕ) → not (is_newline b) ≡ true → b ≢ 10
    not_newline b h e = let z : true ≡ false = sym h ∙ ap (λ x. not (is_newline x)) e in cc

newline_is : (b : ℕ) → is_newline b ≡ true → b ≡ 10
newline_is b e = grind (arith, nat_tests)

cut_first : (xs : List ℕ) → position_or_len is_newline xs < length xs → xs ≡ before_first is_newline xs ++ 10 ∷ after_first is_newline xs
cut_first xs small =
    split_at_first is_newline xs 0 small
    ∙ ap (λ b. before_first is_newline xs ++ b ∷ after_first is_newline xs) (newline_is _ (passes_at_first is_newline xs 0 small))

-- a list is cut at its first newline in one way
pub one_cut : (v r v2 r2 : List ℕ) → NoNewline v → NoNewline v2 → v ++ 10 ∷ r ≡ v2 ++ 10 ∷ r2 → (v ≡ v2) × (r ≡ r2)
one_cut [] r [] r2 a b e = (refl, ap (drop 1) e)
one_cut [] r (y ∷ v2) r2 a b e = absurd (All-head Other y v2 b (sym (ap (λ l. get_or l 0 0) e)))
one_cut (x ∷ v) r [] r2 a b e = absurd (All-head Other x v a (ap (λ l. get_or l 0 0) e))
one_cut (x ∷ v) r (y ∷ v2) r2 a b e =
    let first : x ≡ y = ap (λ l. get_or l 0 0) e in
    let more = one_cut v r v2 r2 (All-tail Other x v a) (All-tail Other y v2 b) (ap (drop 1) e) in
    (ap (λ z. z ∷ v) first ∙ ap (λ l. y ∷ l) more.0, more.1)

-- and so is a line
pub one_line : (word text v r v2 r2 : List ℕ) → IsLine word text v r → IsLine word text v2 r2 → (v ≡ v2) × (r ≡ r2)
one_line word text v r v2 r2 is is2 = one_cut v r v2 r2 is.0 is2.0 (append_cancel_left word (v ++ 10 ∷ r) (v2 ++ 10 ∷ r2) (sym is.1 ∙ is2.1))

-- what `line` answers
pub no_word : (word text : List ℕ) → ((rest : List ℕ) → text ≢ word ++ rest) → NoLine word text
no_word word text none value rest is = none (value ++ 10 ∷ rest) is

pub no_newline : (word text rest : List ℕ) → text ≡ word ++ rest → position_or_len is_newline rest ≡ length rest → NoLine word text
no_newline word text rest at none value more is =
    let same : rest ≡ value ++ 10 ∷ more = append_cancel_left word rest (value ++ 10 ∷ more) (sym at ∙ is) in
    let there : position_or_len is_newline rest < length rest = rw same (newline_stands value more) in
    omega arith

pub has_line : (word text rest value more : List ℕ) → text ≡ word ++ rest → position_or_len is_newline rest < length rest
    → value ≡ before_first is_newline rest → more ≡ after_first is_newline rest → IsLine word text value more
has_line word text rest value more at small first last =
    (rw first (front_clear rest), at ∙ ap (λ l. word ++ l) (cut_first rest small ∙ ap (λ l. l ++ 10 ∷ after_first is_newline rest) (sym first) ∙ ap (λ l. value ++ 10 ∷ l) (sym last)))

pub line_read : (word text rest : List ℕ) (r : Option (Bor (List ℕ) × Bor (List ℕ))) → text ≡ word ++ rest
    → MatchOption r (position_or_len is_newline rest ≡ length rest)
    (λ x. (position_or_len is_newline rest < length rest) × (x.0.now ≡ before_first is_newline rest) × (x.1.now ≡ after_first is_newline rest))
    → MatchOption r (NoLine word text) (λ x. IsLine word text x.0.now x.1.now)
line_read word text rest None at is = no_newline word text rest at is
line_read word text rest (Some x) at is = has_line word text rest x.0.now x.1.now at is.0 is.1 is.2
