-- What the loops over bytes keep.
use Rattle.std.proofs.Common.{◌≡◌, ◌≢◌, ℕ, zero, suc, ◌+◌, ◌-◌, ◌/◌, ◌%◌, ◌^◌, ◌<◌, ◌≤◌, Bool, true, false, cond, eqb, List, [], ◌∷◌, ◌++◌, length, get_or, set, take, drop, slice_get, Option, Some, None, Result, Ok, Err, OnOk, MatchOption, Bor, nat_eq, refl, sym, ap, subst, ◌∙◌, arith, append_assoc, length-append, length-drop, min, inl, inr}
use Rattle.std.proofs.Math.Nat.{div-lt_iff_lt-mul, pow-suc}
use Rattle.std.proofs.lemmas.Bool.{eq-eqb, ne_eqb, cases_lt}
use Rattle.std.proofs.lemmas.List.{take_all, take_more, drop_more, drop_all, drop-set, length-set, append-nil}
use Rattle.std.proofs.lemmas.Bool.Decides.{Decides-eqb}
use Rattle.std.proofs.lemmas.Slice.Eq.{strip_prefix_is}
use Rattle.std.specs.Cmp.Lexicographic.{pointwise}
use Rattle.std.specs.Fmt.{digits, digits_onto, digit_glyph}
use Rattle.std.specs.Ordering.{ordering_then, is_ne}
use Rattle.std.specs.Prelude.{if◌then◌else◌}
use Rattle.std.specs.Result.{is_ok}
use Rattle.std.specs.declared.cmp.Ordering.{Ordering}
use Rattle.std.specs.declared.cmp.Ordering.TheVariants.{Less, Equal, Greater}
use Rattle.fs_names.specs.declared.fault.NameFault.TheVariants.{BadEscape}
use Rattle.fs_names.specs.Text.{spelled, field_text}
use Rattle.fs_names.specs.Units.{unit_byte, after, field_of, counted}
use Rattle.fs_names.proofs.Digits.{onto_all}
use Rattle.fs_names.proofs.ReadLaws.{field_next, field_none, field_stops, after_none, after_twice, spelled_some}

-- Spelling.
pub spelled_more : (out one more old bytes : List ℕ) (i : ℕ) → i < length bytes → one ≡ spelled (get_or bytes i 0) → more ≡ out ++ one
    → out ++ field_text (drop i bytes) ≡ old → more ++ field_text (drop (i + 1) bytes) ≡ old
spelled_more out one more old bytes i small is grown e =
    ap (λ l. l ++ field_text (drop (i + 1) bytes)) (grown ∙ ap (λ l. out ++ l) is)
    ∙ append_assoc out (spelled (get_or bytes i 0)) (field_text (drop (i + 1) bytes))
    ∙ ap (λ l. out ++ field_text l) (sym (drop_more bytes i 0 small)) ∙ e

pub spelled_all : (out old bytes : List ℕ) (i : ℕ) → length bytes ≤ i → out ++ field_text (drop i bytes) ≡ old → out ≡ old
spelled_all out old bytes i end e = sym (append-nil out) ∙ ap (λ l. out ++ field_text l) (sym (drop_all i bytes end)) ∙ e

-- Reading.
spelled_long : (b : ℕ) → 0 < length (spelled b)
spelled_long b =
    let s = spelled_some b in
    let n : length (spelled b) ≡ suc (length s.1) = ap length s.2 in
    omega arith

pub unit_long : (b : ℕ) (rest next : List ℕ) → rest ≡ spelled b ++ next → length next < length rest
unit_long b rest next e =
    let some = spelled_long b in
    let long : length rest ≡ length (spelled b) + length next = ap length e ∙ length-append (spelled b) next in
    omega arith

read_more : (at b place : ℕ) (text out rest next : List ℕ) → unit_byte rest ≡ Some b → rest ≡ spelled b ++ next → field_of at text ≡ after out (field_of place rest)
    → field_of at text ≡ after (out ++ b ∷ []) (field_of (place + length (spelled b)) next)
read_more at b place text out rest next is e read =
    read ∙ ap (after out) (field_next place b rest next is e) ∙ after_twice out (b ∷ []) (field_of (place + length (spelled b)) next)

-- so many bytes are read of a text at place `at`, and `rest` is left at another place
pub record CountedTo (at : ℕ) (text : List ℕ) (count place : ℕ) (rest : List ℕ) : Type 0 where
  pub out : List ℕ
  pub long : length out ≡ count
  pub read : field_of at text ≡ after out (field_of place rest)
  pub whole : place + length rest ≡ at + length text
  pub few : count + length rest ≤ length text

pub counted_first : (at : ℕ) (text : List ℕ) → CountedTo at text 0 at text
counted_first at text = record { out = []; long = refl; read = sym (after_none (field_of at text)); whole = refl; few = omega arith }

pub counted_more : (at b count place : ℕ) (text rest next : List ℕ) → unit_byte rest ≡ Some b → rest ≡ spelled b ++ next
    → CountedTo at text count place rest → CountedTo at text (count + 1) (place + (length rest - length next)) next
counted_more at b count place text rest next is e c =
    let some = spelled_long b in
    let long : length rest ≡ length (spelled b) + length next = ap length e ∙ length-append (spelled b) next in
    let step : place + length (spelled b) ≡ place + (length rest - length next) = omega arith in
    let whole = c.whole in
    let few = c.few in
    record {
      out = c.out ++ b ∷ [];
      long = length-append c.out (b ∷ []) ∙ ap (λ n. n + 1) c.long;
      read = read_more at b place text c.out rest next is e c.read ∙ ap (λ n. after (c.out ++ b ∷ []) (field_of n next)) step;
      whole = omega arith;
      few = omega arith;
    }

empty : (xs : List ℕ) → length xs ≡ 0 → xs ≡ []
empty [] e = refl
empty (x ∷ xs) e = absurd (omega arith)

pub counted_end : (at count place : ℕ) (text rest : List ℕ) → CountedTo at text count place rest → length rest ≡ 0 → counted (field_of at text) ≡ Ok count
counted_end at count place text rest c e =
    ap counted (c.read ∙ ap (λ l. after c.out (field_of place l)) (empty rest e) ∙ ap (after c.out) (field_none place))
    ∙ ap Ok (ap length (append-nil c.out) ∙ c.long)

pub counted_stop : (at count place : ℕ) (text rest : List ℕ) → CountedTo at text count place rest → unit_byte rest ≡ None → 0 < length rest
    → counted (field_of at text) ≡ Err (BadEscape place)
counted_stop at count place text rest c none some = ap counted (c.read ∙ ap (after c.out) (field_stops place rest none some))

-- what a vector came to hold of a text, of which `rest` is left
pub record PushedTo (old out text rest : List ℕ) : Type 0 where
  pub read : List ℕ
  pub whole : out ≡ old ++ read
  pub is : (at : ℕ) → (place : ℕ) × (field_of at text ≡ after read (field_of place rest))

pub pushed_first : (old text : List ℕ) → PushedTo old old text text
pushed_first old text = record { read = []; whole = sym (append-nil old); is = λ at. (at, sym (after_none (field_of at text))) }

pub pushed_more : (b : ℕ) (old out more text rest next : List ℕ) → unit_byte rest ≡ Some b → rest ≡ spelled b ++ next → more ≡ out ++ b ∷ []
    → PushedTo old out text rest → PushedTo old more text next
pushed_more b old out more text rest next is e grown p =
    record {
      read = p.read ++ b ∷ [];
      whole = grown ∙ ap (λ l. l ++ b ∷ []) p.whole ∙ append_assoc old p.read (b ∷ []);
      is = λ at. let q = p.is at in (q.0 + length (spelled b), read_more at b q.0 text p.read rest next is e q.1);
    }

pub pushed_end : (at : ℕ) (old out text rest bytes : List ℕ) → PushedTo old out text rest → unit_byte rest ≡ None → field_of at text ≡ Ok bytes → out ≡ old ++ bytes
pushed_end at old out text [] bytes p none e =
    let q = p.is at in
    let same : Ok (p.read ++ []) ≡ Ok bytes = sym (q.1 ∙ ap (after p.read) (field_none q.0)) ∙ e in
    let bytes_are : p.read ++ [] ≡ bytes = cc in
    p.whole ∙ ap (λ l. old ++ l) (sym (append-nil p.read) ∙ bytes_are)
pushed_end at old out text (c ∷ rest) bytes p none e =
    let q = p.is at in
    let clash : Err (BadEscape q.0) ≡ Ok bytes = sym (q.1 ∙ ap (after p.read) (field_stops q.0 (c ∷ rest) none (omega arith))) ∙ e in
    absurd cc

-- Digits. The last digits of a number stand from a place on, and `rest` is the number of those before.
abbrev onto : ℕ → ℕ → List ℕ → List ℕ
onto k rest ds = cond (eqb rest 0) ds (digits_onto k 16 false rest ds)

pub record DigitsTo (number : ℕ) (bytes : List ℕ) (from rest : ℕ) : Type 0 where
  pub are : digits 16 false number ≡ cond (eqb rest 0) (drop from bytes) (digits_onto (48 + from) 16 false rest (drop from bytes))
  pub small : rest < 16 ^ from
  pub place : from < 16
  pub long : length bytes ≡ 16

pub digits_begun : (number : ℕ) (bytes : List ℕ) → length bytes ≡ 16 → number < 2 ^ 64 → drop 15 bytes ≡ digit_glyph false (number % 16) ∷ [] → DigitsTo number bytes 15 (number / 16)
digits_begun number bytes long small e =
    let some : 0 < 16 = omega arith in
    record {
      are = onto_all 16 number ∙ ap (λ l. onto 63 (number / 16) l) (sym e);
      small = (div-lt_iff_lt-mul some).1 (omega arith);
      place = omega arith;
      long = long;
    }

pub digits_left : (number : ℕ) (bytes : List ℕ) (from rest : ℕ) → DigitsTo number bytes from rest → 0 < rest → 0 < from
digits_left number bytes zero rest d some = absurd (let small : rest < 1 = d.small in omega arith)
digits_left number bytes (suc from) rest d some = omega arith

pub digits_grow : (number : ℕ) (bytes : List ℕ) (from rest digit : ℕ) → DigitsTo number bytes from rest → 0 < rest → digit ≡ digit_glyph false (rest % 16)
    → DigitsTo number (set bytes (from - 1) digit) (from - 1) (rest / 16)
digits_grow number bytes zero rest digit d some is = absurd (let left = digits_left number bytes zero rest d some in omega arith)
digits_grow number bytes (suc from) rest digit d some is =
    let base : 0 < 16 = omega arith in
    let place = d.place in
    let long = d.long in
    let more = set bytes (suc from - 1) digit in
    let within : suc from - 1 < length bytes = omega arith in
    let next : suc from - 1 + 1 ≡ suc from = omega arith in
    let e : drop (suc from - 1) more ≡ digit_glyph false (rest % 16) ∷ drop (suc from) bytes =
    drop-set bytes (suc from - 1) digit within ∙ ap (λ x. x ∷ drop (suc from - 1 + 1) bytes) is ∙ ap (λ n. digit_glyph false (rest % 16) ∷ drop n bytes) next in
    let small = d.small in
    let back : suc from - 1 ≡ from = omega arith in
    let one : digits 16 false number ≡ digits_onto (suc (48 + from)) 16 false rest (drop (suc from) bytes) =
    d.are ∙ ap (λ b. cond b (drop (suc from) bytes) (digits_onto (48 + suc from) 16 false rest (drop (suc from) bytes))) (ne_eqb rest 0 (λ z. omega arith))
    ∙ ap (λ k. digits_onto k 16 false rest (drop (suc from) bytes)) (let fuel : 48 + suc from ≡ suc (48 + from) = omega arith in fuel) in
    record {
      are = one ∙ ap (λ l. onto (48 + from) (rest / 16) l) (sym e) ∙ ap (λ n. cond (eqb (rest / 16) 0) (drop (suc from - 1) more) (digits_onto (48 + n) 16 false (rest / 16) (drop (suc from - 1) more))) (sym back);
      small = subst (λ n. rest / 16 < 16 ^ n) (sym back) ((div-lt_iff_lt-mul base).1 (omega (arith, pow-suc 16 from)));
      place = omega arith;
      long = length-set bytes (suc from - 1) digit ∙ long;
    }

pub digits_end : (number : ℕ) (bytes : List ℕ) (from rest : ℕ) → DigitsTo number bytes from rest → rest ≡ 0 → drop from bytes ≡ digits 16 false number
digits_end number bytes from rest d e = sym (d.are ∙ ap (λ b. cond b (drop from bytes) (digits_onto (48 + from) 16 false rest (drop from bytes))) (eq-eqb rest 0 e))

-- The first difference.
pub take_both : (a b : List ℕ) (i : ℕ) → take i a ≡ take i b → i < length a → i < length b → get_or a i 0 ≡ get_or b i 0 → take (i + 1) a ≡ take (i + 1) b
take_both a b i same p q e =
    take_more a i 0 p ∙ ap (λ l. l ++ get_or a i 0 ∷ []) same ∙ ap (λ x. take i b ++ x ∷ []) e ∙ sym (take_more b i 0 q)

pub differs_there : (a b : List ℕ) (i : ℕ) → i < length a → i < length b → get_or a i 0 ≢ get_or b i 0 → slice_get a i ≡ slice_get b i → a ≡ b
differs_there [] b i p q other e = absurd (omega arith)
differs_there (x ∷ a) [] i p q other e = absurd (omega arith)
differs_there (x ∷ a) (y ∷ b) zero p q other e = absurd (other cc)
differs_there (x ∷ a) (y ∷ b) (suc i) p q other e =
    let rest = differs_there a b i (omega arith) (omega arith) other e in
    absurd (other (ap (λ l. get_or l i 0) rest))

no_more : (xs : List ℕ) (i : ℕ) → length xs ≤ i → slice_get xs i ≡ None
no_more [] i h = refl
no_more (x ∷ xs) zero h = absurd (omega arith)
no_more (x ∷ xs) (suc i) h = no_more xs i (omega arith)

ended_at : (xs : List ℕ) (i : ℕ) → i ≤ length xs → slice_get xs i ≡ None → length xs ≡ i
ended_at [] i h e = omega arith
ended_at (x ∷ xs) zero h e = cc
ended_at (x ∷ xs) (suc i) h e = let more = ended_at xs i (omega arith) e in omega arith

pub same_to_end : (a b : List ℕ) (i : ℕ) → i ≡ min (length a) (length b) → take i a ≡ take i b → slice_get a i ≡ slice_get b i → a ≡ b
same_to_end a b i e same there =
    elim (cases_lt (length a) (length b)) [
      | inl less ↦ (let at : length a ≡ i = omega arith in
          let ended = ended_at b i (omega arith) (sym there ∙ no_more a i (omega arith)) in
          sym (take_all i a (omega arith)) ∙ same ∙ take_all i b (omega arith))
      | inr more ↦ (let at : length b ≡ i = omega arith in
          let ended = ended_at a i (omega arith) (there ∙ no_more b i (omega arith)) in
          sym (take_all i a (omega arith)) ∙ same ∙ take_all i b (omega arith))
    ]

-- The order, part by part.
pub differs_by : (r : Ordering) (t : Bool) → t ≡ is_ne r → t ≡ true → r ≢ Equal
differs_by Less t is e = λ f. cc
differs_by Equal t is e = λ f. (let clash : false ≡ true = sym is ∙ e in cc)
differs_by Greater t is e = λ f. cc

pub ties_by : (r : Ordering) (t : Bool) → t ≡ is_ne r → t ≡ false → r ≡ Equal
ties_by Less t is e = (let clash : true ≡ false = sym is ∙ e in cc)
ties_by Equal t is e = refl
ties_by Greater t is e = (let clash : true ≡ false = sym is ∙ e in cc)

pub first_decides : (r x : Ordering) (t : Bool) (rest : Ordering) → r ≡ x → t ≡ is_ne r → t ≡ true → r ≡ ordering_then x rest
first_decides r x t rest e is not = e ∙ by x (λ f. differs_by r t is not (e ∙ f))
  where
    by : (y : Ordering) → (y ≡ Equal → ⊥) → y ≡ ordering_then y rest
    by Less f = refl
    by Equal f = absurd (f refl)
    by Greater f = refl

pub next_decides : (r x : Ordering) (t : Bool) (z rest : Ordering) → r ≡ x → t ≡ is_ne r → t ≡ false → z ≡ rest → z ≡ ordering_then x rest
next_decides r x t z rest e is not f = f ∙ ap (λ o. ordering_then o rest) (sym (sym e ∙ ties_by r t is not))

-- A front that is stripped.
pub not_stripped : (text front : List ℕ) (Q : Bor (List ℕ) → Type 0) (r : Option (Bor (List ℕ)))
    → MatchOption r (pointwise nat_eq (take (length front) text) front ≡ false) Q → r ≡ None → (rest : List ℕ) → text ≢ front ++ rest
not_stripped text front Q (Some x) m e = cc
not_stripped text front Q None m e = strip_prefix_is Decides-eqb text front None m

pub stripped : (text front : List ℕ) (r : Option (Bor (List ℕ))) (x : Bor (List ℕ))
    → MatchOption r (pointwise nat_eq (take (length front) text) front ≡ false)
    (λ x. (pointwise nat_eq (take (length front) text) front ≡ true) × (x.now ≡ drop (length front) text) × (length x.now + length front ≡ length text))
    → r ≡ Some x → text ≡ front ++ x.now
stripped text front (Some y) x m e =
    let same : y ≡ x = cc in
    strip_prefix_is Decides-eqb text front (Some y) m ∙ ap (λ z. front ++ z.now) same
stripped text front None x m e = cc

pub some_left : (n : ℕ) (t : Bool) → t ≡ eqb n 0 → t ≡ false → 0 < n
some_left zero t e f = (let clash : true ≡ false = sym e ∙ f in absurd cc)
some_left (suc n) t e f = omega arith

pub on_ok : {T E : Type 0} (r : Result T E) (A B : Type 0) → OnOk r A → (A → B) → OnOk r B
on_ok (Ok x) A B h f = f h
on_ok (Err e) A B h f = tt

pub extended : {T E : Type 0} (r : Result T E) (new old text bytes : List ℕ) → new ≡ (if is_ok r then old ++ text else old) → text ≡ bytes
    → OnOk r (new ≡ old ++ bytes)
extended (Ok x) new old text bytes e same = e ∙ ap (λ l. old ++ l) same
extended (Err f) new old text bytes e same = tt

pub take_rest : (n : ℕ) (xs : List ℕ) → take (length xs - n) (drop n xs) ≡ drop n xs
take_rest n xs = take_all (length xs - n) (drop n xs) (omega (arith, length-drop n xs))
