-- Names, keys and namespaces are read as they are spelled, and what is read was spelled so.
use Rattle.std.proofs.Common.{◌≡◌, ◌≢◌, ℕ, zero, suc, ◌+◌, ◌-◌, ◌<◌, Bool, true, false, cond, ltb, ◌||◌, codes, List, [], ◌∷◌, ◌++◌, length, drop, Option, Some, None, Result, Ok, Err, refl, sym, ap, subst, ◌∙◌, arith, append_assoc, length-append}
use Rattle.std.proofs.lemmas.Bool.{cond-true, cond-false, false_from_ne_true, both_ways, ltb-true}
use Rattle.std.proofs.lemmas.Bool.Decides.{nat_tests}
use Rattle.std.proofs.lemmas.List.Elements.{All-nil, All-weaker, All-cons, All-head, All-tail, All-append, All-drop}
use Rattle.std.proofs.lemmas.List.Sums.{AllPass-from_list_all}
use Rattle.std.specs.List.{All, list_all}
use Rattle.std.specs.Option.{option_map_or}
use Rattle.fs_names.specs.declared.fault.NameFault.{NameFault}
use Rattle.fs_names.specs.declared.fault.NameFault.TheVariants.{BadEscape}
use Rattle.fs_names.specs.Text.{spelled, field_text, name_text}
use Rattle.fs_names.specs.Likely.{likely_byte}
use Rattle.fs_names.specs.Units.{begins, unit_byte, after, units_of, field_of, name_of}
use Rattle.fs_names.proofs.UnitLaws.{begins_from, begins_is, likely_spelled, unit_byte_gives, unit_byte_is}

abbrev pub IsSmall : List ℕ → Type 0
IsSmall = All (λ b. b < 256)

small_from_list : (bytes : List ℕ) → list_all (λ b. ltb b 256) bytes ≡ true → IsSmall bytes
small_from_list bytes e = All-weaker (λ b. ltb b 256 ≡ true) (λ b. b < 256) (λ b h. ltb-true b 256 h) bytes (AllPass-from_list_all (λ b. ltb b 256) bytes e)

-- no spelling is empty
pub spelled_some : (b : ℕ) → (c : ℕ) × (cs : List ℕ) × (spelled b ≡ c ∷ cs)
spelled_some b = by (spelled b) refl (λ e. some e)
  where
    some : spelled b ≡ [] → ⊥
    some e = (let none : length (spelled b) ≡ 0 = ap length e in grind (arith, nat_tests))

    by : (l : List ℕ) → spelled b ≡ l → (spelled b ≡ [] → ⊥) → (c : ℕ) × (cs : List ℕ) × (spelled b ≡ c ∷ cs)
    by [] e no_none = absurd (no_none e)
    by (c ∷ cs) e no_none = (c, cs, e)

-- bytes of a unit that was read are passed over
skipped : (xs rest : List ℕ) (at : ℕ) → units_of (length xs) at (xs ++ rest) ≡ units_of 0 (at + length xs) rest
unfolding units_of
skipped [] rest at = ap (λ n. units_of 0 n rest) (let same : at ≡ at + 0 = omega arith in same)
skipped (x ∷ xs) rest at =
    skipped xs rest (at + 1) ∙ ap (λ n. units_of 0 n rest) (let same : at + 1 + length xs ≡ at + suc (length xs) = omega arith in same)

-- one unit more
pub field_next : (at b : ℕ) (text rest : List ℕ) → unit_byte text ≡ Some b → text ≡ spelled b ++ rest
    → field_of at text ≡ after (b ∷ []) (field_of (at + length (spelled b)) rest)
unfolding units_of
field_next at b text rest is e =
    let s = spelled_some b in
    let c = s.0 in
    let cs = s.1 in
    let whole : text ≡ c ∷ (cs ++ rest) = e ∙ ap (λ l. l ++ rest) s.2 in
    let long : length (spelled b) ≡ suc (length cs) = ap length s.2 in
    ap (units_of 0 at) whole
    ∙ ap (λ o. option_map_or (λ x. after (x ∷ []) (units_of (length (spelled x) - 1) (at + 1) (cs ++ rest))) o (Err (BadEscape at))) (sym (ap unit_byte whole) ∙ is)
    ∙ ap (λ n. after (b ∷ []) (units_of n (at + 1) (cs ++ rest))) (let same : length (spelled b) - 1 ≡ length cs = omega arith in same)
    ∙ ap (after (b ∷ [])) (skipped cs rest (at + 1) ∙ ap (λ n. units_of 0 n rest) (let same : at + 1 + length cs ≡ at + length (spelled b) = omega arith in same))

pub field_none : (at : ℕ) → field_of at [] ≡ Ok []
unfolding units_of
field_none at = refl

pub field_stops : (at : ℕ) (text : List ℕ) → unit_byte text ≡ None → 0 < length text → field_of at text ≡ Err (BadEscape at)
unfolding units_of
field_stops at [] none some = absurd (omega arith)
field_stops at (c ∷ text) none some =
    ap (λ o. option_map_or (λ x. after (x ∷ []) (units_of (length (spelled x) - 1) (at + 1) text)) o (Err (BadEscape at))) none

pub after_twice : (xs ys : List ℕ) (r : Result (List ℕ) NameFault) → after xs (after ys r) ≡ after (xs ++ ys) r
after_twice xs ys (Ok zs) = ap Ok (sym (append_assoc xs ys zs))
after_twice xs ys (Err f) = refl

pub after_none : (r : Result (List ℕ) NameFault) → after [] r ≡ r
after_none (Ok zs) = refl
after_none (Err f) = refl

pub record Follows (xs : List ℕ) (r : Result (List ℕ) NameFault) (zs : List ℕ) : Type 0 where
  pub ys : List ℕ
  pub read : r ≡ Ok ys
  pub whole : zs ≡ xs ++ ys

pub after_gives : (xs : List ℕ) (r : Result (List ℕ) NameFault) (zs : List ℕ) → after xs r ≡ Ok zs → Follows xs r zs
after_gives xs (Ok ys) zs e = record { ys = ys; read = refl; whole = cc }
after_gives xs (Err f) zs e = cc

-- what is spelled is read
pub field_reads : (at : ℕ) (bytes : List ℕ) → IsSmall bytes → field_of at (field_text bytes) ≡ Ok bytes
field_reads at [] all = field_none at
field_reads at (b ∷ bytes) all =
    let small = All-head (λ x. x < 256) b bytes all in
    field_next at b (spelled b ++ field_text bytes) (field_text bytes) (unit_byte_is b (field_text bytes) small) refl
    ∙ ap (after (b ∷ [])) (field_reads (at + length (spelled b)) bytes (All-tail (λ x. x < 256) b bytes all))

-- what is read was spelled
drop_spelled : (b c : ℕ) (cs text : List ℕ) → spelled b ≡ c ∷ cs → (n : ℕ) → length (spelled b) ≡ suc n → drop (length (spelled b)) (c ∷ text) ≡ drop n text
drop_spelled b c cs text e n long = ap (λ k. drop k (c ∷ text)) long

units_gives : (left at : ℕ) (text bytes : List ℕ) → units_of left at text ≡ Ok bytes → (field_text bytes ≡ drop left text) × IsSmall bytes
unfolding units_of
units_gives zero at [] bytes e = subst (λ bs. (field_text bs ≡ []) × IsSmall bs) (let same : [] ≡ bytes = cc in same) (refl, All-nil (λ x. x < 256))
units_gives (suc left) at [] bytes e = subst (λ bs. (field_text bs ≡ []) × IsSmall bs) (let same : [] ≡ bytes = cc in same) (refl, All-nil (λ x. x < 256))
units_gives (suc left) at (c ∷ text) bytes e = units_gives left (at + 1) text bytes e
units_gives zero at (c ∷ text) bytes e = by (unit_byte (c ∷ text)) refl e (λ n ys. units_gives n (at + 1) text ys)
  where
    by : (o : Option ℕ) → unit_byte (c ∷ text) ≡ o
        → option_map_or (λ b. after (b ∷ []) (units_of (length (spelled b) - 1) (at + 1) text)) o (Err (BadEscape at)) ≡ Ok bytes
        → ((n : ℕ) (ys : List ℕ) → units_of n (at + 1) text ≡ Ok ys → (field_text ys ≡ drop n text) × IsSmall ys)
        → (field_text bytes ≡ c ∷ text) × IsSmall bytes
    by None is f rec = cc
    by (Some b) is f rec =
        let u = unit_byte_gives (c ∷ text) b is in
        let r = after_gives (b ∷ []) (units_of (length (spelled b) - 1) (at + 1) text) bytes f in
        let more = rec (length (spelled b) - 1) r.ys r.read in
        let s = spelled_some b in
        let long : length (spelled b) ≡ suc (length (spelled b) - 1) = (let n : length (spelled b) ≡ suc (length s.1) = ap length s.2 in omega arith) in
        let rest : drop (length (spelled b)) (c ∷ text) ≡ drop (length (spelled b) - 1) text = ap (λ k. drop k (c ∷ text)) long in
        let whole : field_text (b ∷ r.ys) ≡ c ∷ text = ap (λ l. spelled b ++ l) (more.0 ∙ sym rest) ∙ sym u.1 in
        subst (λ bs. (field_text bs ≡ c ∷ text) × IsSmall bs) (sym r.whole) (whole, All-cons (λ x. x < 256) b r.ys u.0 more.1)

pub field_gives : (at : ℕ) (text bytes : List ℕ) → field_of at text ≡ Ok bytes → (field_text bytes ≡ text) × IsSmall bytes
field_gives at text bytes e = units_gives 0 at text bytes e

-- the place says only where a fault stands
pub field_moved : (at place : ℕ) (text bytes : List ℕ) → field_of at text ≡ Ok bytes → field_of place text ≡ Ok bytes
field_moved at place text bytes e =
    let g = field_gives at text bytes e in
    ap (field_of place) (sym g.0) ∙ field_reads place bytes g.1

-- Names.

-- a list that doesn't begin so
pub begins_other : (text front : List ℕ) → ((rest : List ℕ) → text ≢ front ++ rest) → begins text front ≡ false
begins_other text front other = false_from_ne_true _ (λ e. other (drop (length front) text) (begins_is text front e))

-- what the first byte of a field's text tells
pub first_likely : (bytes text : List ℕ) (b : ℕ) (bs : List ℕ) → bytes ≡ b ∷ bs → b < 256 → field_text bytes ≡ text → likely_byte text ≡ Some b
first_likely bytes text b bs e small f =
    ap likely_byte (sym f ∙ ap field_text e) ∙ likely_spelled b (field_text bs) small

no_unlikely : (bytes text : List ℕ) → IsSmall bytes → field_text bytes ≡ text → likely_byte text ≡ None → bytes ≡ []
no_unlikely [] text small f none = refl
no_unlikely (b ∷ bs) text small f none =
    let likely = first_likely (b ∷ bs) text b bs refl (All-head (λ x. x < 256) b bs small) f in
    absurd cc

-- no bytes are spelled by such a text
no_letter : (bytes rest : List ℕ) (w : ℕ) → IsSmall bytes → likely_byte (92 ∷ w ∷ rest) ≡ None → field_text bytes ≢ 92 ∷ w ∷ rest
no_letter bytes rest w small none f =
    let empty = no_unlikely bytes (92 ∷ w ∷ rest) small f none in
    let clash : ◌≡◌ {A = List ℕ} [] (92 ∷ w ∷ rest) = ap field_text (sym empty) ∙ f in
    absurd cc

-- a byte that is spelled in this way stands first
record Peeled (w : ℕ) (bytes rest : List ℕ) : Type 0 where
  tail : List ℕ
  whole : bytes ≡ w ∷ tail
  follows : field_text tail ≡ rest
  small : IsSmall tail

peeled : (w : ℕ) (front bytes rest : List ℕ) → IsSmall bytes → spelled w ≡ front → likely_byte (front ++ rest) ≡ Some w → field_text bytes ≡ front ++ rest
    → ((xs : List ℕ) → front ++ xs ≡ front ++ rest → xs ≡ rest) → 0 < length front → Peeled w bytes rest
peeled w front [] rest small is likely f same some =
    absurd (let none : 0 ≡ length (front ++ rest) = ap length f in omega (arith, length-append front rest))
peeled w front (b ∷ bs) rest small is likely f same some =
    let own = first_likely (b ∷ bs) (front ++ rest) b bs refl (All-head (λ x. x < 256) b bs small) f in
    let e : b ≡ w = cc in
    record {
      tail = bs;
      whole = ap (λ x. x ∷ bs) e;
      follows = same (field_text bs) (ap (λ l. l ++ field_text bs) (sym is) ∙ ap (λ x. spelled x ++ field_text bs) (sym e) ∙ f);
      small = All-tail (λ x. x < 256) b bs small;
    }

plain_first : (w : ℕ) (bytes rest : List ℕ) → IsSmall bytes → spelled w ≡ w ∷ [] → likely_byte (w ∷ rest) ≡ Some w → field_text bytes ≡ w ∷ rest → Peeled w bytes rest
plain_first w bytes rest small is likely f = peeled w (w ∷ []) bytes rest small is likely f (λ xs e. ap (drop 1) e) (omega arith)

-- `DIR\u` spells `DIR_`
dir_spelled : (bytes rest : List ℕ) → IsSmall bytes → field_text bytes ≡ 68 ∷ 73 ∷ 82 ∷ 92 ∷ 117 ∷ rest → (tail : List ℕ) × (bytes ≡ 68 ∷ 73 ∷ 82 ∷ 95 ∷ tail)
dir_spelled bytes rest small f =
    let d = plain_first 68 bytes (73 ∷ 82 ∷ 92 ∷ 117 ∷ rest) small refl refl f in
    let i = plain_first 73 d.tail (82 ∷ 92 ∷ 117 ∷ rest) d.small refl refl d.follows in
    let r = plain_first 82 i.tail (92 ∷ 117 ∷ rest) i.small refl refl i.follows in
    let u = peeled 95 (92 ∷ 117 ∷ []) r.tail rest r.small refl refl r.follows (λ xs e. ap (drop 2) e) (omega arith) in
    (u.tail, d.whole ∙ ap (λ l. 68 ∷ l) (i.whole ∙ ap (λ l. 73 ∷ l) (r.whole ∙ ap (λ l. 82 ∷ l) u.whole)))

-- a name that begins by neither `DIR_` nor `.` is spelled as a field, and read as one
pub other_name : (bytes : List ℕ) → IsSmall bytes → begins bytes (codes "DIR_") ≡ false → begins bytes (codes ".") ≡ false
    → name_of (field_text bytes) ≡ field_of 0 (field_text bytes)
other_name bytes small dir dot =
    cond-false _ _ _ (begins_other text (92 ∷ 100 ∷ []) (λ rest f. no_letter bytes rest 100 small refl f))
    ∙ cond-false _ _ _ (begins_other text (92 ∷ 46 ∷ []) (λ rest f. no_letter bytes rest 46 small refl f))
    ∙ cond-false _ _ _ (or_false _ _
    (begins_other text (codes ".") (λ rest f.
    let p = plain_first 46 bytes rest small refl refl f in
    both_ways _ dot (ap (λ l. begins l (codes ".")) p.whole ∙ begins_from (codes ".") p.tail)))
    (begins_other text (codes "DIR" ++ 92 ∷ 117 ∷ []) (λ rest f.
    let p = dir_spelled bytes rest small f in
    both_ways _ dir (ap (λ l. begins l (codes "DIR_")) p.1 ∙ begins_from (codes "DIR_") p.0))))
  where
    text : List ℕ
    text = field_text bytes

    or_false : (a b : Bool) → a ≡ false → b ≡ false → (a || b) ≡ false
    or_false a b e f = ap (λ x. x || b) e ∙ f

pub name_reads : (bytes : List ℕ) → IsSmall bytes → name_of (name_text bytes) ≡ Ok bytes
name_reads bytes small = by (begins bytes (codes "DIR_")) refl (begins bytes (codes ".")) refl
  where
    by : (d : Bool) → begins bytes (codes "DIR_") ≡ d → (p : Bool) → begins bytes (codes ".") ≡ p
        → name_of (cond d (92 ∷ 100 ∷ field_text (drop 4 bytes)) (cond p (92 ∷ 46 ∷ field_text (drop 1 bytes)) (field_text bytes))) ≡ Ok bytes
    by true dir p dot =
        ap (after (codes "DIR_")) (field_reads 2 (drop 4 bytes) (All-drop (λ b. b < 256) 4 bytes small)) ∙ ap Ok (sym (begins_is bytes (codes "DIR_") dir))
    by false dir true dot =
        ap (after (codes ".")) (field_reads 2 (drop 1 bytes) (All-drop (λ b. b < 256) 1 bytes small)) ∙ ap Ok (sym (begins_is bytes (codes ".") dot))
    by false dir false dot = other_name bytes small dir dot ∙ field_reads 0 bytes small

abbrev Spelled : List ℕ → List ℕ → Type 0
Spelled text bytes = (name_text bytes ≡ text) × IsSmall bytes

pub name_gives : (text bytes : List ℕ) → name_of text ≡ Ok bytes → (name_text bytes ≡ text) × IsSmall bytes
name_gives text bytes e =
    by (begins text (92 ∷ 100 ∷ [])) refl (begins text (92 ∷ 46 ∷ [])) refl (begins text (codes ".")) refl (begins text (codes "DIR" ++ 92 ∷ 117 ∷ [])) refl e
  where
    small_front : (front ys : List ℕ) → IsSmall front → IsSmall ys → IsSmall (front ++ ys)
    small_front front ys p q = All-append (λ b. b < 256) front ys p q

    dir_small : IsSmall (codes "DIR_")
    dir_small = small_from_list (codes "DIR_") refl

    dot_small : IsSmall (codes ".")
    dot_small = small_from_list (codes ".") refl

    other : field_of 0 text ≡ Ok bytes → begins text (codes ".") ≡ false → begins text (codes "DIR" ++ 92 ∷ 117 ∷ []) ≡ false → Spelled text bytes
    other f dot dir =
        let g = field_gives 0 text bytes f in
        let no_dir : begins bytes (codes "DIR_") ≡ false = begins_other bytes (codes "DIR_") (λ rest h.
        both_ways _ dir (ap (λ l. begins l (codes "DIR" ++ 92 ∷ 117 ∷ [])) (sym g.0 ∙ ap field_text h) ∙ begins_from (codes "DIR" ++ 92 ∷ 117 ∷ []) (field_text rest))) in
        let no_dot : begins bytes (codes ".") ≡ false = begins_other bytes (codes ".") (λ rest h.
        both_ways _ dot (ap (λ l. begins l (codes ".")) (sym g.0 ∙ ap field_text h) ∙ begins_from (codes ".") (field_text rest))) in
        (cond-false _ _ _ no_dir ∙ cond-false _ _ _ no_dot ∙ g.0, g.1)

    by : (d : Bool) → begins text (92 ∷ 100 ∷ []) ≡ d → (p : Bool) → begins text (92 ∷ 46 ∷ []) ≡ p → (q : Bool) → begins text (codes ".") ≡ q
        → (r : Bool) → begins text (codes "DIR" ++ 92 ∷ 117 ∷ []) ≡ r
        → cond d (after (codes "DIR_") (field_of 2 (drop 2 text))) (cond p (after (codes ".") (field_of 2 (drop 2 text))) (cond (q || r) (Err (BadEscape 0)) (field_of 0 text))) ≡ Ok bytes
        → Spelled text bytes
    by true d p p_is q q_is r r_is f =
        let a = after_gives (codes "DIR_") (field_of 2 (drop 2 text)) bytes f in
        let g = field_gives 2 (drop 2 text) a.ys a.read in
        subst (Spelled text) (sym a.whole) (ap (λ l. 92 ∷ 100 ∷ l) g.0 ∙ sym (begins_is text (92 ∷ 100 ∷ []) d), small_front (codes "DIR_") a.ys dir_small g.1)
    by false d true p q q_is r r_is f =
        let a = after_gives (codes ".") (field_of 2 (drop 2 text)) bytes f in
        let g = field_gives 2 (drop 2 text) a.ys a.read in
        subst (Spelled text) (sym a.whole) (ap (λ l. 92 ∷ 46 ∷ l) g.0 ∙ sym (begins_is text (92 ∷ 46 ∷ []) p), small_front (codes ".") a.ys dot_small g.1)
    by false d false p true q_is r r_is f = cc
    by false d false p false q_is true r_is f = cc
    by false d false p false q_is false r_is f = other f q_is r_is

-- how a name that was read begins
pub dir_read : (text bytes : List ℕ) → begins text (92 ∷ 100 ∷ []) ≡ true → name_of text ≡ Ok bytes → Follows (codes "DIR_") (field_of 2 (drop 2 text)) bytes
dir_read text bytes is e = after_gives (codes "DIR_") (field_of 2 (drop 2 text)) bytes (sym (cond-true _ _ _ is) ∙ e)

pub dot_read : (text bytes : List ℕ) → begins text (92 ∷ 100 ∷ []) ≡ false → begins text (92 ∷ 46 ∷ []) ≡ true → name_of text ≡ Ok bytes
    → Follows (codes ".") (field_of 2 (drop 2 text)) bytes
dot_read text bytes no_dir is e = after_gives (codes ".") (field_of 2 (drop 2 text)) bytes (sym (cond-false _ _ _ no_dir ∙ cond-true _ _ _ is) ∙ e)

pub other_read : (text bytes : List ℕ) → begins text (92 ∷ 100 ∷ []) ≡ false → begins text (92 ∷ 46 ∷ []) ≡ false → name_of text ≡ Ok bytes → field_of 0 text ≡ Ok bytes
other_read text bytes no_dir no_dot e = by (begins text (codes ".") || begins text (codes "DIR" ++ 92 ∷ 117 ∷ [])) (sym (cond-false _ _ _ no_dir ∙ cond-false _ _ _ no_dot) ∙ e)
  where
    by : (b : Bool) → cond b (Err (BadEscape 0)) (field_of 0 text) ≡ Ok bytes → field_of 0 text ≡ Ok bytes
    by true f = cc
    by false f = f
