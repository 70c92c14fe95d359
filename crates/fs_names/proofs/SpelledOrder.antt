-- The order of texts, by the first units that differ.
use Rattle.std.proofs.Common.{◌≡◌, ◌≢◌, ◌⊎◌, inl, inr, ℕ, zero, suc, ◌<◌, ◌≤◌, Bool, true, false, cond, codes, List, [], ◌∷◌, ◌++◌, length, get_or, take, drop, slice_get, Some, None, refl, sym, ap, subst, ◌∙◌, arith, append_assoc}
use Rattle.std.proofs.lemmas.Bool.{cases_eq}
use Rattle.std.proofs.lemmas.Bool.Decides.{nat_tests}
use Rattle.std.proofs.lemmas.List.{append-nil}
use Rattle.std.proofs.lemmas.List.Elements.{All-head, All-tail}
use Rattle.std.specs.Fmt.{digit_glyph}
use Rattle.std.specs.Cmp.Lexicographic.{slice_cmp}
use Rattle.std.specs.FinMap.{nat_cmp-IsAntisymmetric, slice_cmp-IsAntisymmetric}
use Rattle.std.specs.List.{AllPass}
use Rattle.std.specs.Option.{option_map_or}
use Rattle.std.specs.Ordering.{nat_cmp, ordering_then}
use Rattle.std.specs.declared.cmp.Ordering.TheVariants.{Equal}
use Rattle.fs_names.specs.Order.{ended_cmp, ends_cmp, unit_at, name_unit}
use Rattle.fs_names.specs.Reading.{OidFits}
use Rattle.fs_names.specs.Text.{spelled, field_text, name_text, snap_text, hash_text, pool_text, hash_digits, oid_text}
use Rattle.fs_names.specs.Likely.{likely_byte}
use Rattle.fs_names.specs.Units.{begins, unit_byte}
use Rattle.fs_names.specs.declared.oid.Oid.{Oid}
use Rattle.fs_names.proofs.Parts.{Lacks, cmp_pieces, differs_first}
use Rattle.fs_names.proofs.ReadLaws.{IsSmall, spelled_some}
use Rattle.fs_names.proofs.Inner.{is_inner, spelled-inner, field_text-inner, name_text-inner, snap_text-inner, hash_text-inner}
use Rattle.fs_names.proofs.UnitLaws.{begins_is, likely_spelled, unit_byte_is}

-- equal fronts don't count
itself : (x : ℕ) → nat_cmp x x ≡ Equal
itself x = grind (arith, nat_tests)

pub same_front : (u r s : List ℕ) → slice_cmp nat_cmp (u ++ r) (u ++ s) ≡ slice_cmp nat_cmp r s
same_front [] r s = refl
same_front (x ∷ u) r s = ap (λ o. ordering_then o (slice_cmp nat_cmp (u ++ r) (u ++ s))) (itself x) ∙ same_front u r s

pub same_list : (u : List ℕ) → slice_cmp nat_cmp u u ≡ Equal
same_list [] = refl
same_list (x ∷ u) = ap (λ o. ordering_then o (slice_cmp nat_cmp u u)) (itself x) ∙ same_list u

-- two lists that differ where both go on
record Splits (u v : List ℕ) : Type 0 where
  front : List ℕ
  x : ℕ
  y : ℕ
  us : List ℕ
  vs : List ℕ
  u_is : u ≡ front ++ x ∷ us
  v_is : v ≡ front ++ y ∷ vs
  other : x ≢ y

turned : {u v : List ℕ} → Splits u v → Splits v u
turned s = record { front = s.front; x = s.y; y = s.x; us = s.vs; vs = s.us; u_is = s.v_is; v_is = s.u_is; other = λ e. s.other (sym e) }

split_order : (u v r s : List ℕ) → Splits u v → slice_cmp nat_cmp (u ++ r) (v ++ s) ≡ slice_cmp nat_cmp u v
split_order u v r s p =
    let left : u ++ r ≡ p.front ++ p.x ∷ (p.us ++ r) = ap (λ l. l ++ r) p.u_is ∙ append_assoc p.front (p.x ∷ p.us) r in
    let right : v ++ s ≡ p.front ++ p.y ∷ (p.vs ++ s) = ap (λ l. l ++ s) p.v_is ∙ append_assoc p.front (p.y ∷ p.vs) s in
    ap (λ l. slice_cmp nat_cmp l (v ++ s)) left ∙ ap (slice_cmp nat_cmp (p.front ++ p.x ∷ (p.us ++ r))) right
    ∙ same_front p.front (p.x ∷ (p.us ++ r)) (p.y ∷ (p.vs ++ s))
    ∙ differs_first p.x p.y (slice_cmp nat_cmp (p.us ++ r) (p.vs ++ s)) (slice_cmp nat_cmp p.us p.vs) p.other
    ∙ sym (same_front p.front (p.x ∷ p.us) (p.y ∷ p.vs))
    ∙ sym (ap (λ l. slice_cmp nat_cmp l v) p.u_is ∙ ap (slice_cmp nat_cmp (p.front ++ p.x ∷ p.us)) p.v_is)

abbrev Continues : List ℕ → List ℕ → Type 0
Continues u v = (r : List ℕ) × (u ≡ v ++ r)

split_or_front : (u v : List ℕ) → Splits u v ⊎ (Continues u v ⊎ Continues v u)
split_or_front [] v = inr (inr (v, refl))
split_or_front (x ∷ u) [] = inr (inl (x ∷ u, refl))
split_or_front (x ∷ u) (y ∷ v) =
    elim (cases_eq x y) [
      | inr other ↦ inl (record { front = []; x = x; y = y; us = u; vs = v; u_is = refl; v_is = refl; other = other })
      | inl same ↦ elim (split_or_front u v) [
        | inl p ↦ inl (record {
          front = x ∷ p.front;
          x = p.x;
          y = p.y;
          us = p.us;
          vs = p.vs;
          u_is = ap (λ l. x ∷ l) p.u_is;
          v_is = ap (λ l. y ∷ l) p.v_is ∙ ap (λ z. z ∷ (p.front ++ p.y ∷ p.vs)) (sym same);
          other = p.other;
        })
        | inr q ↦ elim q [
          | inl c ↦ inr (inl (c.0, ap (λ l. x ∷ l) c.1 ∙ ap (λ z. z ∷ (v ++ c.0)) same))
          | inr c ↦ inr (inr (c.0, ap (λ l. y ∷ l) c.1 ∙ ap (λ z. z ∷ (u ++ c.0)) (sym same)))
        ]
      ]
    ]

-- Units.
units_split : (b c : ℕ) → b < 256 → c < 256 → b ≢ c → Splits (spelled b) (spelled c)
units_split b c small_b small_c other =
    elim (split_or_front (spelled b) (spelled c)) [
      | inl s ↦ s
      | inr q ↦ elim q [
        | inl r ↦ (let both : Some b ≡ Some c = sym (unit_byte_is b [] small_b) ∙ ap unit_byte (append-nil (spelled b) ∙ r.1) ∙ unit_byte_is c r.0 small_c in
            let same : b ≡ c = cc in absurd (other same))
        | inr r ↦ (let both : Some c ≡ Some b = sym (unit_byte_is c [] small_c) ∙ ap unit_byte (append-nil (spelled c) ∙ r.1) ∙ unit_byte_is b r.0 small_b in
            let same : b ≡ c = cc in absurd (other same))
      ]
    ]

inner_other : (b : ℕ) → is_inner b ≡ true → b ≢ 95
inner_other b h = grind (arith, nat_tests)

end_splits : (b : ℕ) → b < 256 → Splits (spelled b) (95 ∷ [])
end_splits b small =
    let s = spelled_some b in
    let inner = subst (AllPass is_inner) s.2 (spelled-inner b small) in
    record {
      front = [];
      x = s.0;
      y = 95;
      us = s.1;
      vs = [];
      u_is = s.2;
      v_is = refl;
      other = inner_other s.0 (All-head (λ x. is_inner x ≡ true) s.0 s.1 inner);
    }

ended : (b : ℕ) (bs : List ℕ) → field_text (b ∷ bs) ++ 95 ∷ [] ≡ spelled b ++ (field_text bs ++ 95 ∷ [])
ended b bs = append_assoc (spelled b) (field_text bs) (95 ∷ [])

-- the first bytes decide
abbrev Found : List ℕ → List ℕ → ℕ → Type 0
Found a b i = slice_get a i ≡ slice_get b i → a ≡ b

first_bytes : (a b : List ℕ) → IsSmall a → IsSmall b → Found a b 0 → ended_cmp (field_text a) (field_text b) ≡ slice_cmp nat_cmp (unit_at a 0) (unit_at b 0)
first_bytes [] [] p q f = refl
first_bytes [] (y ∷ b) p q f =
    ap (slice_cmp nat_cmp (95 ∷ [])) (ended y b) ∙ split_order (95 ∷ []) (spelled y) [] (field_text b ++ 95 ∷ []) (turned (end_splits y (All-head (λ x. x < 256) y b q)))
first_bytes (x ∷ a) [] p q f =
    ap (λ l. slice_cmp nat_cmp l (95 ∷ [])) (ended x a) ∙ split_order (spelled x) (95 ∷ []) (field_text a ++ 95 ∷ []) [] (end_splits x (All-head (λ x. x < 256) x a p))
first_bytes (x ∷ a) (y ∷ b) p q f =
    elim (cases_eq x y) [
      | inl same ↦ (let whole : x ∷ a ≡ y ∷ b = f (ap Some same) in
          ap (λ l. slice_cmp nat_cmp (field_text l ++ 95 ∷ []) (field_text (y ∷ b) ++ 95 ∷ [])) whole ∙ same_list (field_text (y ∷ b) ++ 95 ∷ [])
          ∙ sym (ap (λ l. slice_cmp nat_cmp (unit_at l 0) (unit_at (y ∷ b) 0)) whole ∙ same_list (unit_at (y ∷ b) 0)))
      | inr other ↦ ap (λ l. slice_cmp nat_cmp l (field_text (y ∷ b) ++ 95 ∷ [])) (ended x a) ∙ ap (slice_cmp nat_cmp (spelled x ++ (field_text a ++ 95 ∷ []))) (ended y b)
          ∙ split_order (spelled x) (spelled y) (field_text a ++ 95 ∷ []) (field_text b ++ 95 ∷ [])
          (units_split x y (All-head (λ x. x < 256) x a p) (All-head (λ x. x < 256) y b q) other)
    ]

pub fields_order : (i : ℕ) (a b : List ℕ) → IsSmall a → IsSmall b → take i a ≡ take i b → i ≤ length a → i ≤ length b → (slice_get a i ≡ slice_get b i → a ≡ b)
    → ended_cmp (field_text a) (field_text b) ≡ slice_cmp nat_cmp (unit_at a i) (unit_at b i)
fields_order zero a b p q same la lb f = first_bytes a b p q f
fields_order (suc i) [] b p q same la lb f = absurd (omega arith)
fields_order (suc i) (x ∷ a) [] p q same la lb f = absurd (omega arith)
fields_order (suc i) (x ∷ a) (y ∷ b) p q same la lb f =
    let head : x ≡ y = ap (λ l. get_or l 0 0) same in
    let rest : take i a ≡ take i b = ap (drop 1) same in
    let more : Found a b i = λ e. ap (drop 1) (f e) in
    ap (λ l. slice_cmp nat_cmp l (field_text (y ∷ b) ++ 95 ∷ [])) (ended x a) ∙ ap (slice_cmp nat_cmp (spelled x ++ (field_text a ++ 95 ∷ []))) (ended y b)
    ∙ ap (λ z. slice_cmp nat_cmp (spelled z ++ (field_text a ++ 95 ∷ [])) (spelled y ++ (field_text b ++ 95 ∷ []))) head
    ∙ same_front (spelled y) (field_text a ++ 95 ∷ []) (field_text b ++ 95 ∷ [])
    ∙ fields_order i a b (All-tail (λ x. x < 256) x a p) (All-tail (λ x. x < 256) y b q) rest (omega arith) (omega arith) more

-- Names. A name's text, ended, begins by its first unit.
letter_splits : (w b : ℕ) → likely_byte (92 ∷ w ∷ []) ≡ None → ((r : List ℕ) → likely_byte (92 ∷ w ∷ r) ≡ None) → b < 256 → Splits (92 ∷ w ∷ []) (spelled b)
letter_splits w b none nones small =
    elim (split_or_front (92 ∷ w ∷ []) (spelled b)) [
      | inl s ↦ s
      | inr q ↦ elim q [
        | inl r ↦ (let clash : None ≡ Some b = sym none ∙ ap likely_byte r.1 ∙ likely_spelled b r.0 small in absurd cc)
        | inr r ↦ (let clash : Some b ≡ None = sym (likely_spelled b [] small) ∙ ap likely_byte (append-nil (spelled b) ∙ r.1) ∙ nones r.0 in absurd cc)
      ]
    ]

letter_end : (w : ℕ) → Splits (92 ∷ w ∷ []) (95 ∷ [])
letter_end w = record { front = []; x = 92; y = 95; us = w ∷ []; vs = []; u_is = refl; v_is = refl; other = λ e. omega arith }

letters_split : (v w : ℕ) → v ≢ w → Splits (92 ∷ v ∷ []) (92 ∷ w ∷ [])
letters_split v w other = record { front = 92 ∷ []; x = v; y = w; us = []; vs = []; u_is = refl; v_is = refl; other = other }

letter_first : (w : ℕ) (a : List ℕ) → IsSmall a → likely_byte (92 ∷ w ∷ []) ≡ None → ((r : List ℕ) → likely_byte (92 ∷ w ∷ r) ≡ None) → Splits (92 ∷ w ∷ []) (unit_at a 0)
letter_first w [] small none nones = letter_end w
letter_first w (b ∷ bs) small none nones = letter_splits w b none nones (All-head (λ x. x < 256) b bs small)

field_rest : (a : List ℕ) → Continues (field_text a ++ 95 ∷ []) (unit_at a 0)
field_rest [] = ([], refl)
field_rest (b ∷ bs) = (field_text bs ++ 95 ∷ [], ended b bs)

decided : (s t u v : List ℕ) → Continues s u → Continues t v → Splits u v → slice_cmp nat_cmp s t ≡ slice_cmp nat_cmp u v
decided s t u v c d p = ap (λ l. slice_cmp nat_cmp l t) c.1 ∙ ap (slice_cmp nat_cmp (u ++ c.0)) d.1 ∙ split_order u v c.0 d.0 p

-- how two names compare by their first units
pub record NamesOrder (s t u v : List ℕ) (a b : List ℕ) : Type 0 where
  pub other : slice_cmp nat_cmp u v ≢ Equal → slice_cmp nat_cmp s t ≡ slice_cmp nat_cmp u v
  pub same : slice_cmp nat_cmp u v ≡ Equal → slice_cmp nat_cmp s t ≡ ended_cmp (field_text a) (field_text b)

by_split : (s t u v a b : List ℕ) → Continues s u → Continues t v → Splits u v → NamesOrder s t u v a b
by_split s t u v a b c d p =
    record {
      other = λ _. decided s t u v c d p;
      same = λ e.
          let units : u ≡ v = slice_cmp-IsAntisymmetric nat_cmp-IsAntisymmetric u v e in
          let first : p.x ∷ p.us ≡ p.y ∷ p.vs = cut p.front (p.x ∷ p.us) (p.y ∷ p.vs) (sym p.u_is ∙ units ∙ p.v_is) in
          absurd (p.other (ap (λ l. get_or l 0 0) first));
    }
  where
    cut : (f x y : List ℕ) → f ++ x ≡ f ++ y → x ≡ y
    cut [] x y e = e
    cut (z ∷ f) x y e = cut f x y (ap (drop 1) e)

by_front : (u a b s t x y : List ℕ) → s ≡ u ++ x → t ≡ u ++ y → ended_cmp (field_text a) (field_text b) ≡ slice_cmp nat_cmp x y → NamesOrder s t u u a b
by_front u a b s t x y p q e =
    record {
      other = λ differ. absurd (differ (same_list u));
      same = λ _. ap (λ l. slice_cmp nat_cmp l t) p ∙ ap (slice_cmp nat_cmp (u ++ x)) q ∙ same_front u x y ∙ sym e;
    }

front_off : (front a b x y : List ℕ) → a ≡ front ++ x → b ≡ front ++ y → ((l : List ℕ) → field_text (front ++ l) ≡ field_text front ++ field_text l)
    → ended_cmp (field_text a) (field_text b) ≡ ended_cmp (field_text x) (field_text y)
front_off front a b x y p q join =
    ap (λ l. ended_cmp (field_text l) (field_text b)) p ∙ ap (λ l. ended_cmp (field_text (front ++ x)) (field_text l)) q
    ∙ ap (λ l. slice_cmp nat_cmp (l ++ 95 ∷ []) (field_text (front ++ y) ++ 95 ∷ [])) (join x) ∙ ap (λ l. slice_cmp nat_cmp ((field_text front ++ field_text x) ++ 95 ∷ []) (l ++ 95 ∷ [])) (join y)
    ∙ ap (λ l. slice_cmp nat_cmp l ((field_text front ++ field_text y) ++ 95 ∷ [])) (append_assoc (field_text front) (field_text x) (95 ∷ []))
    ∙ ap (slice_cmp nat_cmp (field_text front ++ (field_text x ++ 95 ∷ []))) (append_assoc (field_text front) (field_text y) (95 ∷ []))
    ∙ same_front (field_text front) (field_text x ++ 95 ∷ []) (field_text y ++ 95 ∷ [])

first_units : (a b : List ℕ) → IsSmall a → IsSmall b → slice_cmp nat_cmp (unit_at a 0) (unit_at b 0) ≢ Equal
    → ended_cmp (field_text a) (field_text b) ≡ slice_cmp nat_cmp (unit_at a 0) (unit_at b 0)
first_units a b p q differ =
    first_bytes a b p q (λ e. absurd (differ (ap (λ o. slice_cmp nat_cmp (option_map_or spelled o (95 ∷ [])) (unit_at b 0)) e ∙ same_list (unit_at b 0))))

plain : (a b : List ℕ) → IsSmall a → IsSmall b → NamesOrder (field_text a ++ 95 ∷ []) (field_text b ++ 95 ∷ []) (unit_at a 0) (unit_at b 0) a b
plain a b p q = record { other = λ differ. first_units a b p q differ; same = λ _. refl }

pub names_order : (a b : List ℕ) → IsSmall a → IsSmall b → NamesOrder (name_text a ++ 95 ∷ []) (name_text b ++ 95 ∷ []) (name_unit a) (name_unit b) a b
names_order a b p q =
    by (begins a (codes "DIR_")) refl (begins a (codes ".")) refl (begins b (codes "DIR_")) refl (begins b (codes ".")) refl
  where
    by : (d : Bool) → begins a (codes "DIR_") ≡ d → (p : Bool) → begins a (codes ".") ≡ p → (e : Bool) → begins b (codes "DIR_") ≡ e → (r : Bool) → begins b (codes ".") ≡ r
        → NamesOrder (cond d (92 ∷ 100 ∷ field_text (drop 4 a)) (cond p (92 ∷ 46 ∷ field_text (drop 1 a)) (field_text a)) ++ 95 ∷ [])
        (cond e (92 ∷ 100 ∷ field_text (drop 4 b)) (cond r (92 ∷ 46 ∷ field_text (drop 1 b)) (field_text b)) ++ 95 ∷ [])
        (cond d (92 ∷ 100 ∷ []) (cond p (92 ∷ 46 ∷ []) (unit_at a 0))) (cond e (92 ∷ 100 ∷ []) (cond r (92 ∷ 46 ∷ []) (unit_at b 0))) a b
    by true d _ _ true e _ _ =
        by_front (92 ∷ 100 ∷ []) a b _ _ (field_text (drop 4 a) ++ 95 ∷ []) (field_text (drop 4 b) ++ 95 ∷ []) refl refl
        (front_off (codes "DIR_") a b (drop 4 a) (drop 4 b) (begins_is a (codes "DIR_") d) (begins_is b (codes "DIR_") e) (λ l. refl))
    by true d _ _ false e true r =
        by_split _ _ (92 ∷ 100 ∷ []) (92 ∷ 46 ∷ []) a b (field_text (drop 4 a) ++ 95 ∷ [], refl) (field_text (drop 1 b) ++ 95 ∷ [], refl) (letters_split 100 46 (λ e. omega arith))
    by true d _ _ false e false r =
        by_split _ _ (92 ∷ 100 ∷ []) (unit_at b 0) a b (field_text (drop 4 a) ++ 95 ∷ [], refl) (field_rest b) (letter_first 100 b q refl (λ l. refl))
    by false d true p true e _ _ =
        by_split _ _ (92 ∷ 46 ∷ []) (92 ∷ 100 ∷ []) a b (field_text (drop 1 a) ++ 95 ∷ [], refl) (field_text (drop 4 b) ++ 95 ∷ [], refl) (letters_split 46 100 (λ e. omega arith))
    by false d true p false e true r =
        by_front (92 ∷ 46 ∷ []) a b _ _ (field_text (drop 1 a) ++ 95 ∷ []) (field_text (drop 1 b) ++ 95 ∷ []) refl refl
        (front_off (codes ".") a b (drop 1 a) (drop 1 b) (begins_is a (codes ".") p) (begins_is b (codes ".") r) (λ l. refl))
    by false d true p false e false r =
        by_split _ _ (92 ∷ 46 ∷ []) (unit_at b 0) a b (field_text (drop 1 a) ++ 95 ∷ [], refl) (field_rest b) (letter_first 46 b q refl (λ l. refl))
    by false d false s true e _ _ =
        by_split _ _ (unit_at a 0) (92 ∷ 100 ∷ []) a b (field_rest a) (field_text (drop 4 b) ++ 95 ∷ [], refl) (turned (letter_first 100 a p refl (λ l. refl)))
    by false d false s false e true r =
        by_split _ _ (unit_at a 0) (92 ∷ 46 ∷ []) a b (field_rest a) (field_text (drop 1 b) ++ 95 ∷ [], refl) (turned (letter_first 46 a p refl (λ l. refl)))
    by false d false s false e false r = plain a b p q

-- Whole texts.
lacks : (bytes : List ℕ) → AllPass is_inner bytes → Lacks 95 bytes
lacks [] all = tt
lacks (b ∷ bs) all = (inner_other b (All-head (λ x. is_inner x ≡ true) b bs all), lacks bs (All-tail (λ x. is_inner x ≡ true) b bs all))

-- a hash's text is made of its digits
from_digits : List ℕ → List ℕ
from_digits l =
    digit_glyph true (get_or l 7 0) ∷ digit_glyph true (get_or l 6 0) ∷ digit_glyph true (get_or l 5 0) ∷ digit_glyph true (get_or l 4 0)
    ∷ digit_glyph true (get_or l 3 0) ∷ digit_glyph true (get_or l 2 0) ∷ digit_glyph true (get_or l 1 0) ∷ digit_glyph true (get_or l 0 0) ∷ []

hash_text-digits : (h : ℕ) → hash_text h ≡ from_digits (hash_digits h)
unfolding from_digits
hash_text-digits h = refl

pub same_hash_text : (a b : ℕ) → slice_cmp nat_cmp (hash_digits a) (hash_digits b) ≡ Equal → hash_text a ≡ hash_text b
same_hash_text a b e =
    hash_text-digits a ∙ ap from_digits (slice_cmp-IsAntisymmetric nat_cmp-IsAntisymmetric (hash_digits a) (hash_digits b) e) ∙ sym (hash_text-digits b)

nested_text : (a b c d e f : List ℕ) → a ++ 95 ∷ b ++ 95 ∷ c ++ 95 ∷ d ++ 95 ∷ e ++ 95 ∷ f ≡ a ++ (95 ∷ (b ++ (95 ∷ (c ++ (95 ∷ (d ++ (95 ∷ (e ++ (95 ∷ f)))))))))
nested_text a b c d e f = right a (95 ∷ b) (95 ∷ c) (95 ∷ d) (95 ∷ e) (95 ∷ f)
  where
    right : (a b c d e f : List ℕ) → a ++ b ++ c ++ d ++ e ++ f ≡ a ++ (b ++ (c ++ (d ++ (e ++ f))))
    right a b c d e f = simp append_assoc

pub oid_text-nested : (o : Oid)
    → oid_text o ≡ name_text o.name ++ (95 ∷ (field_text o.key ++ (95 ∷ (snap_text o.snap ++ (95 ∷ (hash_text o.hash ++ (95 ∷ (field_text o.nspace ++ (95 ∷ pool_text o.pool)))))))))
unfolding oid_text
oid_text-nested o = nested_text (name_text o.name) (field_text o.key) (snap_text o.snap) (hash_text o.hash) (field_text o.nspace) (pool_text o.pool)

module _ (a b : Oid) (f : OidFits a) (g : OidFits b) where
  pieces : (s t r q : List ℕ) → AllPass is_inner s → AllPass is_inner t → slice_cmp nat_cmp (s ++ (95 ∷ r)) (t ++ (95 ∷ q)) ≡ ordering_then (ended_cmp s t) (slice_cmp nat_cmp r q)
  pieces s t r q p i = cmp_pieces 95 s t r q (lacks s p) (lacks t i)

  -- objects with one hash
  pub texts_order : slice_cmp nat_cmp (hash_digits a.hash) (hash_digits b.hash) ≡ Equal
      → slice_cmp nat_cmp (oid_text a) (oid_text b) ≡ ordering_then (ended_cmp (name_text a.name) (name_text b.name)) (ordering_then (ended_cmp (field_text a.key) (field_text b.key)) (ends_cmp a b))
  texts_order e =
      let pool = λ (o : Oid). pool_text o.pool in
      let nspace = λ (o : Oid). field_text o.nspace ++ (95 ∷ pool o) in
      let hash = λ (o : Oid). hash_text o.hash ++ (95 ∷ nspace o) in
      let snap = λ (o : Oid). snap_text o.snap ++ (95 ∷ hash o) in
      let key = λ (o : Oid). field_text o.key ++ (95 ∷ snap o) in
      let name = λ (o : Oid). name_text o.name ++ (95 ∷ key o) in
      let ends = slice_cmp nat_cmp (nspace a) (nspace b) in
      ap (λ l. slice_cmp nat_cmp l (oid_text b)) (oid_text-nested a) ∙ ap (slice_cmp nat_cmp (name a)) (oid_text-nested b)
      ∙ pieces (name_text a.name) (name_text b.name) (key a) (key b) (name_text-inner a.name f.name.small) (name_text-inner b.name g.name.small)
      ∙ ap (ordering_then (ended_cmp (name_text a.name) (name_text b.name)))
      (pieces (field_text a.key) (field_text b.key) (snap a) (snap b) (field_text-inner a.key f.key.small) (field_text-inner b.key g.key.small)
      ∙ ap (ordering_then (ended_cmp (field_text a.key) (field_text b.key)))
      (pieces (snap_text a.snap) (snap_text b.snap) (hash a) (hash b) (snap_text-inner a.snap) (snap_text-inner b.snap)
      ∙ ap (ordering_then (ended_cmp (snap_text a.snap) (snap_text b.snap)))
      (pieces (hash_text a.hash) (hash_text b.hash) (nspace a) (nspace b) (hash_text-inner a.hash) (hash_text-inner b.hash)
      ∙ ap (λ l. ordering_then (ended_cmp l (hash_text b.hash)) ends) (same_hash_text a.hash b.hash e)
      ∙ ap (λ o. ordering_then o ends) (same_list (hash_text b.hash ++ 95 ∷ []))
      ∙ pieces (field_text a.nspace) (field_text b.nspace) (pool a) (pool b) (field_text-inner a.nspace f.nspace.small) (field_text-inner b.nspace g.nspace.small))))
