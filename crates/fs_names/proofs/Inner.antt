-- The bytes that stand between the bytes `_` of a text.
use Rattle.std.proofs.Common.{◌≡◌, ◌≢◌, inl, inr, ℕ, ◌/◌, ◌%◌, ◌<◌, ◌≤◌, ◌==◌, ◌&&◌, Bool, true, false, not, cond, codes, List, [], ◌∷◌, drop, Option, Some, None, refl, sym, subst, arith}
use Rattle.std.proofs.Math.Nat.{mod-lt, div-lt_iff_lt-mul}
use Rattle.std.proofs.lemmas.Bool.{cases_eq}
use Rattle.std.proofs.lemmas.Bool.Decides.{nat_tests}
use Rattle.std.proofs.lemmas.List.Elements.{All-nil, All-cons, All-head, All-tail, All-weaker, All-append, All-drop}
use Rattle.std.proofs.lemmas.List.Sums.{AllPass-from_list_all}
use Rattle.std.specs.Char.{is_ascii_graphic}
use Rattle.std.specs.Fmt.{digits, digit_glyph}
use Rattle.std.specs.List.{AllPass}
use Rattle.fs_names.specs.declared.oid.Snap.{Snap}
use Rattle.fs_names.specs.declared.oid.Snap.TheVariants.{Head, Dir, Id}
use Rattle.fs_names.specs.Numbers.{is_lower_digit}
use Rattle.fs_names.specs.Text.{spelled, field_text, name_text, snap_text, pool_text, hash_text}
use Rattle.fs_names.specs.Units.{begins}
use Rattle.fs_names.proofs.Digits.{digits-lower, glyph_lower}
use Rattle.fs_names.proofs.Hashes.{hash_text-All}
use Rattle.fs_names.proofs.Plain.{field_itself}
use Rattle.fs_names.proofs.ReadLaws.{IsSmall}
use Rattle.fs_names.proofs.UnitLaws.{spelled-plain, spelled-digits}

-- a byte that stands in a text between the bytes `_`, and prints
abbrev pub is_inner : ℕ → Bool
is_inner b = is_ascii_graphic b && not (b == 95)

lower_inner : (base b : ℕ) → base ≤ 16 → is_lower_digit base b ≡ true → is_inner b ≡ true
lower_inner base b high h = grind (arith, nat_tests)

upper_inner : (d : ℕ) → d < 16 → is_inner (digit_glyph true d) ≡ true
upper_inner d h = grind (arith, nat_tests)

pub digits-inner : (base n : ℕ) → 2 ≤ base → base ≤ 16 → AllPass is_inner (digits base false n)
digits-inner base n low high =
    All-weaker (λ b. is_lower_digit base b ≡ true) (λ b. is_inner b ≡ true) (λ b. lower_inner base b high) _ (digits-lower base n low high)

pub hash_text-inner : (h : ℕ) → AllPass is_inner (hash_text h)
hash_text-inner h = hash_text-All (λ b. is_inner b ≡ true) h upper_inner

pub snap_text-inner : (s : Snap) → AllPass is_inner (snap_text s)
snap_text-inner Head = AllPass-from_list_all is_inner (codes "head") refl
snap_text-inner Dir = AllPass-from_list_all is_inner (codes "snapdir") refl
snap_text-inner (Id n) = digits-inner 16 n (omega arith) (omega arith)

pub pool_text-inner : (p : Option ℕ) → AllPass is_inner (pool_text p)
pool_text-inner None = AllPass-from_list_all is_inner (codes "none") refl
pool_text-inner (Some n) = digits-inner 16 n (omega arith) (omega arith)

-- names, keys and namespaces
graphic_inner : (b : ℕ) → b ≢ 95 → is_ascii_graphic b ≡ true → is_inner b ≡ true
graphic_inner b other h = grind (arith, nat_tests)

glyph_inner : (d : ℕ) → d < 16 → is_inner (digit_glyph false d) ≡ true
glyph_inner d small = lower_inner 16 (digit_glyph false d) (omega arith) (glyph_lower 16 d (omega arith) small)

digits_unit-inner : (b : ℕ) → b < 256 → AllPass is_inner (92 ∷ 120 ∷ digit_glyph false (b / 16) ∷ digit_glyph false (b % 16) ∷ [])
digits_unit-inner b small =
    let P = λ (x : ℕ). is_inner x ≡ true in
    let some : 0 < 16 = omega arith in
    let high : b / 16 < 16 = (div-lt_iff_lt-mul some).1 (omega arith) in
    let h = digit_glyph false (b / 16) in
    let l = digit_glyph false (b % 16) in
    All-cons P 92 (120 ∷ h ∷ l ∷ []) refl (All-cons P 120 (h ∷ l ∷ []) refl (All-cons P h (l ∷ []) (glyph_inner (b / 16) high) (All-cons P l [] (glyph_inner (b % 16) (mod-lt b some)) (All-nil P))))

by_word : (b w : ℕ) → b ≡ w → AllPass is_inner (spelled w) → AllPass is_inner (spelled b)
by_word b w e h = subst (λ x. AllPass is_inner (spelled x)) (sym e) h

pub spelled-inner : (b : ℕ) → b < 256 → AllPass is_inner (spelled b)
spelled-inner b small =
    elim (cases_eq b 92) [
      | inl e ↦ by_word b 92 e (AllPass-from_list_all is_inner (spelled 92) refl)
      | inr p ↦ elim (cases_eq b 47) [
        | inl e ↦ by_word b 47 e (AllPass-from_list_all is_inner (spelled 47) refl)
        | inr q ↦ elim (cases_eq b 95) [
          | inl e ↦ by_word b 95 e (AllPass-from_list_all is_inner (spelled 95) refl)
          | inr r ↦ elim (cases_eq b 0) [
            | inl e ↦ by_word b 0 e (AllPass-from_list_all is_inner (spelled 0) refl)
            | inr s ↦ by (is_ascii_graphic b) refl p q r s
          ]
        ]
      ]
    ]
  where
    by : (g : Bool) → is_ascii_graphic b ≡ g → b ≢ 92 → b ≢ 47 → b ≢ 95 → b ≢ 0 → AllPass is_inner (spelled b)
    by true e p q r s =
        subst (AllPass is_inner) (sym (spelled-plain b p q r e)) (All-cons (λ x. is_inner x ≡ true) b [] (graphic_inner b r e) (All-nil (λ x. is_inner x ≡ true)))
    by false e p q r s = subst (AllPass is_inner) (sym (spelled-digits b p q r s e)) (digits_unit-inner b small)

pub field_text-inner : (bytes : List ℕ) → IsSmall bytes → AllPass is_inner (field_text bytes)
field_text-inner [] all = All-nil (λ x. is_inner x ≡ true)
field_text-inner (b ∷ bs) all =
    All-append (λ x. is_inner x ≡ true) (spelled b) (field_text bs) (spelled-inner b (All-head (λ x. x < 256) b bs all)) (field_text-inner bs (All-tail (λ x. x < 256) b bs all))

pub name_text-inner : (bytes : List ℕ) → IsSmall bytes → AllPass is_inner (name_text bytes)
name_text-inner bytes all = by (begins bytes (codes "DIR_")) (begins bytes (codes "."))
  where
    escaped : (w n : ℕ) → is_inner w ≡ true → AllPass is_inner (92 ∷ w ∷ field_text (drop n bytes))
    escaped w n h =
        let P = λ (x : ℕ). is_inner x ≡ true in
        All-cons P 92 (w ∷ field_text (drop n bytes)) refl (All-cons P w (field_text (drop n bytes)) h (field_text-inner (drop n bytes) (All-drop (λ b. b < 256) n bytes all)))

    by : (d p : Bool) → AllPass is_inner (cond d (92 ∷ 100 ∷ field_text (drop 4 bytes)) (cond p (92 ∷ 46 ∷ field_text (drop 1 bytes)) (field_text bytes)))
    by true p = escaped 100 4 refl
    by false true = escaped 46 1 refl
    by false false = field_text-inner bytes all

-- a snapshot's text holds no byte that an escape would spell
lower_itself : (b : ℕ) → is_lower_digit 16 b ≡ true → spelled b ≡ b ∷ []
lower_itself b h = grind (arith, nat_tests)

pub snap_field : (s : Snap) → field_text (snap_text s) ≡ snap_text s
snap_field Head = refl
snap_field Dir = refl
snap_field (Id n) =
    field_itself (digits 16 false n) (All-weaker (λ b. is_lower_digit 16 b ≡ true) (λ b. spelled b ≡ b ∷ []) lower_itself _ (digits-lower 16 n (omega arith) (omega arith)))
