-- Bytes that are written in place.
use Rattle.std.proofs.Common.{◌≡◌, ◌+◌, ◌-◌, ◌≤◌, inl, inr, ℕ, List, [], ◌∷◌, ◌++◌, length, take, drop, replicate, arith, refl, sym, ap, ◌∙◌}
use Rattle.std.proofs.lemmas.Grind.{common_steps}
use Rattle.std.proofs.lemmas.Bool.{cases_lt}
use Rattle.std.proofs.lemmas.List.{append-nil, take-append-le, take-replicate, take_all}
use Rattle.std.proofs.Math.Seq.{take-append-add}
use Rattle.fs_model.specs.Rows.{overwrite}

-- the list lengthened by zeros to a place past what is written
abbrev pub lengthened : List ℕ → ℕ → List ℕ
lengthened old end = old ++ replicate (end - length old) 0

gap_none : (old : List ℕ) (at : ℕ) → at ≤ length old → take at old ≡ take at old ++ replicate (at - length old) 0
gap_none old at within =
    let none : at - length old ≡ 0 = omega arith in
    sym (append-nil (take at old)) ∙ ap (λ (n : ℕ). take at old ++ replicate n 0) (sym none)

gap_some : (old : List ℕ) (at n : ℕ) → length old ≤ at → take at (lengthened old (at + n)) ≡ take at old ++ replicate (at - length old) 0
gap_some old at n past =
    let place : at ≡ length old + (at - length old) = omega arith in
    let few : at - length old ≤ at + n - length old = omega arith in
    ap (λ (k : ℕ). take k (lengthened old (at + n))) place
    ∙ take-append-add old (replicate (at + n - length old) 0) (at - length old)
    ∙ ap (λ (r : List ℕ). old ++ r) (take-replicate (at - length old) (at + n - length old) 0 few)
    ∙ ap (λ (l : List ℕ). l ++ replicate (at - length old) 0) (sym (take_all at old past))

front : (old : List ℕ) (at n : ℕ) → take at (lengthened old (at + n)) ≡ take at old ++ replicate (at - length old) 0
front old at n = elim (cases_lt at (length old)) [
  | inl within ↦ take-append-le at old _ (omega arith) ∙ gap_none old at (omega arith)
  | inr past ↦ gap_some old at n past
]

back : (old : List ℕ) (end : ℕ) → drop end (lengthened old end) ≡ drop end old
back old end = grind (arith, common_steps)

-- bytes that are put over those of the lengthened list
pub put_over : (old : List ℕ) (at b : ℕ) (bs : List ℕ) → let len = length (b ∷ bs) in
    take at (lengthened old (at + len)) ++ (b ∷ bs) ++ drop (at + len) (lengthened old (at + len)) ≡ overwrite old at (b ∷ bs)
put_over old at b bs =
    ap (λ (l : List ℕ). l ++ (b ∷ bs) ++ drop (at + length (b ∷ bs)) (lengthened old (at + length (b ∷ bs)))) (front old at (length (b ∷ bs)))
    ∙ ap (λ (r : List ℕ). (take at old ++ replicate (at - length old) 0) ++ (b ∷ bs) ++ r) (back old (at + length (b ∷ bs)))

pub put_bytes : (old : List ℕ) (at : ℕ) (bytes : List ℕ) → (bytes ≡ [] → ⊥)
    → take at (lengthened old (at + length bytes)) ++ bytes ++ drop (at + length bytes) (lengthened old (at + length bytes)) ≡ overwrite old at bytes
put_bytes old at [] some = absurd (some refl)
put_bytes old at (b ∷ bs) some = put_over old at b bs

zeros_length : (len : ℕ) → length {A = ℕ} (replicate len 0) ≡ len
zeros_length len = grind (arith, common_steps)

no_zeros : (len : ℕ) → (len ≡ 0 → ⊥) → replicate {A = ℕ} len 0 ≡ [] → ⊥
no_zeros len some none =
    let e : 0 ≡ len = ap (length {A = ℕ}) (sym none) ∙ zeros_length len in
    some (sym e)

-- zeros that are put over the bytes of the lengthened list
pub put_zeros : (old : List ℕ) (at len : ℕ) → (len ≡ 0 → ⊥)
    → take at (lengthened old (at + len)) ++ replicate len 0 ++ drop (at + len) (lengthened old (at + len)) ≡ overwrite old at (replicate len 0)
put_zeros old at len some =
    ap (λ (n : ℕ). take at (lengthened old (at + n)) ++ replicate len 0 ++ drop (at + n) (lengthened old (at + n))) (sym (zeros_length len))
    ∙ put_bytes old at (replicate len 0) (no_zeros len some)

pub put_none : (old : List ℕ) (at len : ℕ) → len ≡ 0 → old ≡ overwrite old at (replicate len 0)
put_none old at len none = ap (λ (n : ℕ). overwrite old at (replicate n 0)) (sym none)
