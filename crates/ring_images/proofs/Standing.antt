-- Entries that stand in a ring: how many bytes and numbers they take, and what of them stands in a ring that begins
-- later.
use Rattle.std.proofs.Common.{◌≡◌, ⊎_elim, ℕ, ◌+◌, ◌%◌, ◌<◌, ◌≤◌, ◌^◌, List, [], ◌∷◌, ◌++◌, length, take, drop, length-drop, refl, sym, ◌∙◌, ap, subst, add-zero, arith}
use Rattle.std.specs.Prelude.{Some, None, true, false}
use Rattle.std.proofs.lemmas.Bool.Decides.{Decides-eqb}
use Rattle.std.proofs.lemmas.Bool.{and_parts, and_from, leb-true, le-leb, ltb-true, lt-ltb, cases_Bool, cond-true, cond-false}
use Rattle.std.proofs.lemmas.List.{drop-drop}
use Rattle.ring_frame.specs.Frame.{Entry, entry, size_of}
use Rattle.ring_frame.proofs.Facts.{entry_same, entry_room, need-room, need-blocks}
use Rattle.ring_images.specs.Readable.{Ring, goes_on, if_goes_on, next, Stand, IsRead, sizes}
use Rattle.ring_images.proofs.Linear.{next_entry, some_on, front_same, back_same}
use Rattle.ring_images.specs.Silent.{SilentAfter}

-- what it takes to go on
pub record Goes (ring : Ring) (seq low : ℕ) (e : Entry) : Type 0 where
  pub number : e.seq ≡ seq
  pub above : low ≤ e.epoch
  pub within : e.epoch ≤ ring.top
  pub small : seq < 2 ^ 63

pub goes_parts : (ring : Ring) (seq low : ℕ) (e : Entry) → goes_on ring seq low e ≡ true → Goes ring seq low e
goes_parts ring seq low e h =
    let a = and_parts _ _ h in
    let b = and_parts _ _ a.1 in
    let c = and_parts _ _ b.1 in
    record { number = (Decides-eqb e.seq seq).0 a.0; above = leb-true _ _ b.0; within = leb-true _ _ c.0; small = ltb-true _ _ c.1 }

pub goes_from : (ring : Ring) (seq low : ℕ) (e : Entry) → Goes ring seq low e → goes_on ring seq low e ≡ true
goes_from ring seq low e g =
    and_from _ _ ((Decides-eqb e.seq seq).1 g.number) (and_from _ _ (le-leb low e.epoch g.above) (and_from _ _ (le-leb e.epoch ring.top g.within) (lt-ltb seq (2 ^ 63) g.small)))

pub next_goes : (ring : Ring) (offset seq low : ℕ) (bytes : List ℕ) (e : Entry) → next ring offset seq low bytes ≡ Some e → Goes ring seq low e
next_goes ring offset seq low bytes e h = goes_parts ring seq low e (some_on ring seq low _ e h)

pub next_from : (ring : Ring) (offset seq low : ℕ) (bytes : List ℕ) (e : Entry) → entry ring.fsid (ring.place offset) bytes ≡ Some e → Goes ring seq low e → next ring offset seq low bytes ≡ Some e
next_from ring offset seq low bytes e h g = ap (if_goes_on ring seq low) h ∙ cond-true _ _ _ (goes_from ring seq low e g)

-- a sealed entry that does not go on ends the reading
pub next_not : (ring : Ring) (offset seq low : ℕ) (bytes : List ℕ) (e : Entry) → entry ring.fsid (ring.place offset) bytes ≡ Some e → (Goes ring seq low e → ⊥) → next ring offset seq low bytes ≡ None
next_not ring offset seq low bytes e h stops =
    ap (if_goes_on ring seq low) h ∙ ⊎_elim (λ (t : goes_on ring seq low e ≡ true). absurd (stops (goes_parts ring seq low e t))) (λ (f : goes_on ring seq low e ≡ false). cond-false _ _ _ f) (cases_Bool (goes_on ring seq low e))

pub next_unsealed : (ring : Ring) (offset seq low : ℕ) (bytes : List ℕ) → entry ring.fsid (ring.place offset) bytes ≡ None → next ring offset seq low bytes ≡ None
next_unsealed ring offset seq low bytes h = ap (if_goes_on ring seq low) h

-- ---- what is read stands

pub read_stand : (ring : Ring) (offset seq low : ℕ) (bytes : List ℕ) (es : List Entry) → IsRead ring offset seq low bytes es → Stand ring offset seq low bytes es
read_stand ring offset seq low bytes [] h = tt
read_stand ring offset seq low bytes (e ∷ es) h = (h.0, read_stand ring (offset + size_of e) (seq + 1) e.epoch (drop (size_of e) bytes) es h.1)

pub read_silent : (ring : Ring) (offset seq low : ℕ) (bytes : List ℕ) (es : List Entry) → IsRead ring offset seq low bytes es → SilentAfter ring offset seq low bytes es []
read_silent ring offset seq low bytes [] h = h
read_silent ring offset seq low bytes (e ∷ es) h = (h.0, read_silent ring (offset + size_of e) (seq + 1) e.epoch (drop (size_of e) bytes) es h.1)

-- it has room, whole blocks, and numbers below 2 ^ 63
pub stand_room : (ring : Ring) (offset seq low : ℕ) (bytes : List ℕ) (es : List Entry) → Stand ring offset seq low bytes es → sizes es ≤ length bytes
stand_room ring offset seq low bytes [] h = omega arith
stand_room ring offset seq low bytes (e ∷ es) h =
    let room = entry_room ring.fsid (ring.place offset) bytes e (next_entry ring seq low _ e h.0) in
    omega (arith, room, length-drop (size_of e) bytes, stand_room ring (offset + size_of e) (seq + 1) e.epoch (drop (size_of e) bytes) es h.1)

pub stand_small : (ring : Ring) (offset seq low : ℕ) (bytes : List ℕ) (es : List Entry) → seq ≤ 2 ^ 63 → Stand ring offset seq low bytes es → seq + length es ≤ 2 ^ 63
stand_small ring offset seq low bytes [] le h = omega arith
stand_small ring offset seq low bytes (e ∷ es) le h =
    let g = next_goes ring offset seq low bytes e h.0 in
    let small : seq + 1 ≤ 2 ^ 63 = omega (arith, g.small) in
    omega (arith, stand_small ring (offset + size_of e) (seq + 1) e.epoch (drop (size_of e) bytes) es small h.1)

pub sizes_blocks : (es : List Entry) → sizes es % 4096 ≡ 0
sizes_blocks [] = refl
sizes_blocks (e ∷ es) = omega (arith, need-blocks (length e.payload), sizes_blocks es)

-- ---- a later part of what stands

pub stand_at : (ring : Ring) (o p s t low : ℕ) (xs ys : List ℕ) (es : List Entry) → o ≡ p → s ≡ t → xs ≡ ys → Stand ring o s low xs es → Stand ring p t low ys es
stand_at ring o p s t low xs ys es eo es1 eb h =
    subst (λ (b : List ℕ). Stand ring p t low b es) eb (subst (λ (n : ℕ). Stand ring p n low xs es) es1 (subst (λ (n : ℕ). Stand ring n s low xs es) eo h))

pub stand_split : (ring : Ring) (offset seq low : ℕ) (bytes : List ℕ) (xs ys : List Entry) → Stand ring offset seq low bytes (xs ++ ys)
    → (l : ℕ) × Stand ring (offset + sizes xs) (seq + length xs) l (drop (sizes xs) bytes) ys
stand_split ring offset seq low bytes [] ys h =
    (low, stand_at ring offset (offset + 0) seq (seq + 0) low bytes bytes ys (sym (add-zero offset)) (sym (add-zero seq)) refl h)
stand_split ring offset seq low bytes (x ∷ xs) ys h =
    let r = stand_split ring (offset + size_of x) (seq + 1) x.epoch (drop (size_of x) bytes) xs ys h.1 in (
      r.0,
      stand_at ring (offset + size_of x + sizes xs) (offset + (size_of x + sizes xs)) (seq + 1 + length xs) (seq + length (x ∷ xs)) r.0 (drop (sizes xs) (drop (size_of x) bytes)) (drop (size_of x + sizes xs) bytes) ys
          (omega arith) (omega arith) (drop-drop (sizes xs) (size_of x) bytes) r.1,
    )

pub stand_front : (ring : Ring) (offset seq low : ℕ) (bytes : List ℕ) (xs ys : List Entry) → Stand ring offset seq low bytes (xs ++ ys) → Stand ring offset seq low bytes xs
stand_front ring offset seq low bytes [] ys h = tt
stand_front ring offset seq low bytes (x ∷ xs) ys h = (h.0, stand_front ring (offset + size_of x) (seq + 1) x.epoch (drop (size_of x) bytes) xs ys h.1)

-- what stands in one ring stands in another, where the places and bytes are the same, and epochs may be as high
pub stand_turn : (r s : Ring) (o p seq low down : ℕ) (xs ys : List ℕ) (es : List Entry) → s.fsid ≡ r.fsid → r.top ≤ s.top → down ≤ low
    → ((i : ℕ) → i < sizes es → s.place (p + i) ≡ r.place (o + i)) → take (sizes es) xs ≡ take (sizes es) ys → Stand r o seq low xs es → Stand s p seq down ys es
stand_turn r s o p seq low down xs ys [] ids tops lows places same h = tt
stand_turn r s o p seq low down xs ys (e ∷ es) ids tops lows places same h =
    let g = next_goes r o seq low xs e h.0 in
    let there = next_entry r seq low _ e h.0 in
    let here = entry_same r.fsid (r.place o) xs ys e there (front_same (size_of e) (sizes es) xs ys same) in
    let room = need-room (length e.payload) in
    let place0 : s.place (p + 0) ≡ r.place (o + 0) = places 0 (omega (arith, room)) in
    let place : s.place p ≡ r.place o = ap s.place (sym (add-zero p)) ∙ place0 ∙ ap r.place (add-zero o) in
    let moved : entry s.fsid (s.place p) ys ≡ Some e = ap (λ (f : List ℕ). entry f (s.place p) ys) ids ∙ ap (λ (k : ℕ). entry r.fsid k ys) place ∙ here in
    let on : Goes s seq down e = record { number = g.number; above = omega (arith, g.above, lows); within = omega (arith, g.within, tops); small = g.small } in
    let along : (i : ℕ) → i < sizes es → s.place (p + size_of e + i) ≡ r.place (o + size_of e + i) = λ i lt.
    ap s.place (let q : p + size_of e + i ≡ p + (size_of e + i) = omega arith in q) ∙ places (size_of e + i) (omega (arith, lt)) ∙ ap r.place (let q : o + (size_of e + i) ≡ o + size_of e + i = omega arith in q) in (
      next_from s p seq down ys e moved on,
      stand_turn r s (o + size_of e) (p + size_of e) (seq + 1) e.epoch e.epoch (drop (size_of e) xs) (drop (size_of e) ys) es ids tops (omega arith) along (back_same (size_of e) (sizes es) xs ys same) h.1,
    )

-- what stands, where nothing goes on behind it, is what is read
pub stand_ends : (ring : Ring) (offset seq low : ℕ) (bytes : List ℕ) (es : List Entry) → Stand ring offset seq low bytes es
    → ((l : ℕ) → next ring (offset + sizes es) (seq + length es) l (drop (sizes es) bytes) ≡ None) → IsRead ring offset seq low bytes es
stand_ends ring offset seq low bytes [] h none =
    ap (λ (o : ℕ). next ring o seq low bytes) (sym (add-zero offset)) ∙ ap (λ (s : ℕ). next ring (offset + 0) s low bytes) (sym (add-zero seq)) ∙ none low
stand_ends ring offset seq low bytes (e ∷ es) h none = (
  h.0,
  stand_ends ring (offset + size_of e) (seq + 1) e.epoch (drop (size_of e) bytes) es h.1 (λ l.
      ap (λ (o : ℕ). next ring o (seq + 1 + length es) l (drop (sizes es) (drop (size_of e) bytes))) (let q : offset + size_of e + sizes es ≡ offset + (size_of e + sizes es) = omega arith in q)
      ∙ ap (λ (s : ℕ). next ring (offset + (size_of e + sizes es)) s l (drop (sizes es) (drop (size_of e) bytes))) (let q : seq + 1 + length es ≡ seq + length (e ∷ es) = omega arith in q)
      ∙ ap (next ring (offset + (size_of e + sizes es)) (seq + length (e ∷ es)) l) (drop-drop (sizes es) (size_of e) bytes)
      ∙ none l),
)
