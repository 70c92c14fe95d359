-- A ring that begins at a later place of the same bytes.
use Rattle.std.proofs.Common.{◌≡◌, ◌⊎◌, inl, inr, ⊎_elim, ℕ, ◌+◌, ◌-◌, ◌%◌, ◌<◌, ◌≤◌, List, ◌++◌, length, take, drop, get_or, sym, ◌∙◌, ap, arith, length-append, length-drop}
use Rattle.std.proofs.lemmas.List.{ext_get_or, get_or-take, get_or-drop, get_or_append_left, get_or-append_right, length-take-le}
use Rattle.std.proofs.lemmas.Bool.{cases_lt, cond-true, cond-false, lt-ltb, le-ltb}
use Rattle.ring_images.specs.Turned.{turned, place_of}
use Rattle.ring_images.proofs.Turned.{length-turned, turned_at, place_low, place_fits}

place_up : (size start i : ℕ) → i < size - start → place_of size start i ≡ start + i
place_up size start i lt = cond-true _ _ _ (lt-ltb _ _ lt)

place_down : (size start i : ℕ) → size - start ≤ i → place_of size start i ≡ 8192 + (i - (size - start))
place_down size start i le = cond-false _ _ _ (le-ltb _ _ le)

-- the place behind all of the ring is its start
pub place_around : (size start : ℕ) → 8192 ≤ start → start < size → place_of size start (size - 8192) ≡ start
place_around size start low high = place_down size start (size - 8192) (omega arith) ∙ (let e : 8192 + (size - 8192 - (size - start)) ≡ start = omega arith in e)

pub place_below : (size start n : ℕ) → 8192 ≤ start → start < size → n ≤ size - 8192 → place_of size start n < size
place_below size start n low high le = ⊎_elim
    (λ (lt : n < size - 8192). place_fits size start n low (omega arith) lt)
    (λ (ge : size - 8192 ≤ n). let e : n ≡ size - 8192 = omega arith in let p : place_of size start n ≡ start = ap (place_of size start) e ∙ place_around size start low high in omega (arith, p))
    (cases_lt n (size - 8192))

-- a place of whole blocks
pub place_blocks : (size start n : ℕ) → 8192 ≤ start → start < size → n ≤ size - 8192 → start % 4096 ≡ 0 → size % 4096 ≡ 0 → n % 4096 ≡ 0 → place_of size start n % 4096 ≡ 0
place_blocks size start n low high le a b c = ⊎_elim
    (λ (up : n < size - start). let p = place_up size start n up in omega (arith, p))
    (λ (down : size - start ≤ n). let p = place_down size start n down in omega (arith, p))
    (cases_lt n (size - start))

-- a place behind a later start, before all is turned and after
pub place_on : (size start n i : ℕ) → 8192 ≤ start → start < size → n ≤ size - 8192 → i < size - 8192
    → ((n + i < size - 8192) × (place_of size (place_of size start n) i ≡ place_of size start (n + i))) ⊎ ((size - 8192 ≤ n + i) × (place_of size (place_of size start n) i ≡ place_of size start (n + i - (size - 8192))))
place_on size start n i low high le lt = ⊎_elim
    (λ (up : n < size - start).
    let p = place_up size start n up in
    ⊎_elim
    (λ (c : i < size - place_of size start n). inl (omega (arith, p), place_up size (place_of size start n) i c ∙ (let e : place_of size start n + i ≡ start + (n + i) = omega (arith, p) in e) ∙ sym (place_up size start (n + i) (omega (arith, p)))))
    (λ (c : size - place_of size start n ≤ i).
    let q = place_down size (place_of size start n) i c in
    ⊎_elim
    (λ (f : n + i < size - 8192). inl (f, q ∙ (let e : 8192 + (i - (size - place_of size start n)) ≡ 8192 + (n + i - (size - start)) = omega (arith, p) in e) ∙ sym (place_down size start (n + i) (omega (arith, p)))))
    (λ (f : size - 8192 ≤ n + i). inr (f, q ∙ (let e : 8192 + (i - (size - place_of size start n)) ≡ start + (n + i - (size - 8192)) = omega (arith, p) in e) ∙ sym (place_up size start (n + i - (size - 8192)) (omega arith))))
    (cases_lt (n + i) (size - 8192)))
    (cases_lt i (size - place_of size start n)))
    (λ (down : size - start ≤ n).
    let p = place_down size start n down in
    ⊎_elim
    (λ (c : i < size - place_of size start n).
    let q = place_up size (place_of size start n) i c in
    ⊎_elim
    (λ (f : n + i < size - 8192). inl (f, q ∙ (let e : place_of size start n + i ≡ 8192 + (n + i - (size - start)) = omega (arith, p) in e) ∙ sym (place_down size start (n + i) (omega arith))))
    (λ (f : size - 8192 ≤ n + i). inr (f, q ∙ (let e : place_of size start n + i ≡ start + (n + i - (size - 8192)) = omega (arith, p) in e) ∙ sym (place_up size start (n + i - (size - 8192)) (omega (arith, p)))))
    (cases_lt (n + i) (size - 8192)))
    (λ (c : size - place_of size start n ≤ i).
    let q = place_down size (place_of size start n) i c in
    inr (omega (arith, p), q ∙ (let e : 8192 + (i - (size - place_of size start n)) ≡ 8192 + (n + i - (size - 8192) - (size - start)) = omega (arith, p) in e) ∙ sym (place_down size start (n + i - (size - 8192)) (omega (arith, p)))))
    (cases_lt i (size - place_of size start n)))
    (cases_lt n (size - start))

-- the turned ring, turned on by n bytes
pub turned_on : (start n : ℕ) (bytes : List ℕ) → 8192 ≤ start → start < length bytes → n ≤ length bytes - 8192
    → turned (place_of (length bytes) start n) bytes ≡ drop n (turned start bytes) ++ take n (turned start bytes)
turned_on start n bytes low high le =
    let size = length bytes in
    let q = place_of size start n in
    let T = turned start bytes in
    let ql : 8192 ≤ q = place_low size start n low in
    let qh : q < size = place_below size start n low high le in
    let lt = length-turned start bytes low (omega arith) in
    let lq = length-turned q bytes ql (omega arith) in
    let ld : length (drop n T) ≡ size - 8192 - n = length-drop n T ∙ ap (λ (k : ℕ). k - n) lt in
    let lk : length (take n T) ≡ n = length-take-le n T (omega (arith, lt)) in
    ext_get_or 0 (turned q bytes) (drop n T ++ take n T) (omega (arith, lq, ld, lk, length-append (drop n T) (take n T)))
    (λ i lti.
    let small : i < size - 8192 = omega (arith, lq, lti) in
    turned_at q bytes i ql (omega arith) small ∙ ⊎_elim
    (λ (w : (n + i < size - 8192) × (place_of size q i ≡ place_of size start (n + i))).
    ap (λ (k : ℕ). get_or bytes k 0) w.1 ∙ sym (turned_at start bytes (n + i) low (omega arith) w.0)
    ∙ sym (get_or_append_left (drop n T) (take n T) 0 i (omega (arith, ld, w.0)) ∙ get_or-drop n T i 0))
    (λ (w : (size - 8192 ≤ n + i) × (place_of size q i ≡ place_of size start (n + i - (size - 8192)))).
    ap (λ (k : ℕ). get_or bytes k 0) w.1 ∙ sym (turned_at start bytes (n + i - (size - 8192)) low (omega arith) (omega arith))
    ∙ sym (get_or-append_right (drop n T) (take n T) (size - 8192 - n) i 0 ld (omega (arith, w.0))
    ∙ get_or-take n T (i - (size - 8192 - n)) 0 (omega (arith, w.0))
    ∙ ap (λ (k : ℕ). get_or T k 0) (let e : i - (size - 8192 - n) ≡ n + i - (size - 8192) = omega (arith, w.0) in e)))
    (place_on size start n i low high le small))
