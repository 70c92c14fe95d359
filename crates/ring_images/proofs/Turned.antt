-- A ring's bytes, turned so that they begin at the start place: each byte, and what is put among them.
use Rattle.std.proofs.Common.{◌≡◌, ◌⊎◌, inl, inr, ⊎_elim, ℕ, ◌+◌, ◌-◌, ◌<◌, ◌≤◌, List, length, take, drop, get_or, sym, ◌∙◌, ap, arith, length-append, length-take, length-drop}
use Rattle.std.proofs.lemmas.List.{get_or-take, get_or-drop, get_or_append_left, get_or-append_right, ext_get_or}
use Rattle.std.proofs.lemmas.Bool.{cases_lt, cond-true, cond-false, lt-ltb, le-ltb}
use Rattle.dev_api.specs.Disk.{put}
use Rattle.dev_api.proofs.Put.{length-put, put_within, put_other}
use Rattle.ring_images.specs.Turned.{turned, place_of}
use Rattle.ring_images.specs.Append.{Away, Along}

pub length-turned : (start : ℕ) (bytes : List ℕ) → 8192 ≤ start → start ≤ length bytes → length (turned start bytes) ≡ length bytes - 8192
length-turned start bytes low high =
    omega (arith, length-append (drop start bytes) (take (start - 8192) (drop 8192 bytes)), length-drop start bytes, length-take (start - 8192) (drop 8192 bytes), length-drop 8192 bytes)

turned_high : (start : ℕ) (bytes : List ℕ) (i : ℕ) → i < length bytes - start → get_or (turned start bytes) i 0 ≡ get_or bytes (start + i) 0
turned_high start bytes i h =
    get_or_append_left (drop start bytes) (take (start - 8192) (drop 8192 bytes)) 0 i (omega (arith, length-drop start bytes)) ∙ get_or-drop start bytes i 0

turned_low : (start : ℕ) (bytes : List ℕ) (i : ℕ) → 8192 ≤ start → start ≤ length bytes → length bytes - start ≤ i → i < length bytes - 8192
    → get_or (turned start bytes) i 0 ≡ get_or bytes (8192 + (i - (length bytes - start))) 0
turned_low start bytes i low high from to =
    get_or-append_right (drop start bytes) (take (start - 8192) (drop 8192 bytes)) (length bytes - start) i 0 (length-drop start bytes) from
    ∙ get_or-take (start - 8192) (drop 8192 bytes) (i - (length bytes - start)) 0 (omega arith)
    ∙ get_or-drop 8192 bytes (i - (length bytes - start)) 0

-- a byte of the turned list is that of the device at its place
pub turned_at : (start : ℕ) (bytes : List ℕ) (i : ℕ) → 8192 ≤ start → start ≤ length bytes → i < length bytes - 8192
    → get_or (turned start bytes) i 0 ≡ get_or bytes (place_of (length bytes) start i) 0
turned_at start bytes i low high h = ⊎_elim
    (λ (lt : i < length bytes - start). turned_high start bytes i lt ∙ ap (λ (j : ℕ). get_or bytes j 0) (sym (cond-true _ _ _ (lt-ltb _ _ lt))))
    (λ (le : length bytes - start ≤ i). turned_low start bytes i low high le h ∙ ap (λ (j : ℕ). get_or bytes j 0) (sym (cond-false _ _ _ (le-ltb _ _ le))))
    (cases_lt i (length bytes - start))

point : (xs ys : List ℕ) (at off : ℕ) (bs : List ℕ) (j i : ℕ) → at + length bs ≤ length xs → off + length bs ≤ length ys → get_or xs j 0 ≡ get_or ys i 0
    → Away at off (length bs) j i ⊎ Along at off (length bs) j i → get_or (put xs at bs) j 0 ≡ get_or (put ys off bs) i 0
point xs ys at off bs j i hx hy e side = ⊎_elim
    (λ (a : Away at off (length bs) j i). put_other xs at bs j hx a.there ∙ e ∙ sym (put_other ys off bs i hy a.here))
    (λ (a : Along at off (length bs) j i).
    put_within xs at bs j hx (omega (arith, a.moved)) (omega (arith, a.moved, a.to, a.from))
    ∙ ap (λ (k : ℕ). get_or bs k 0) (omega (arith, a.moved, a.from))
    ∙ sym (put_within ys off bs i hy a.from a.to))
    side

-- where an index of the turned list lies, seen from what is put before the device's end
pub at_high : (size start off n i : ℕ) → 8192 ≤ start → start ≤ size → off + n ≤ size - start → i < size - 8192
    → Away (start + off) off n (place_of size start i) i ⊎ Along (start + off) off n (place_of size start i) i
at_high size start off n i low high h lt = ⊎_elim
    (λ (up : i < size - start).
    let p : place_of size start i ≡ start + i = cond-true _ _ _ (lt-ltb _ _ up) in
    ⊎_elim
    (λ (b : i < off). inl (record { there = inl (omega (arith, p)); here = inl b }))
    (λ (b : off ≤ i). ⊎_elim
    (λ (c : i < off + n). inr (record { from = b; to = c; moved = omega (arith, p) }))
    (λ (c : off + n ≤ i). inl (record { there = inr (omega (arith, p)); here = inr c }))
    (cases_lt i (off + n)))
    (cases_lt i off))
    (λ (down : size - start ≤ i).
    let p : place_of size start i ≡ 8192 + (i - (size - start)) = cond-false _ _ _ (le-ltb _ _ down) in
    inl (record { there = inl (omega (arith, p)); here = inr (omega arith) }))
    (cases_lt i (size - start))

-- and from what is put behind the wrap
pub at_low : (size start off n i : ℕ) → 8192 ≤ start → start ≤ size → size - start ≤ off → off + n ≤ size - 8192 → i < size - 8192
    → Away (8192 + (off - (size - start))) off n (place_of size start i) i ⊎ Along (8192 + (off - (size - start))) off n (place_of size start i) i
at_low size start off n i low high from to lt = ⊎_elim
    (λ (up : i < size - start).
    let p : place_of size start i ≡ start + i = cond-true _ _ _ (lt-ltb _ _ up) in
    inl (record { there = inr (omega (arith, p)); here = inl (omega arith) }))
    (λ (down : size - start ≤ i).
    let p : place_of size start i ≡ 8192 + (i - (size - start)) = cond-false _ _ _ (le-ltb _ _ down) in
    ⊎_elim
    (λ (b : i < off). inl (record { there = inl (omega (arith, p)); here = inl b }))
    (λ (b : off ≤ i). ⊎_elim
    (λ (c : i < off + n). inr (record { from = b; to = c; moved = omega (arith, p) }))
    (λ (c : off + n ≤ i). inl (record { there = inr (omega (arith, p)); here = inr c }))
    (cases_lt i (off + n)))
    (cases_lt i off))
    (cases_lt i (size - start))

pub turned_put_at : (start : ℕ) (bytes : List ℕ) (at off : ℕ) (bs : List ℕ) → 8192 ≤ start → start ≤ length bytes → at + length bs ≤ length bytes → off + length bs ≤ length bytes - 8192
    → ((i : ℕ) → i < length bytes - 8192 → Away at off (length bs) (place_of (length bytes) start i) i ⊎ Along at off (length bs) (place_of (length bytes) start i) i)
    → turned start (put bytes at bs) ≡ put (turned start bytes) off bs
turned_put_at start bytes at off bs low high fits room each =
    let size_put = length-put bytes at bs fits in
    let size_turned = length-turned start bytes low high in
    let size_left : length (turned start (put bytes at bs)) ≡ length bytes - 8192 = length-turned start (put bytes at bs) low (omega (arith, size_put)) ∙ ap (λ (k : ℕ). k - 8192) size_put in
    ext_get_or 0 _ _ (size_left ∙ sym (length-put (turned start bytes) off bs (omega (arith, size_turned)) ∙ size_turned))
    (λ i lt.
    let within : i < length bytes - 8192 = omega (arith, size_left, lt) in
    turned_at start (put bytes at bs) i low (omega (arith, size_put)) (omega (arith, size_put, within))
    ∙ ap (λ (k : ℕ). get_or (put bytes at bs) (place_of k start i) 0) size_put
    ∙ point bytes (turned start bytes) at off bs (place_of (length bytes) start i) i fits (omega (arith, size_turned))
    (sym (turned_at start bytes i low high within)) (each i within))

-- bytes put before the device's end
pub turned_put_high : (start : ℕ) (bytes : List ℕ) (off : ℕ) (bs : List ℕ) → 8192 ≤ start → start ≤ length bytes → off + length bs ≤ length bytes - start
    → turned start (put bytes (start + off) bs) ≡ put (turned start bytes) off bs
turned_put_high start bytes off bs low high h =
    turned_put_at start bytes (start + off) off bs low high (omega arith) (omega arith)
    (λ i lt. at_high (length bytes) start off (length bs) i low high h lt)

-- and behind the wrap
pub turned_put_low : (start : ℕ) (bytes : List ℕ) (off : ℕ) (bs : List ℕ) → 8192 ≤ start → start ≤ length bytes → length bytes - start ≤ off → off + length bs ≤ length bytes - 8192
    → turned start (put bytes (8192 + (off - (length bytes - start))) bs) ≡ put (turned start bytes) off bs
turned_put_low start bytes off bs low high from to =
    turned_put_at start bytes (8192 + (off - (length bytes - start))) off bs low high (omega arith) (omega arith)
    (λ i lt. at_low (length bytes) start off (length bs) i low high from to lt)

-- a place of the ring is on the device, behind the headers
pub place_fits : (size start i : ℕ) → 8192 ≤ start → start ≤ size → i < size - 8192 → place_of size start i < size
place_fits size start i low high h = ⊎_elim
    (λ (up : i < size - start). let p : place_of size start i ≡ start + i = cond-true _ _ _ (lt-ltb _ _ up) in omega (arith, p))
    (λ (down : size - start ≤ i). let p : place_of size start i ≡ 8192 + (i - (size - start)) = cond-false _ _ _ (le-ltb _ _ down) in omega (arith, p))
    (cases_lt i (size - start))

pub place_low : (size start i : ℕ) → 8192 ≤ start → 8192 ≤ place_of size start i
place_low size start i low = ⊎_elim
    (λ (up : i < size - start). let p : place_of size start i ≡ start + i = cond-true _ _ _ (lt-ltb _ _ up) in omega (arith, p))
    (λ (down : size - start ≤ i). let p : place_of size start i ≡ 8192 + (i - (size - start)) = cond-false _ _ _ (le-ltb _ _ down) in omega (arith, p))
    (cases_lt i (size - start))
