-- A ring's bytes, read piece by piece.
use Rattle.std.proofs.Common.{◌≡◌, ◌≢◌, ℕ, ◌+◌, ◌-◌, ◌<◌, ◌≤◌, List, [], ◌∷◌, ◌++◌, length, take, drop, refl, sym, ◌∙◌, ap, subst, arith, length-drop}
use Rattle.std.specs.Prelude.{Option, Some, None}
use Rattle.std.proofs.Math.Seq.{take-append-add, drop-append-add}
use Rattle.std.proofs.lemmas.List.{drop-drop, drop-take, take-take, take_all, take-append-le, drop-append-le}
use Rattle.byteorder.specs.Endian.{big_number}
use Rattle.byteorder.specs.Numbers.{big_from-take}
use Rattle.ring_frame.specs.Frame.{Entry, entry, entry_magic, need, size_of, told_length}
use Rattle.ring_frame.proofs.Facts.{entry_told, told_payload, entry_same, entry_magic_first, need-room, piece, not_some}
use Rattle.ring_images.specs.Readable.{Ring, next, IsRead}
use Rattle.ring_images.specs.Turned.{turned}
use Rattle.ring_images.proofs.Linear.{some_none, same_entry}

-- bytes of the turned ring before the device's end
pub span_high : (start off n : ℕ) (bytes : List ℕ) → 8192 ≤ start → start ≤ length bytes → off + n ≤ length bytes - start
    → take n (drop off (turned start bytes)) ≡ take n (drop (start + off) bytes)
span_high start off n bytes low high h =
    let A = drop start bytes in
    let B = take (start - 8192) (drop 8192 bytes) in
    let a = length-drop start bytes in
    ap (take n) (drop-append-le off A B (omega (arith, a))) ∙ take-append-le n (drop off A) B (omega (arith, length-drop off A, a))
    ∙ ap (take n) (drop-drop off start bytes)

-- behind the wrap
pub span_low : (start off n : ℕ) (bytes : List ℕ) → 8192 ≤ start → start ≤ length bytes → length bytes - start ≤ off → off + n ≤ length bytes - 8192
    → take n (drop off (turned start bytes)) ≡ take n (drop (8192 + (off - (length bytes - start))) bytes)
span_low start off n bytes low high from to =
    let A = drop start bytes in
    let C = drop 8192 bytes in
    let k = start - 8192 in
    let a = length-drop start bytes in
    let m = off - (length bytes - start) in
    let e : off ≡ length A + m = omega (arith, a) in
    ap (λ (i : ℕ). take n (drop i (A ++ take k C))) e ∙ ap (take n) (drop-append-add A (take k C) m)
    ∙ sym (drop-take m n (take k C)) ∙ ap (drop m) (take-take (m + n) k C (omega arith)) ∙ drop-take m n C
    ∙ ap (take n) (drop-drop m 8192 bytes)

-- and over it
pub span_over : (start off n cut : ℕ) (bytes : List ℕ) → 8192 ≤ start → start ≤ length bytes → cut ≡ length bytes - start - off → off ≤ length bytes - start → cut ≤ n → off + n ≤ length bytes - 8192
    → take n (drop off (turned start bytes)) ≡ take cut (drop (start + off) bytes) ++ take (n - cut) (drop 8192 bytes)
span_over start off n cut bytes low high is le short to =
    let A = drop start bytes in
    let C = drop 8192 bytes in
    let k = start - 8192 in
    let a = length-drop start bytes in
    let X = drop off A in
    let lx : length X ≡ cut = omega (arith, length-drop off A, a, is) in
    let e : n ≡ length X + (n - cut) = omega (arith, lx) in
    let whole : take cut (drop (start + off) bytes) ≡ X =
    ap (take cut) (sym (drop-drop off start bytes)) ∙ take_all cut X (omega (arith, lx)) in
    ap (take n) (drop-append-le off A (take k C) (omega (arith, a))) ∙ ap (λ (i : ℕ). take i (X ++ take k C)) e ∙ take-append-add X (take k C) (n - cut)
    ∙ ap (λ (l : List ℕ). X ++ l) (take-take (n - cut) k C (omega (arith, is)))
    ∙ ap (λ (l : List ℕ). l ++ take (n - cut) C) (sym whole)

-- ---- an entry in a piece of the bytes

pub told_front : (m : ℕ) (bytes : List ℕ) → 44 ≤ m → told_length (take m bytes) ≡ told_length bytes
told_front m bytes le =
    let p : take 4 (drop 40 (take m bytes)) ≡ take 4 (drop 40 bytes) = piece 44 (take m bytes) bytes (take-take 44 m bytes le) 40 4 (omega arith) in
    sym (big_from-take 0 4 4 (drop 40 (take m bytes)) (omega arith)) ∙ ap (big_number 4) p ∙ big_from-take 0 4 4 (drop 40 bytes) (omega arith)

pub entry_size : (fsid : List ℕ) (place : ℕ) (bytes : List ℕ) (e : Entry) → entry fsid place bytes ≡ Some e → size_of e ≡ need (told_length bytes)
entry_size fsid place bytes e h =
    let t = entry_told fsid place bytes e h in
    ap (λ (x : Entry). size_of x) (sym t.is) ∙ ap need (told_payload bytes t.parts.room)

-- a front of the bytes with the length that an entry would have tells as much as all of them
pub piece_some : (fsid : List ℕ) (place m : ℕ) (bytes : List ℕ) (e : Entry) → m ≡ need (told_length bytes) → entry fsid place (take m bytes) ≡ Some e → entry fsid place bytes ≡ Some e
piece_some fsid place m bytes e is h =
    let big = need-room (told_length bytes) in
    let s : size_of e ≡ m = entry_size fsid place (take m bytes) e h ∙ ap need (told_front m bytes (omega (arith, is, big))) ∙ sym is in
    entry_same fsid place (take m bytes) bytes e h (take-take (size_of e) m bytes (omega (arith, s)))

pub piece_none : (fsid : List ℕ) (place m : ℕ) (bytes : List ℕ) → m ≡ need (told_length bytes) → entry fsid place (take m bytes) ≡ None → entry fsid place bytes ≡ None
piece_none fsid place m bytes is h = not_some (entry fsid place bytes) (λ x e.
    let s : size_of x ≡ m = entry_size fsid place bytes x e ∙ sym is in
    some_none x _ (entry_same fsid place bytes (take m bytes) x e (sym (take-take (size_of x) m bytes (omega (arith, s))))) h)

-- too few bytes, or another magic
pub none_long : (fsid : List ℕ) (place : ℕ) (bytes : List ℕ) → length bytes < need (told_length bytes) → entry fsid place bytes ≡ None
none_long fsid place bytes lt = not_some (entry fsid place bytes) (λ x e. let room = (entry_told fsid place bytes x e).parts.room in omega (arith, room, lt))

pub none_magic : (fsid : List ℕ) (place : ℕ) (bytes : List ℕ) → take 8 bytes ≢ entry_magic → entry fsid place bytes ≡ None
none_magic fsid place bytes ne = not_some (entry fsid place bytes) (λ x e. ne (entry_magic_first fsid place bytes x e))

-- ---- the entries, one after another

pub told_first : (ring : Ring) (offset seq low : ℕ) (bytes : List ℕ) (rest : List Entry) (e : Entry) → IsRead ring offset seq low bytes rest → next ring offset seq low bytes ≡ Some e
    → (more : List Entry) × (rest ≡ e ∷ more) × IsRead ring (offset + size_of e) (seq + 1) e.epoch (drop (size_of e) bytes) more
told_first ring offset seq low bytes [] e read is = absurd (some_none e _ is read)
told_first ring offset seq low bytes (x ∷ xs) e read is =
    let same : x ≡ e = same_entry x e _ _ read.0 is refl in
    let P : Entry → Type 0 = λ z. IsRead ring (offset + size_of z) (seq + 1) z.epoch (drop (size_of z) bytes) xs in
    (xs, ap (λ (z : Entry). z ∷ xs) same, subst P same read.1)

pub told_end : (ring : Ring) (offset seq low : ℕ) (bytes : List ℕ) (rest : List Entry) → IsRead ring offset seq low bytes rest → next ring offset seq low bytes ≡ None → rest ≡ []
told_end ring offset seq low bytes [] read is = refl
told_end ring offset seq low bytes (x ∷ xs) read is = absurd (some_none x _ read.0 is)
