-- A piece more is read or written.
use Rattle.std.proofs.Common.{◌≡◌, ⊎_elim, ℕ, ◌+◌, ◌-◌, ◌<◌, ◌≤◌, List, [], ◌∷◌, ◌++◌, length, take, drop, get_or, refl, sym, ◌∙◌, ap, ap₂, le_refl, arith, slice_range, drop_at, drop-drop, take-add, length-append, length-drop}
use Rattle.std.proofs.lemmas.List.{get_or_append_left, get_or-append_right, ext_get_or, length-take-le, take_rest}
use Rattle.std.proofs.lemmas.Bool.{cases_lt}
use Rattle.std.proofs.lemmas.Slice.{take-put_mid_below}
use borrow.Rule.Slice.PartMut.{put_mid, post_of}
use lib.Seq.{take-append-le}
use Rattle.dev_api.specs.Disk.{Disk, put, wrote_in_part, reading}
use Rattle.dev_api.proofs.Put.{length-put, put_below, put_within, put_above}

-- the first piece put, and then the second behind it
pub put_then : (xs : List ℕ) (at k : ℕ) (a b : List ℕ) → k ≡ at + length a → at + length a + length b ≤ length xs → put (put xs at a) k b ≡ put xs at (a ++ b)
put_then xs at k a b is h =
    let n = length-append a b in
    let first = length-put xs at a (omega arith) in
    let second = length-put (put xs at a) k b (omega (arith, first, is)) in
    let both = length-put xs at (a ++ b) (omega (arith, n)) in
    ext_get_or 0 _ _ (second ∙ first ∙ sym both)
    (λ i lt. ⊎_elim
    (λ (c : i < at).
    put_below (put xs at a) k b i (omega (arith, first, is)) (omega (arith, is)) ∙ put_below xs at a i (omega arith) c
    ∙ sym (put_below xs at (a ++ b) i (omega (arith, n)) c))
    (λ (c : at ≤ i). ⊎_elim
    (λ (e : i < k).
    put_below (put xs at a) k b i (omega (arith, first, is)) e ∙ put_within xs at a i (omega arith) c (omega (arith, is))
    ∙ sym (put_within xs at (a ++ b) i (omega (arith, n)) c (omega (arith, n, is)) ∙ get_or_append_left a b 0 (i - at) (omega (arith, is))))
    (λ (e : k ≤ i). ⊎_elim
    (λ (f : i < k + length b).
    put_within (put xs at a) k b i (omega (arith, first, is)) e f
    ∙ sym (put_within xs at (a ++ b) i (omega (arith, n)) c (omega (arith, n, is)) ∙ get_or-append_right a b (length a) (i - at) 0 refl (omega (arith, is)) ∙ ap (λ (j : ℕ). get_or b j 0) (omega (arith, is))))
    (λ (f : k + length b ≤ i).
    put_above (put xs at a) k b i (omega (arith, first, is)) f ∙ put_above xs at a i (omega arith) (omega (arith, is))
    ∙ sym (put_above xs at (a ++ b) i (omega (arith, n)) (omega (arith, n, is))))
    (cases_lt i (k + length b)))
    (cases_lt i k))
    (cases_lt i at))

pub put_none : (xs : List ℕ) (at : ℕ) → at ≤ length xs → put xs at [] ≡ xs
put_none xs at h =
    let l = length-put xs at [] (omega arith) in
    ext_get_or 0 _ _ l (λ i lt. ⊎_elim
    (λ (c : i < at). put_below xs at [] i (omega arith) c)
    (λ (c : at ≤ i). put_above xs at [] i (omega arith) (omega arith))
    (cases_lt i at))

-- the bytes up to a piece's end
pub front_more : (b : List ℕ) (done n : ℕ) → done ≤ length b → take done b ++ take n (slice_range b done (length b)) ≡ take (done + n) b
front_more b done n h = ap (λ (l : List ℕ). take done b ++ take n l) (take_rest b done) ∙ sym (take-add done n b)

-- a piece more of a write is written
reads_more : (xs : List ℕ) (at done n : ℕ) (b : List ℕ) → done + n ≤ length b → at + length b ≤ length xs
    → put (put xs at (take done b)) (at + done) (take n (slice_range b done (length b))) ≡ put xs at (take (done + n) b)
reads_more xs at done n b le fits =
    let within : done ≤ length b = omega (arith, le) in
    let first = length-take-le done b within in
    let rest : length (slice_range b done (length b)) ≡ length b - done = ap length (take_rest b done) ∙ length-drop done b in
    let piece = length-take-le n (slice_range b done (length b)) (omega (arith, rest, le)) in
    put_then xs at (at + done) (take done b) (take n (slice_range b done (length b))) (ap (λ (k : ℕ). at + k) (sym first)) (omega (arith, first, piece, le, fits))
    ∙ ap (put xs at) (front_more b done n within)

-- the content inside a write of which so many bytes are written
abbrev pub so_far : Disk → ℕ → List ℕ → ℕ → Disk
so_far old at b done = wrote_in_part old at b (put old.reads at (take done b))

pub so_far-more : (old now : Disk) (at done n : ℕ) (b : List ℕ) → done + n ≤ length b → at + length b ≤ length old.reads → now ≡ so_far old at b done
    → reading now (put now.reads (at + done) (take n (slice_range b done (length b)))) ≡ so_far old at b (done + n)
so_far-more old now at done n b le fits is =
    ap (λ (d : Disk). reading d (put d.reads (at + done) (take n (slice_range b done (length b))))) is
    ∙ ap (wrote_in_part old at b) (reads_more old.reads at done n b le fits)

-- it takes the place of the newest content
pub past_more : (old now : Disk) (before past : List Disk) (at done n : ℕ) (b : List ℕ) → done + n ≤ length b → at + length b ≤ length old.reads → now ≡ so_far old at b done
    → past ≡ so_far old at b done ∷ before
    → reading now (put now.reads (at + done) (take n (slice_range b done (length b)))) ∷ drop 1 past ≡ so_far old at b (done + n) ∷ before
past_more old now before past at done n b le fits is was =
    ap₂ (λ (d : Disk) (l : List Disk). d ∷ l) (so_far-more old now at done n b le fits is) (ap (drop 1) was)

-- those in front stay where a piece is read
pub front_kept : (done k : ℕ) (old new : List ℕ) → done ≤ length old → take done (put_mid done k old new) ≡ take done old
front_kept done k old new within = take-put_mid_below _ _ _ _ _ (le_refl done) within

-- the bytes up to the end of a piece that has just come
pub front_came : (done k n : ℕ) (old new : List ℕ) → done ≤ length old → n ≤ length new → take (done + n) (put_mid done k old new) ≡ take done old ++ take n new
front_came done k n old new within fits =
    take-add done n (put_mid done k old new)
    ∙ ap₂ (λ (a b : List ℕ). a ++ b) (front_kept done k old new within)
    (ap (take n) (drop_at (take done old) (new ++ post_of done k old) done (length-take-le done old within)) ∙ take-append-le n new (post_of done k old) fits)

-- and with what stands there on the disk
pub front_read : (file old new : List ℕ) (at from done k n : ℕ) → from ≡ at + done → done ≤ length old → n ≤ length new
    → take done old ≡ take done (drop at file) → (from + length (take n new) ≤ length file) × (take n new ≡ take (length (take n new)) (drop from file))
    → take (done + n) (put_mid done k old new) ≡ take (done + n) (drop at file)
front_read file old new at from done k n is within fits before h =
    let len : length (take n new) ≡ n = length-take-le n new fits in
    front_came done k n old new within fits
    ∙ ap₂ (λ (a b : List ℕ). a ++ b) before (h.1 ∙ ap₂ (λ (m : ℕ) (f : ℕ). take m (drop f file)) len is ∙ ap (take n) (sym (drop-drop done at file)))
    ∙ sym (take-add done n (drop at file))
