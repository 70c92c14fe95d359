-- A ring that begins at a later entry of the same bytes, in a higher epoch.
use Rattle.std.proofs.Common.{◌≡◌, ◌⊎◌, ⊎_elim, ℕ, ◌+◌, ◌-◌, ◌*◌, ◌%◌, ◌<◌, ◌≤◌, List, [], ◌∷◌, ◌++◌, length, take, drop, refl, sym, ◌∙◌, ap, subst, arith, length-drop}
use Rattle.std.specs.Prelude.{Some, None}
use Rattle.std.proofs.lemmas.List.{drop-drop, take-take, drop_all, take-append-le, drop-append-le}
use Rattle.std.proofs.lemmas.Bool.{cases_lt}
use Rattle.ring_frame.specs.Frame.{Entry, entry, size_of}
use Rattle.ring_frame.proofs.Facts.{entry_same, need-room}
use Rattle.ring_frame.specs.Heads.{Head}
use Rattle.ring_images.specs.Readable.{next, Stand, IsRead, IsClean, EndsAt, sizes}
use Rattle.ring_images.specs.Turned.{turned, place_of}
use Rattle.ring_images.proofs.Turned.{length-turned}
use Rattle.ring_images.proofs.Linear.{next_entry, next_none, sizes-append}
use Rattle.ring_images.specs.Held.{ring_of}
use Rattle.ring_images.proofs.Standing.{next_not, stand_split, stand_turn, stand_ends, stand_room, sizes_blocks}
use Rattle.ring_images.proofs.Rotate.{turned_on, place_on}
use Rattle.ring_images.specs.Cleaning.{CleanTo}
use Rattle.ring_images.specs.Begun.{Begins_at}

nil_ends : EndsAt []
nil_ends e = absurd (cc)

module _ (h g : Head) (size : ℕ) (gone rest : List Entry) (bytes : List ℕ) (at : Begins_at h g size gone rest) (l : length bytes ≡ size)
    (low : 8192 ≤ h.start) (high : h.start < size) (blocks : size % 4096 ≡ 0)
    (stand : Stand (ring_of h size) 0 h.seq 0 (turned h.start bytes) (gone ++ rest)) (clean : IsClean (drop (sizes (gone ++ rest)) (turned h.start bytes))) where
  abbrev T : List ℕ
  T = turned h.start bytes

  abbrev U : List ℕ
  U = turned g.start bytes

  abbrev n : ℕ
  n = sizes gone

  long : length T ≡ size - 8192
  long = length-turned h.start bytes low (omega (arith, l, high)) ∙ ap (λ (k : ℕ). k - 8192) l

  room : sizes gone + sizes rest ≤ size - 8192
  room = omega (arith, sizes-append gone rest, stand_room (ring_of h size) 0 h.seq 0 T (gone ++ rest) stand, long)

  pub turns_on : turned g.start bytes ≡ drop (sizes gone) (turned h.start bytes) ++ take (sizes gone) (turned h.start bytes)
  turns_on =
      let P : ℕ → Type 0 = λ k. turned (place_of k h.start n) bytes ≡ drop n T ++ take n T in
      ap (λ (k : ℕ). turned k bytes) at.start ∙ subst P l (turned_on h.start n bytes low (omega (arith, l, high)) (omega (arith, l, room)))

  long_front : length (drop n T) ≡ size - 8192 - sizes gone
  long_front = length-drop n T ∙ ap (λ (k : ℕ). k - n) long

  -- what is left stands
  pub rest_stands : Stand (ring_of g size) 0 g.seq 0 (turned g.start bytes) rest
  rest_stands =
      let s = stand_split (ring_of h size) 0 h.seq 0 T gone rest stand in
      let same : take (sizes rest) (drop n T) ≡ take (sizes rest) U = sym (ap (take (sizes rest)) turns_on ∙ take-append-le (sizes rest) (drop n T) (take n T) (omega (arith, long_front, room))) in
      let places : (i : ℕ) → i < sizes rest → place_of size g.start (0 + i) ≡ place_of size h.start (0 + sizes gone + i) = λ i lt.
      ap (place_of size g.start) (let q : 0 + i ≡ i = omega arith in q) ∙ ap (λ (k : ℕ). place_of size k i) at.start
      ∙ ⊎_elim
      (λ (w : (n + i < size - 8192) × (place_of size (place_of size h.start n) i ≡ place_of size h.start (n + i))). w.1)
      (λ (w : (size - 8192 ≤ n + i) × (place_of size (place_of size h.start n) i ≡ place_of size h.start (n + i - (size - 8192)))). absurd (omega (arith, w.0, lt, room)))
      (place_on size h.start n i low high (omega (arith, room)) (omega (arith, room, lt)))
      ∙ ap (place_of size h.start) (let q : n + i ≡ 0 + sizes gone + i = omega arith in q) in
      let turned_stand : Stand (ring_of g size) 0 (h.seq + length gone) 0 U rest =
      stand_turn (ring_of h size) (ring_of g size) (0 + sizes gone) 0 (h.seq + length gone) s.0 0 (drop n T) U rest at.fsid at.epoch (omega arith) places same s.1 in
      ⊎_elim
      (λ (e : rest ≡ []). subst (λ (r : List Entry). Stand (ring_of g size) 0 g.seq 0 U r) (sym e) tt)
      (λ (e : g.seq ≡ h.seq + length gone). subst (λ (k : ℕ). Stand (ring_of g size) 0 k 0 U rest) (sym e) turned_stand)
      at.number

  -- the bytes behind it: the free blocks, and then those given up
  behind : drop (sizes rest) U ≡ drop (sizes (gone ++ rest)) T ++ take n T
  behind =
      ap (drop (sizes rest)) turns_on ∙ drop-append-le (sizes rest) (drop n T) (take n T) (omega (arith, long_front, room))
      ∙ ap (λ (x : List ℕ). x ++ take n T) (drop-drop (sizes rest) n T ∙ ap (λ (k : ℕ). drop k T) (sym (sizes-append gone rest)))

  free_ends : sizes gone + sizes rest < size - 8192 → EndsAt (drop (sizes rest) U)
  free_ends lt e =
      let free = drop (sizes (gone ++ rest)) T in
      let m : length free ≡ size - 8192 - (sizes gone + sizes rest) = omega (arith, length-drop (sizes (gone ++ rest)) T, long, sizes-append gone rest) in
      let eight : 8 ≤ length free = omega (arith, m, lt, blocks, sizes_blocks gone, sizes_blocks rest) in
      clean 0 (sym (take-append-le 8 free (take n T) eight) ∙ sym (ap (take 8) behind) ∙ e)

  -- where there are none, the first given up stands there, and has an earlier number
  full_ends : (xs : List Entry) → gone ≡ xs → sizes gone + sizes rest ≡ size - 8192 → (k : ℕ) → next (ring_of g size) (0 + sizes rest) (g.seq + length rest) k (drop (sizes rest) U) ≡ None
  full_ends [] e full k =
      let none : drop (sizes rest) U ≡ [] = behind ∙ ap (λ (x : List ℕ). x ++ take n T) (drop_all (sizes (gone ++ rest)) T (omega (arith, long, sizes-append gone rest, full))) ∙ ap (λ (m : ℕ). take m T) (ap sizes e) in
      next_none (ring_of g size) (0 + sizes rest) (g.seq + length rest) k (drop (sizes rest) U) (subst EndsAt (sym none) nil_ends)
  full_ends (x ∷ xs) e full k =
      let R = ring_of h size in
      let big = need-room (length x.payload) in
      let n_is : n ≡ size_of x + sizes xs = ap sizes e in
      let whole : drop (sizes rest) U ≡ take n T = behind ∙ ap (λ (y : List ℕ). y ++ take n T) (drop_all (sizes (gone ++ rest)) T (omega (arith, long, sizes-append gone rest, full))) in
      let stands : Stand R 0 h.seq 0 T (x ∷ (xs ++ rest)) = subst (λ (y : List Entry). Stand R 0 h.seq 0 T (y ++ rest)) e stand in
      let there = next_entry R h.seq 0 _ x stands.0 in
      let seq_is : x.seq ≡ h.seq = (Rattle.ring_images.proofs.Standing.next_goes R 0 h.seq 0 T x stands.0).number in
      let same : take (size_of x) T ≡ take (size_of x) (drop (sizes rest) U) = sym (ap (take (size_of x)) whole ∙ take-take (size_of x) n T (omega (arith, n_is))) in
      let here = entry_same h.fsid (place_of size h.start 0) T (drop (sizes rest) U) x there same in
      let place : place_of size g.start (0 + sizes rest) ≡ place_of size h.start 0 =
      ap (place_of size g.start) (let q : 0 + sizes rest ≡ sizes rest = omega arith in q) ∙ ap (λ (y : ℕ). place_of size y (sizes rest)) at.start
      ∙ ⊎_elim
      (λ (w : (n + sizes rest < size - 8192) × (place_of size (place_of size h.start n) (sizes rest) ≡ place_of size h.start (n + sizes rest))). absurd (omega (arith, w.0, full)))
      (λ (w : (size - 8192 ≤ n + sizes rest) × (place_of size (place_of size h.start n) (sizes rest) ≡ place_of size h.start (n + sizes rest - (size - 8192)))). w.1 ∙ ap (place_of size h.start) (let q : n + sizes rest - (size - 8192) ≡ 0 = omega (arith, full) in q))
      (place_on size h.start n (sizes rest) low high (omega (arith, room)) (omega (arith, full, n_is, big))) in
      let moved : entry g.fsid (place_of size g.start (0 + sizes rest)) (drop (sizes rest) U) ≡ Some x =
      ap (λ (f : List ℕ). entry f (place_of size g.start (0 + sizes rest)) (drop (sizes rest) U)) at.fsid ∙ ap (λ (y : ℕ). entry h.fsid y (drop (sizes rest) U)) place ∙ here in
      let some : 0 < length gone = omega (arith, ap length e) in
      let later = at.ahead some in
      next_not (ring_of g size) (0 + sizes rest) (g.seq + length rest) k (drop (sizes rest) U) x moved (λ go. omega (arith, go.number, seq_is, later))

  -- and it is just what is read
  pub rest_read : IsRead (ring_of g size) 0 g.seq 0 (turned g.start bytes) rest
  rest_read =
      stand_ends (ring_of g size) 0 g.seq 0 U rest rest_stands (λ k. ⊎_elim
      (λ (c : sizes gone + sizes rest < size - 8192). next_none (ring_of g size) (0 + sizes rest) (g.seq + length rest) k (drop (sizes rest) U) (free_ends c))
      (λ (c : size - 8192 ≤ sizes gone + sizes rest). full_ends gone refl (omega (arith, c, room)) k)
      (cases_lt (sizes gone + sizes rest) (size - 8192)))

  -- the free blocks stay clean up to those given up
  pub rest_clean : CleanTo (sizes rest) (size - 8192 - sizes gone) (turned g.start bytes)
  rest_clean k lt e =
      let free = drop (sizes (gone ++ rest)) T in
      let m : length free ≡ size - 8192 - (sizes gone + sizes rest) = omega (arith, length-drop (sizes (gone ++ rest)) T, long, sizes-append gone rest) in
      let eight : 4096 * k + 8 ≤ length free = omega (arith, m, lt, blocks, sizes_blocks gone, sizes_blocks rest) in
      let at_k : drop (sizes rest + 4096 * k) U ≡ drop (4096 * k) free ++ take n T =
      sym (drop-drop (4096 * k) (sizes rest) U) ∙ ap (drop (4096 * k)) behind ∙ drop-append-le (4096 * k) free (take n T) (omega (arith, eight)) in
      clean k (sym (take-append-le 8 (drop (4096 * k) free) (take n T) (omega (arith, length-drop (4096 * k) free, eight))) ∙ sym (ap (take 8) at_k) ∙ e)
