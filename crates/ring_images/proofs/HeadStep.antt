-- The write of a header over a settled device leaves the old reading or the new one, whichever block it is.
use Rattle.std.proofs.Common.{◌≡◌, ◌⊎◌, inl, inr, ⊎_elim, ℕ, ◌+◌, ◌-◌, ◌<◌, ◌≤◌, List, length, take, drop, get_or, refl, sym, ◌∙◌, ap, subst, arith, length-drop}
use Rattle.std.specs.Prelude.{Option, Some, None}
use Rattle.std.proofs.lemmas.Bool.{cond-true, cond-false, le-leb, lt-leb}
use Rattle.std.proofs.lemmas.List.{ext_get_or, get_or-take, get_or-drop, length-take-le, drop-take}
use Rattle.dev_api.specs.Disk.{IsImage, put, wrote, settled}
use Rattle.ring_frame.specs.Frame.{Entry}
use Rattle.ring_frame.specs.Heads.{Head, head_in, head_of, newer}
use Rattle.ring_images.specs.Readable.{read_from}
use Rattle.ring_images.specs.Turned.{turned, place_of}
use Rattle.ring_images.proofs.Turned.{turned_at, length-turned, place_low, place_fits}
use Rattle.ring_images.specs.Held.{ring_of, readable, IsSound, HeadOf}
use Rattle.ring_images.proofs.Crash.{readable_at}
use Rattle.dev_api.proofs.Put.{length-put, put_below, put_above, same_front}

-- lists that agree behind the headers' blocks are read alike under one header
same_back : (xs ys : List ℕ) (h : Head) → length xs ≡ length ys → 8192 ≤ h.start → h.start ≤ length ys → ((j : ℕ) → 8192 ≤ j → j < length ys → get_or xs j 0 ≡ get_or ys j 0)
    → head_of xs ≡ Some h → head_of ys ≡ Some h → readable xs ≡ readable ys
same_back xs ys h l low high each a b =
    let nx = length-turned h.start xs low (omega (arith, l)) in
    let ny = length-turned h.start ys low high in
    let turns : turned h.start xs ≡ turned h.start ys = ext_get_or 0 _ _ (nx ∙ ap (λ (n : ℕ). n - 8192) l ∙ sym ny)
    (λ i lt.
    let within : i < length ys - 8192 = omega (arith, nx, l, lt) in
    turned_at h.start xs i low (omega (arith, l)) (omega (arith, l, within))
    ∙ ap (λ (n : ℕ). get_or xs (place_of n h.start i) 0) l
    ∙ each (place_of (length ys) h.start i) (place_low (length ys) h.start i low) (place_fits (length ys) h.start i low high within)
    ∙ sym (turned_at h.start ys i low high within)) in
    readable_at xs h (length ys) a l
    ∙ ap (read_from (length ys) (ring_of h (length ys)) 0 h.seq 0) turns
    ∙ sym (readable_at ys h (length ys) b refl)

some_same : (x y : Head) (a : Option Head) → a ≡ Some x → a ≡ Some y → x ≡ y
some_same x y a h k = cc

cases_of : (o a b : Option Head) (next : Head) → b ≡ Some next → ((x : Head) → o ≡ Some x → (a ≡ Some x) ⊎ (b ≡ Some x)) → (o ≡ a) ⊎ (o ≡ Some next) ⊎ (o ≡ None)
cases_of None a b next e f = inr (inr refl)
cases_of (Some x) a b next e f = ⊎_elim (λ k. inl (sym k)) (λ k. inr (inl (sym k ∙ e))) (f x refl)

-- the same bytes from one place on
same_part : (from n : ℕ) (xs ys : List ℕ) → from + n ≤ length xs → from + n ≤ length ys → ((i : ℕ) → from ≤ i → i < from + n → get_or xs i 0 ≡ get_or ys i 0) → drop from (take (from + n) xs) ≡ drop from (take (from + n) ys)
same_part from n xs ys hx hy each =
    let lx : length (drop from (take (from + n) xs)) ≡ n = omega (arith, length-drop from (take (from + n) xs), length-take-le (from + n) xs hx) in
    let ly : length (drop from (take (from + n) ys)) ≡ n = omega (arith, length-drop from (take (from + n) ys), length-take-le (from + n) ys hy) in
    ext_get_or 0 _ _ (lx ∙ sym ly) (λ i lt.
    let small : from + i < from + n = omega (arith, lx, lt) in
    get_or-drop from (take (from + n) xs) i 0 ∙ get_or-take (from + n) xs (from + i) 0 small ∙ each (from + i) (omega arith) small
    ∙ sym (get_or-drop from (take (from + n) ys) i 0 ∙ get_or-take (from + n) ys (from + i) 0 small))

-- under this header just these entries are read
abbrev pub Reads : Head → List Entry → List ℕ → Type 0
Reads h es c = (head_of c ≡ Some h) × (readable c ≡ es)

-- the block at 4096 is written, and the header that counts stands in the first
module _ (bytes : List ℕ) (size : ℕ) (block : List ℕ) (h next : Head) (sized : length bytes ≡ size) (big : 16384 ≤ size) (short : length block ≤ 4096)
    (first : head_in size (take 4096 bytes) ≡ Some h) (counts : head_of bytes ≡ Some h)
    (made : head_in size (take 4096 (drop 4096 (put bytes 4096 block))) ≡ Some next) (higher : h.generation < next.generation)
    (low : 8192 ≤ h.start) (high : h.start ≤ size) (low2 : 8192 ≤ next.start) (high2 : next.start ≤ size) where
  -- which header counts, where the second block has this one or none
  with_second : (o : Option Head) → (o ≡ head_in size (take 4096 (drop 4096 bytes))) ⊎ (o ≡ Some next) ⊎ (o ≡ None) → (newer (Some h) o ≡ Some h) ⊎ (newer (Some h) o ≡ Some next)
  unfolding head_of
  with_second o (inl e) = inl (ap (newer (Some h)) e ∙ sym (ap (λ (n : ℕ). newer (head_in n (take 4096 bytes)) (head_in n (take 4096 (drop 4096 bytes)))) sized ∙ ap (λ (a : Option Head). newer a (head_in size (take 4096 (drop 4096 bytes)))) first) ∙ counts)
  with_second o (inr (inl e)) = inr (ap (newer (Some h)) e ∙ cond-true _ _ _ (le-leb h.generation next.generation (omega arith)))
  with_second o (inr (inr e)) = inl (ap (newer (Some h)) e)

  long_now : length (put bytes 4096 block) ≡ size
  long_now = length-put bytes 4096 block (omega (arith, sized)) ∙ sized

  first_now : head_in size (take 4096 (put bytes 4096 block)) ≡ Some h
  first_now =
      ap (head_in size) (same_front 4096 (put bytes 4096 block) bytes (omega (arith, long_now)) (omega (arith, sized)) (λ i lt. put_below bytes 4096 block i (omega (arith, sized)) lt)) ∙ first

  heads : (c : List ℕ) → length c ≡ size → head_in size (take 4096 c) ≡ Some h → head_of c ≡ newer (Some h) (head_in size (take 4096 (drop 4096 c)))
  unfolding head_of
  heads c l e = ap (λ (n : ℕ). newer (head_in n (take 4096 c)) (head_in n (take 4096 (drop 4096 c)))) l ∙ ap (λ (a : Option Head). newer a (head_in size (take 4096 (drop 4096 c)))) e

  -- after the write
  pub counts_now : head_of (put bytes 4096 block) ≡ Some next
  counts_now = heads (put bytes 4096 block) long_now first_now ∙ ap (newer (Some h)) made ∙ cond-true _ _ _ (le-leb h.generation next.generation (omega arith))

  -- any sound image reads as before the write or as after it
  pub head_step : (c : List ℕ) → IsImage (wrote (settled bytes) 4096 block) c → IsSound (wrote (settled bytes) 4096 block) c → Reads h (readable bytes) c ⊎ Reads next (readable (put bytes 4096 block)) c
  head_step c image sound =
      let l : length c ≡ size = image.size ∙ sized in
      let kept : (j : ℕ) → j < size → (j < 4096) ⊎ (4096 + length block ≤ j) → get_or c j 0 ≡ get_or bytes j 0 = λ j lt side. image.same j (omega (arith, sized)) (side, tt) in
      let a : head_in size (take 4096 c) ≡ Some h = ap (head_in size) (same_front 4096 c bytes (omega (arith, l)) (omega (arith, sized)) (λ i lt. kept i (omega (arith, big, lt)) (inl lt))) ∙ first in
      let second = head_in size (take 4096 (drop 4096 c)) in
      let of : (x : Head) → second ≡ Some x → (head_in size (take 4096 (drop 4096 bytes)) ≡ Some x) ⊎ (head_in size (take 4096 (drop 4096 (put bytes 4096 block))) ≡ Some x) =
      λ x e. subst (λ (n : ℕ). HeadOf n 4096 (wrote (settled bytes) 4096 block) c) l sound.second x e in
      let cases = with_second second (cases_of second (head_in size (take 4096 (drop 4096 bytes))) (head_in size (take 4096 (drop 4096 (put bytes 4096 block)))) next made of) in
      ⊎_elim
      (λ e. inl (heads c l a ∙ e, same_back c bytes h (l ∙ sym sized) low (omega (arith, sized)) (λ j le lt. kept j (omega (arith, lt, sized)) (inr (omega (arith, le, short)))) (heads c l a ∙ e) counts))
      (λ e. inr (
        heads c l a ∙ e,
        same_back c (put bytes 4096 block) next (l ∙ sym long_now) low2 (omega (arith, long_now))
            (λ j le lt. kept j (omega (arith, lt, long_now)) (inr (omega (arith, le, short))) ∙ sym (put_above bytes 4096 block j (omega (arith, sized)) (omega (arith, le, short)))) (heads c l a ∙ e) counts_now,
      ))
      cases

-- the block at 0 is written, and the header that counts stands in the second
module _ (bytes : List ℕ) (size : ℕ) (block : List ℕ) (h next : Head) (sized : length bytes ≡ size) (big : 16384 ≤ size) (short : length block ≤ 4096)
    (second : head_in size (take 4096 (drop 4096 bytes)) ≡ Some h) (counts : head_of bytes ≡ Some h)
    (made : head_in size (take 4096 (put bytes 0 block)) ≡ Some next) (higher : h.generation < next.generation)
    (low : 8192 ≤ h.start) (high : h.start ≤ size) (low2 : 8192 ≤ next.start) (high2 : next.start ≤ size) where
  -- which header counts, where the first block has this one or none
  with_first : (o : Option Head) → (o ≡ head_in size (take 4096 bytes)) ⊎ (o ≡ Some next) ⊎ (o ≡ None) → (newer o (Some h) ≡ Some h) ⊎ (newer o (Some h) ≡ Some next)
  unfolding head_of
  with_first o (inl e) = inl (ap (λ (x : Option Head). newer x (Some h)) e ∙ sym (ap (λ (n : ℕ). newer (head_in n (take 4096 bytes)) (head_in n (take 4096 (drop 4096 bytes)))) sized ∙ ap (newer (head_in size (take 4096 bytes))) second) ∙ counts)
  with_first o (inr (inl e)) = inr (ap (λ (x : Option Head). newer x (Some h)) e ∙ cond-false _ _ _ (lt-leb next.generation h.generation higher))
  with_first o (inr (inr e)) = inl (ap (λ (x : Option Head). newer x (Some h)) e)

  long_first : length (put bytes 0 block) ≡ size
  long_first = length-put bytes 0 block (omega (arith, sized)) ∙ sized

  second_now : head_in size (take 4096 (drop 4096 (put bytes 0 block))) ≡ Some h
  second_now =
      ap (head_in size) (sym (drop-take 4096 4096 (put bytes 0 block)) ∙ same_part 4096 4096 (put bytes 0 block) bytes (omega (arith, long_first)) (omega (arith, sized)) (λ i le lt. put_above bytes 0 block i (omega (arith, sized)) (omega (arith, le))) ∙ drop-take 4096 4096 bytes) ∙ second

  heads_second : (c : List ℕ) → length c ≡ size → head_in size (take 4096 (drop 4096 c)) ≡ Some h → head_of c ≡ newer (head_in size (take 4096 c)) (Some h)
  unfolding head_of
  heads_second c l e = ap (λ (n : ℕ). newer (head_in n (take 4096 c)) (head_in n (take 4096 (drop 4096 c)))) l ∙ ap (newer (head_in size (take 4096 c))) e

  -- after the write
  pub counts_first : head_of (put bytes 0 block) ≡ Some next
  counts_first = heads_second (put bytes 0 block) long_first second_now ∙ ap (λ (x : Option Head). newer x (Some h)) made ∙ cond-false _ _ _ (lt-leb next.generation h.generation higher)

  -- any sound image reads as before the write or as after it
  pub first_step : (c : List ℕ) → IsImage (wrote (settled bytes) 0 block) c → IsSound (wrote (settled bytes) 0 block) c → Reads h (readable bytes) c ⊎ Reads next (readable (put bytes 0 block)) c
  first_step c image sound =
      let l : length c ≡ size = image.size ∙ sized in
      let kept : (j : ℕ) → j < size → 4096 ≤ j → get_or c j 0 ≡ get_or bytes j 0 = λ j lt le. image.same j (omega (arith, sized)) (inr (omega (arith, le, short)), tt) in
      let a : head_in size (take 4096 (drop 4096 c)) ≡ Some h =
      ap (head_in size) (sym (drop-take 4096 4096 c) ∙ same_part 4096 4096 c bytes (omega (arith, l)) (omega (arith, sized)) (λ i le lt. kept i (omega (arith, big, lt)) le) ∙ drop-take 4096 4096 bytes) ∙ second in
      let o = head_in size (take 4096 c) in
      let of : (x : Head) → o ≡ Some x → (head_in size (take 4096 bytes) ≡ Some x) ⊎ (head_in size (take 4096 (put bytes 0 block)) ≡ Some x) =
      λ x e. subst (λ (n : ℕ). HeadOf n 0 (wrote (settled bytes) 0 block) c) l sound.first x e in
      let cases = with_first o (cases_of o (head_in size (take 4096 bytes)) (head_in size (take 4096 (put bytes 0 block))) next made of) in
      ⊎_elim
      (λ e. inl (heads_second c l a ∙ e, same_back c bytes h (l ∙ sym sized) low (omega (arith, sized)) (λ j le lt. kept j (omega (arith, lt, sized)) (omega (arith, le))) (heads_second c l a ∙ e) counts))
      (λ e. inr (
        heads_second c l a ∙ e,
        same_back c (put bytes 0 block) next (l ∙ sym long_first) low2 (omega (arith, long_first))
            (λ j le lt. kept j (omega (arith, lt, long_first)) (omega (arith, le)) ∙ sym (put_above bytes 0 block j (omega (arith, sized)) (omega (arith, le, short)))) (heads_second c l a ∙ e) counts_first,
      ))
      cases

-- ---- the entries' bytes stay

pub turned_front : (start w : ℕ) (bytes block : List ℕ) → 8192 ≤ start → start ≤ length bytes → w + length block ≤ 8192 → turned start (put bytes w block) ≡ turned start bytes
turned_front start w bytes block low high short =
    let l = length-put bytes w block (omega arith) in
    let nx = length-turned start (put bytes w block) low (omega (arith, l)) in
    let ny = length-turned start bytes low high in
    ext_get_or 0 _ _ (nx ∙ ap (λ (n : ℕ). n - 8192) l ∙ sym ny)
    (λ i lt.
    let within : i < length bytes - 8192 = omega (arith, nx, l, lt) in
    let there = place_low (length bytes) start i low in
    turned_at start (put bytes w block) i low (omega (arith, l)) (omega (arith, l, within))
    ∙ ap (λ (n : ℕ). get_or (put bytes w block) (place_of n start i) 0) l
    ∙ put_above bytes w block (place_of (length bytes) start i) (omega arith) (omega (arith, there))
    ∙ sym (turned_at start bytes i low high within))
