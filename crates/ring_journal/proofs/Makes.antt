-- What a crash leaves while a ring is made.
use Rattle.std.proofs.Common.{◌≡◌, ◌≢◌, ◌⊎◌, inl, inr, ⊎_elim, ℕ, ◌+◌, ◌-◌, ◌<◌, ◌≤◌, List, [], ◌++◌, length, take, drop, get_or, replicate, refl, sym, ◌∙◌, ap, subst, arith, length-append, length-drop}
use Rattle.std.specs.Prelude.{Option, Some, None}
use Rattle.std.proofs.lemmas.List.{append-nil, take-take, drop-take, take_all, take_at, drop_at, length-take-le, length-replicate, take-replicate, drop-replicate, replicate-append-replicate, get_or-take, get_or-drop, get_or_append_left, get_or-append_right}
use Rattle.std.proofs.lemmas.Bool.{cases_lt}
use Rattle.dev_api.specs.Disk.{Disk, IsImage, Outside, HasSize, put, wrote, wrote_in_part, settled}
use Rattle.dev_api.proofs.Put.{length-put, put_front, put_here, same_front, drop_past}
use Rattle.ring_frame.specs.Heads.{Head, head_in, head_of, head_block, newer}
use Rattle.ring_images.specs.Headers.{IsSize}
use Rattle.ring_images.proofs.Headers.{head_zeros}
use Rattle.ring_images.specs.Held.{EachSound, Left, HeadOf, Leaves, ring_of, readable}
use Rattle.ring_images.proofs.Crash.{each_settled, each_weaker, is_read}
use Rattle.ring_journal.specs.State.{made, first_head}
use Rattle.ring_journal.specs.Making.{WrittenIn, Remains, LeavesMaking}
use Rattle.ring_images.specs.Turned.{turned}
use Rattle.ring_images.proofs.Linear.{next_none, read_once}
use Rattle.ring_images.specs.Readable.{EndsAt}
use Rattle.ring_frame.proofs.HeadFacts.{length-head_block}
use Rattle.ring_journal.proofs.Founds.{head_of_made, left_made, first_back, clean_made}

-- ---- where was written

pub written_self : (from to : ℕ) (d : Disk) → WrittenIn from to d d
written_self from to d = record { stable = refl; aside = λ i side out. out }

aside_of : (from to at n i : ℕ) → from ≤ at → at + n ≤ to → (i < from) ⊎ (to ≤ i) → (i < at) ⊎ (at + n ≤ i)
aside_of from to at n i low high side = ⊎_elim (λ (lt : i < from). inl (omega (arith, lt, low))) (λ (le : to ≤ i). inr (omega (arith, le, high))) side

pub written_wrote : (from to at : ℕ) (bytes : List ℕ) (old d : Disk) → from ≤ at → at + length bytes ≤ to → WrittenIn from to old d → WrittenIn from to old (wrote d at bytes)
written_wrote from to at bytes old d low high w =
    record { stable = w.stable; aside = λ i side out. (aside_of from to at (length bytes) i low high side, w.aside i side out) }

pub written_part : (from to at : ℕ) (bytes r : List ℕ) (old d : Disk) → from ≤ at → at + length bytes ≤ to → WrittenIn from to old d → WrittenIn from to old (wrote_in_part d at bytes r)
written_part from to at bytes r old d low high w =
    record { stable = w.stable; aside = λ i side out. (aside_of from to at (length bytes) i low high side, w.aside i side out) }

pub written_then : (from at to : ℕ) (old d e : Disk) → from ≤ at → WrittenIn from to old d → WrittenIn at to d e → WrittenIn from to old e
written_then from at to old d e le one two =
    record {
      stable = two.stable ∙ one.stable;
      aside = λ i side out. two.aside i (⊎_elim (λ (lt : i < from). inl (omega (arith, lt, le))) (λ (past : to ≤ i). inr past) side) (one.aside i side out);
    }

-- ---- zeros

-- zeros up to a place and from there on
pub zeros_more : (reads bytes : List ℕ) (at n : ℕ) → at + n ≤ length reads → bytes ≡ replicate n 0 → take (at + n) (put reads at bytes) ≡ take at reads ++ replicate n 0
zeros_more reads bytes at n fits is =
    let lb : length bytes ≡ n = ap length is ∙ length-replicate {A = ℕ} n 0 in
    let lt : length (take at reads) ≡ at = length-take-le at reads (omega (arith, fits)) in
    take_at (take at reads ++ bytes) (drop (at + length bytes) reads) (at + n) (omega (arith, length-append (take at reads) bytes, lt, lb)) ∙ ap (λ (l : List ℕ). take at reads ++ l) is

pub zeros_then : (first mid last : List ℕ) (a b : ℕ) → last ≡ mid ++ replicate b 0 → mid ≡ first ++ replicate a 0 → last ≡ first ++ replicate (a + b) 0
zeros_then first mid last a b two one =
    two ∙ ap (λ (l : List ℕ). l ++ replicate b 0) one ∙ Rattle.std.proofs.Common.append_assoc first (replicate a 0) (replicate b 0) ∙ ap (λ (l : List ℕ). first ++ l) (replicate-append-replicate a b 0)

-- the headers' blocks after they were wiped
pub heads_wiped : (reads : List ℕ) → 8192 ≤ length reads → take 8192 (put reads 0 (replicate 8192 0)) ≡ replicate 8192 0
heads_wiped reads long =
    let l : length {A = ℕ} (replicate 8192 0) ≡ 8192 = length-replicate {A = ℕ} 8192 0 in
    take_at (replicate 8192 0) (drop (0 + length {A = ℕ} (replicate 8192 0)) reads) 8192 l

pub whole_wiped : (heads reads : List ℕ) (size : ℕ) → length reads ≡ size → 8192 ≤ size → take 8192 heads ≡ replicate 8192 0 → take size reads ≡ take 8192 heads ++ replicate (size - 8192) 0 → reads ≡ replicate size 0
whole_wiped heads reads size l big front all =
    sym (take_all size reads (omega (arith, l))) ∙ all ∙ ap (λ (x : List ℕ). x ++ replicate (size - 8192) 0) front ∙ replicate-append-replicate 8192 (size - 8192) 0
    ∙ ap (λ (n : ℕ). replicate n 0) (let e : 8192 + (size - 8192) ≡ size = omega (arith, big) in e)

-- no header counts in zeros
pub none_front : (bytes : List ℕ) → take 8192 bytes ≡ replicate 8192 0 → head_of bytes ≡ None
unfolding head_of
none_front bytes front =
    let a : take 4096 bytes ≡ replicate 4096 0 = sym (take-take 4096 8192 bytes (omega arith)) ∙ ap (take 4096) front ∙ take-replicate 4096 8192 0 (omega arith) in
    let b : take 4096 (drop 4096 bytes) ≡ replicate 4096 0 = sym (drop-take 4096 4096 bytes) ∙ ap (drop 4096) front ∙ drop-replicate 4096 8192 0 in
    ap (λ (x : List ℕ). newer (head_in (length bytes) x) (head_in (length bytes) (take 4096 (drop 4096 bytes)))) a
    ∙ ap (λ (x : List ℕ). newer (head_in (length bytes) (replicate 4096 0)) (head_in (length bytes) x)) b
    ∙ ap (λ (o : Option Head). newer o (head_in (length bytes) (replicate 4096 0))) (head_zeros (length bytes) 4096)
    ∙ head_zeros (length bytes) 4096

-- a made ring's blocks are no zeros
pub made_front : (fsid : List ℕ) (size : ℕ) → length fsid ≡ 16 → IsSize size → take 8192 (made fsid size) ≢ replicate 8192 0
made_front fsid size l i e =
    let none : head_of (made fsid size) ≡ None = none_front (made fsid size) e in
    let some = head_of_made fsid size l i in
    absurd (cc)

-- ---- what is left

pub making_before : (d : Disk) (h : Head) → LeavesMaking d h d
making_before d h c image sound = inr (inr (record { ring = (c, image, refl); first = sound.first; second = sound.second }))

no_head : (size n : ℕ) (block : List ℕ) (h : Head) → block ≡ replicate n 0 → head_in size block ≡ Some h → ⊥
no_head size n block h is e = let z = sym e ∙ ap (head_in size) is ∙ head_zeros size n in absurd (cc)

-- zeros are written over the headers' blocks
pub making_heads : (d : Disk) (h : Head) (size : ℕ) → HasSize size d → 8192 ≤ size → LeavesMaking d h (wrote d 0 (replicate 8192 0))
making_heads d h size sized big c image sound =
    let s = sized.stable in
    let z : length {A = ℕ} (replicate 8192 0) ≡ 8192 = length-replicate {A = ℕ} 8192 0 in
    let l : length c ≡ size = image.size ∙ s in
    let front : List ℕ = take 8192 d.stable in
    let lf : length front ≡ 8192 = length-take-le 8192 d.stable (omega (arith, s, big)) in
    let b : List ℕ = front ++ drop 8192 c in
    let lb : length b ≡ length d.stable = omega (arith, length-append front (drop 8192 c), lf, length-drop 8192 c, l, s, big) in
    let asked : take 8192 (put d.asked 0 (replicate 8192 0)) ≡ replicate 8192 0 = heads_wiped d.asked (omega (arith, sized.asked, big)) in
    let A = put d.asked 0 (replicate 8192 0) in
    let slot0 : take 4096 (drop 0 A) ≡ replicate 4096 0 = sym (take-take 4096 8192 A (omega arith)) ∙ ap (take 4096) asked ∙ take-replicate 4096 8192 0 (omega arith) in
    let slot1 : take 4096 (drop 4096 A) ≡ replicate 4096 0 = sym (drop-take 4096 4096 A) ∙ ap (drop 4096) asked ∙ drop-replicate 4096 8192 0 in
    inr (inr (record {
      ring = (
        b,
        record {
          size = lb;
          same = λ i lt out. ⊎_elim
              (λ (low : i < 8192). get_or_append_left front (drop 8192 c) 0 i (omega (arith, lf, low)) ∙ get_or-take 8192 d.stable i 0 low)
              (λ (high : 8192 ≤ i).
              get_or-append_right front (drop 8192 c) 8192 i 0 lf high ∙ get_or-drop 8192 c (i - 8192) 0
              ∙ ap (λ (k : ℕ). get_or c k 0) (let e : 8192 + (i - 8192) ≡ i = omega (arith, high) in e)
              ∙ image.same i lt (inr (omega (arith, z, high)), out))
              (cases_lt i 8192);
        },
        sym (drop_at front (drop 8192 c) 8192 lf),
      );
      first = λ k e. ⊎_elim (λ w. inl w) (λ w. absurd (no_head (length c) 4096 (take 4096 (drop 0 A)) k slot0 w)) (sound.first k e);
      second = λ k e. ⊎_elim (λ w. inl w) (λ w. absurd (no_head (length c) 4096 (take 4096 (drop 4096 A)) k slot1 w)) (sound.second k e);
    }))

pub making_none : (d : Disk) (h : Head) (bytes : List ℕ) → take 8192 bytes ≡ replicate 8192 0 → LeavesMaking d h (settled bytes)
making_none d h bytes front = each_settled (λ (c : List ℕ). (head_of c ≡ None) ⊎ (Left h [] [] c ⊎ Remains d c)) bytes (inl (none_front bytes front))

-- and behind them, where no block of theirs is written
pub making_behind : (d e : Disk) (h : Head) (bytes : List ℕ) (size : ℕ) → length bytes ≡ size → 8192 ≤ size → take 8192 bytes ≡ replicate 8192 0 → WrittenIn 8192 size (settled bytes) e → LeavesMaking d h e
making_behind d e h bytes size l big front w c image sound =
    let s : length e.stable ≡ size = ap length w.stable ∙ l in
    let same : take 8192 c ≡ take 8192 e.stable =
    same_front 8192 c e.stable (omega (arith, image.size, s, big)) (omega (arith, s, big)) (λ i lt. image.same i (omega (arith, s, lt, big)) (w.aside i (inl lt) tt)) in
    inl (none_front c (same ∙ ap (take 8192) w.stable ∙ front))

-- the header's write
pub making_header : (d : Disk) (fsid : List ℕ) (size : ℕ) → length fsid ≡ 16 → IsSize size → LeavesMaking d (first_head fsid size) (settled (made fsid size))
making_header d fsid size l i =
    each_weaker (Left (first_head fsid size) [] []) (λ (c : List ℕ). (head_of c ≡ None) ⊎ (Left (first_head fsid size) [] [] c ⊎ Remains d c)) (λ c x. inr (inl x)) (settled (made fsid size)) (left_made fsid size l i)

one_head : (size : ℕ) (block : List ℕ) (h k : Head) → head_in size block ≡ Some h → head_in size block ≡ Some k → k ≡ h
one_head size block h k a b = cc

module _ (d : Disk) (fsid : List ℕ) (size : ℕ) (l : length fsid ≡ 16) (i : IsSize size) where
  abbrev first : Head
  first = first_head fsid size

  abbrev block : List ℕ
  block = head_block (first_head fsid size)

  abbrev zeros : List ℕ
  zeros = replicate size 0

  abbrev now : Disk
  now = wrote (settled (replicate size 0)) 4096 (head_block (first_head fsid size))

  short : length block ≡ 4096
  short = length-head_block first l

  long : length {A = ℕ} (replicate size 0) ≡ size
  long = length-replicate {A = ℕ} size 0

  block_fits : 4096 + length block ≤ length zeros
  block_fits = omega (arith, short, long, i.least)

  -- an image of the header's write
  module _ (c : List ℕ) (image : IsImage now c) where
    long_c : length c ≡ size
    long_c = image.size ∙ long

    front_zeros : take 4096 c ≡ replicate 4096 0
    front_zeros =
        same_front 4096 c zeros (omega (arith, long_c, i.least)) (omega (arith, long, i.least)) (λ k lt. image.same k (omega (arith, long, lt, i.least)) (inl (omega (arith, lt)), tt))
        ∙ take-replicate 4096 size 0 (omega (arith, i.least))

    ring_zeros : drop 8192 c ≡ drop 8192 zeros
    ring_zeros =
        let lc = length-drop 8192 c in
        let lz = length-drop 8192 zeros in
        Rattle.std.proofs.lemmas.List.ext_get_or 0 (drop 8192 c) (drop 8192 zeros) (omega (arith, lc, lz, long_c, long))
        (λ k lt.
        get_or-drop 8192 c k 0 ∙ image.same (8192 + k) (omega (arith, lt, lc, long_c, long)) (inr (omega (arith, short)), tt) ∙ sym (get_or-drop 8192 zeros k 0))

    ring_made : turned 8192 c ≡ turned 8192 (made fsid size)
    ring_made =
        let past : drop 8192 (made fsid size) ≡ drop 8192 zeros =
        ap (λ (n : ℕ). drop n (made fsid size)) (let e : 8192 ≡ 4096 + length block = omega (arith, short) in e) ∙ drop_past zeros 4096 block block_fits
        ∙ ap (λ (n : ℕ). drop n zeros) (let e : 4096 + length block ≡ 8192 = omega (arith, short) in e) in
        ap (λ (x : List ℕ). x ++ take (8192 - 8192) x) (ring_zeros ∙ sym past)

    by_second : (o : Option Head) → head_in (length c) (take 4096 (drop 4096 c)) ≡ o → HeadOf (length c) 4096 now c → (head_of c ≡ None) ⊎ (Left first [] [] c ⊎ Remains d c)
    unfolding head_of
    by_second None e fair =
        inl (ap (λ (x : List ℕ). newer (head_in (length c) x) (head_in (length c) (take 4096 (drop 4096 c)))) front_zeros
        ∙ ap (λ (x : Option Head). newer x (head_in (length c) (take 4096 (drop 4096 c)))) (head_zeros (length c) 4096) ∙ e)
    by_second (Some k) e fair =
        let back : head_in size block ≡ Some first = first_back fsid size l i in
        let here : take 4096 (drop 4096 (put zeros 4096 block)) ≡ block = ap (λ (n : ℕ). take n (drop 4096 (put zeros 4096 block))) (sym short) ∙ put_here zeros 4096 block block_fits in
        let slot1 : take 4096 (drop 4096 zeros) ≡ replicate 4096 0 = ap (take 4096) (drop-replicate 4096 size 0) ∙ take-replicate 4096 (size - 4096) 0 (omega (arith, i.least)) in
        let is : k ≡ first = ⊎_elim
        (λ (w : head_in (length c) (take 4096 (drop 4096 zeros)) ≡ Some k). absurd (no_head (length c) 4096 (take 4096 (drop 4096 zeros)) k slot1 w))
        (λ (w : head_in (length c) (take 4096 (drop 4096 (put zeros 4096 block))) ≡ Some k).
        one_head size block first k back (sym (ap (λ (n : ℕ). head_in n block) long_c) ∙ ap (head_in (length c)) (sym here) ∙ w))
        (fair k e) in
        let header : head_of c ≡ Some first =
        ap (λ (x : List ℕ). newer (head_in (length c) x) (head_in (length c) (take 4096 (drop 4096 c)))) front_zeros
        ∙ ap (λ (x : Option Head). newer x (head_in (length c) (take 4096 (drop 4096 c)))) (head_zeros (length c) 4096) ∙ e ∙ ap Some is in
        let ends : EndsAt (turned 8192 c) = λ m. clean_made fsid size l i 0 (ap (take 8) (sym ring_made) ∙ m) in
        let none : readable c ≡ [] =
        read_once (ring_of first size) 0 1 0 (turned 8192 c) (readable c) [] (is_read c first size header long_c (omega arith) (omega (arith, i.least)))
        (next_none (ring_of first size) 0 1 0 (turned 8192 c) ends) in
        inr (inl (record { header = header; has = (readable c, refl); within = ([], sym (append-nil (readable c) ∙ none)) }))

  pub making_wrote : LeavesMaking d (first_head fsid size) (wrote (settled (replicate size 0)) 4096 (head_block (first_head fsid size)))
  making_wrote c image sound = by_second c image (head_in (length c) (take 4096 (drop 4096 c))) refl sound.second
