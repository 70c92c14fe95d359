-- What a crash leaves of a ring.
use Rattle.std.proofs.Common.{◌≡◌, ℕ, ◌+◌, ◌-◌, ◌≤◌, List, [], ◌∷◌, ◌++◌, length, take, drop, get_or, sym, ◌∙◌, ap, subst, arith, length-append, append_assoc}
use Rattle.std.specs.Prelude.{Option, Some}
use Rattle.std.proofs.lemmas.List.{take-take, drop-take, append-nil, nil_from_length}
use Rattle.dev_api.specs.Disk.{Disk, IsImage, wrote, wrote_in_part, settled, reading}
use Rattle.dev_api.proofs.Images.{settled_image}
use Rattle.dev_api.proofs.Put.{same_front}
use Rattle.ring_frame.specs.Frame.{Entry}
use Rattle.ring_frame.specs.Heads.{Head, head_in, head_of, newer}
use Rattle.ring_images.specs.Readable.{IsRead, NoChance, read_from, sizes, Begins}
use Rattle.ring_images.specs.Turned.{turned, place_of}
use Rattle.ring_images.proofs.Turned.{turned_at, length-turned, place_fits}
use Rattle.ring_images.proofs.Linear.{after_crash, read_is, read_once, stand_read, sizes-append}
use Rattle.ring_images.specs.Held.{ring_of, read_under, readable, OnDisk, Left, EachSound, Leaves}

-- the header depends on the first two blocks
pub head_same : (xs ys : List ℕ) → length xs ≡ length ys → take 8192 xs ≡ take 8192 ys → head_of xs ≡ head_of ys
unfolding head_of
head_same xs ys l e =
    let a : take 4096 xs ≡ take 4096 ys = sym (take-take 4096 8192 xs (omega arith)) ∙ ap (take 4096) e ∙ take-take 4096 8192 ys (omega arith) in
    let b : take 4096 (drop 4096 xs) ≡ take 4096 (drop 4096 ys) = sym (drop-take 4096 4096 xs) ∙ ap (drop 4096) e ∙ drop-take 4096 4096 ys in
    ap (λ (n : ℕ). newer (head_in n (take 4096 xs)) (head_in n (take 4096 (drop 4096 xs)))) l
    ∙ ap (λ (p : List ℕ). newer (head_in (length ys) p) (head_in (length ys) (take 4096 (drop 4096 xs)))) a
    ∙ ap (λ (p : List ℕ). newer (head_in (length ys) (take 4096 ys)) (head_in (length ys) p)) b

pub readable_at : (bytes : List ℕ) (h : Head) (size : ℕ) → head_of bytes ≡ Some h → length bytes ≡ size → readable bytes ≡ read_from size (ring_of h size) 0 h.seq 0 (turned h.start bytes)
unfolding readable
readable_at bytes h size e l = ap (λ (o : Option Head). read_under o bytes) e ∙ ap (λ (n : ℕ). read_from n (ring_of h n) 0 h.seq 0 (turned h.start bytes)) l

-- what is read under a header
pub is_read : (bytes : List ℕ) (h : Head) (size : ℕ) → head_of bytes ≡ Some h → length bytes ≡ size → 8192 ≤ h.start → h.start ≤ size → IsRead (ring_of h size) 0 h.seq 0 (turned h.start bytes) (readable bytes)
is_read bytes h size e l low high =
    let P : List Entry → Type 0 = IsRead (ring_of h size) 0 h.seq 0 (turned h.start bytes) in
    subst P (sym (readable_at bytes h size e l)) (read_is size (ring_of h size) 0 h.seq 0 (turned h.start bytes) (omega (arith, length-turned h.start bytes low (omega arith), l)))

module _ (h : Head) (size : ℕ) (fs es : List Entry) (d : Disk) (on : OnDisk h size fs es d) where
  image_header : (c : List ℕ) → IsImage d c → head_of c ≡ Some h
  image_header c image =
      let s = on.sized.stable in
      head_same c d.stable image.size
      (same_front 8192 c d.stable (omega (arith, image.size, s, on.low, on.high)) (omega (arith, s, on.low, on.high)) (λ i lt. image.same i (omega (arith, s, on.low, on.high)) (on.aside i lt)))
      ∙ on.header

  image_front : (c : List ℕ) → IsImage d c → take (sizes fs) (turned h.start c) ≡ take (sizes fs) (turned h.start d.stable)
  image_front c image =
      let s = on.sized.stable in
      let r : sizes fs ≤ size - 8192 = omega (arith, on.room, sizes-append fs es) in
      let long_c = length-turned h.start c on.low (omega (arith, image.size, s, on.high)) in
      let long_s = length-turned h.start d.stable on.low (omega (arith, s, on.high)) in
      same_front (sizes fs) (turned h.start c) (turned h.start d.stable) (omega (arith, long_c, image.size, s)) (omega (arith, long_s, s))
      (λ i lt.
      turned_at h.start c i on.low (omega (arith, image.size, s, on.high)) (omega (arith, image.size, s))
      ∙ ap (λ (n : ℕ). get_or c (place_of n h.start i) 0) (image.size ∙ s)
      ∙ image.same (place_of size h.start i) (omega (arith, s, place_fits size h.start i on.low on.high (omega arith))) (on.apart i lt)
      ∙ sym (turned_at h.start d.stable i on.low (omega (arith, s, on.high)) (omega (arith, s)) ∙ ap (λ (n : ℕ). get_or d.stable (place_of n h.start i) 0) s))

  -- Each sound image has all the synced entries, and a front of the others.
  pub crash : Leaves h fs (fs ++ es) d
  crash c image sound =
      let l : length c ≡ size = image.size ∙ on.sized.stable in
      let head = image_header c image in
      let fair = subst (λ (n : ℕ). NoChance (ring_of h n) 0 (turned h.start d.stable) (turned h.start d.asked) (turned h.start c) (readable c)) l (sound.entries h head) in
      let r = after_crash (ring_of h size) 0 h.seq 0 fs es (readable c) (turned h.start d.stable) (turned h.start d.asked) (turned h.start c)
      on.synced (image_front c image) on.stand on.clean on.ends (is_read c h size head l on.low on.high) fair in
      record { header = head; has = r.0; within = r.1 }

  -- and the device as asked has them all
  pub readable_now : readable d.asked ≡ fs ++ es
  readable_now =
      read_once (ring_of h size) 0 h.seq 0 (turned h.start d.asked) _ _ (is_read d.asked h size on.header_now on.sized.asked on.low on.high)
      (stand_read (ring_of h size) 0 h.seq 0 (turned h.start d.asked) (fs ++ es) on.stand on.ends)

  pub readable_synced : readable d.stable ≡ fs
  readable_synced =
      read_once (ring_of h size) 0 h.seq 0 (turned h.start d.stable) _ _ (is_read d.stable h size on.header on.sized.stable on.low on.high)
      (stand_read (ring_of h size) 0 h.seq 0 (turned h.start d.stable) fs on.synced (λ e. on.clean 0 e))

-- ---- how the device reads doesn't count

pub each_in_part : (P : List ℕ → Type 0) (d : Disk) (at : ℕ) (bs r : List ℕ) → EachSound P (wrote d at bs) → EachSound P (wrote_in_part d at bs r)
each_in_part P d at bs r h c image sound =
    h c (record { size = image.size; same = image.same }) (record { first = sound.first; second = sound.second; entries = sound.entries })

pub each_reading : (P : List ℕ → Type 0) (d : Disk) (r : List ℕ) → EachSound P d → EachSound P (reading d r)
each_reading P d r h c image sound =
    h c (record { size = image.size; same = image.same }) (record { first = sound.first; second = sound.second; entries = sound.entries })

pub each_weaker : (P Q : List ℕ → Type 0) → ((c : List ℕ) → P c → Q c) → (d : Disk) → EachSound P d → EachSound Q d
each_weaker P Q f d h c image sound = f c (h c image sound)

-- nor does a content that is settled leave anything else than its bytes
pub each_settled : (P : List ℕ → Type 0) (bytes : List ℕ) → P bytes → EachSound P (settled bytes)
each_settled P bytes h c image sound = subst P (sym (settled_image bytes c image)) h

-- ---- what is left, by lists that are equal

pub left_named : (h : Head) (fs all xs ys : List Entry) (c : List ℕ) → xs ≡ fs → ys ≡ all → Left h fs all c → Left h xs ys c
left_named h fs all xs ys c e k l = subst (λ (x : List Entry). Left h x ys c) (sym e) (subst (λ (x : List Entry). Left h fs x c) (sym k) l)

pub left_more : (h : Head) (fs all : List Entry) (e : Entry) (c : List ℕ) → Left h fs all c → Left h fs (all ++ e ∷ []) c
left_more h fs all e c l =
    record { header = l.header; has = l.has; within = (l.within.0 ++ e ∷ [], ap (λ (x : List Entry). x ++ e ∷ []) l.within.1 ∙ append_assoc (readable c) l.within.0 (e ∷ [])) }

-- all of a list are between fewer and more
pub left_between : (h : Head) (fs es : List Entry) (c : List ℕ) → Left h (fs ++ es) (fs ++ es) c → Left h fs (fs ++ es) c
left_between h fs es c l =
    record { header = l.header; has = (es ++ l.has.0, l.has.1 ∙ append_assoc fs es l.has.0); within = l.within }

both_begin : (xs ys : List Entry) → Begins xs ys → Begins ys xs → ys ≡ xs
both_begin xs ys (a, e) (b, k) =
    let n : length ys ≡ length xs + length a = ap length e ∙ length-append xs a in
    let m : length xs ≡ length ys + length b = ap length k ∙ length-append ys b in
    let z : length a ≡ 0 = omega (arith, n, m) in
    e ∙ ap (λ (l : List Entry). xs ++ l) (nil_from_length a z) ∙ append-nil xs

-- just these
pub left_all : (h : Head) (fs : List Entry) (c : List ℕ) → Left h fs fs c → readable c ≡ fs
left_all h fs c l = both_begin fs (readable c) l.has l.within

pub left_just : (h : Head) (c : List ℕ) → head_of c ≡ Some h → Left h (readable c) (readable c) c
left_just h c e = record { header = e; has = ([], sym (append-nil (readable c))); within = ([], sym (append-nil (readable c))) }
