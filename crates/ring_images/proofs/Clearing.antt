-- Zeros over the free space of a ring, all of whose entries are synced, leave what is read.
use Rattle.std.proofs.Common.{◌≡◌, ◌⊎◌, inl, ⊎_elim, ℕ, ◌-◌, ◌≤◌, List, [], length, take, drop, get_or, sym, ◌∙◌, ap, subst, arith}
use Rattle.std.specs.Prelude.{Some}
use Rattle.std.proofs.lemmas.List.{append-nil}
use Rattle.dev_api.specs.Disk.{Disk, put, wrote}
use Rattle.ring_frame.specs.Frame.{Entry}
use Rattle.ring_frame.specs.Heads.{Head, head_of}
use Rattle.ring_images.specs.Readable.{IsRead, EndsAt, NoChance, sizes, Begins}
use Rattle.ring_images.specs.Turned.{turned, place_of}
use Rattle.ring_images.proofs.Turned.{length-turned, turned_put_at, turned_at, place_fits}
use Rattle.ring_images.specs.Append.{Away, Along, Piece}
use Rattle.ring_images.proofs.Linear.{stand_same, stand_read}
use Rattle.ring_images.proofs.Silent.{after_crash_silent}
use Rattle.ring_images.specs.Held.{ring_of, readable, Leaves}
use Rattle.ring_images.proofs.Crash.{head_same, is_read}
use Rattle.dev_api.proofs.Put.{length-put, put_front, same_front}
use Rattle.ring_images.specs.Cleaning.{Quiet}

-- each sound image reads as those entries
pub quiet_crash : (h : Head) (size : ℕ) (fs : List Entry) (d : Disk) → Quiet h size fs d → Leaves h fs fs d
quiet_crash h size fs d q c image sound =
    let s = q.sized.stable in
    let l : length c ≡ size = image.size ∙ s in
    let head : head_of c ≡ Some h = head_same c d.stable image.size
    (same_front 8192 c d.stable (omega (arith, l, q.low, q.high)) (omega (arith, s, q.low, q.high)) (λ i lt. image.same i (omega (arith, s, q.low, q.high)) (q.aside i lt))) ∙ q.header in
    let long_c = length-turned h.start c q.low (omega (arith, l, q.high)) in
    let long_s = length-turned h.start d.stable q.low (omega (arith, s, q.high)) in
    let front = same_front (sizes fs) (turned h.start c) (turned h.start d.stable) (omega (arith, long_c, l, q.room)) (omega (arith, long_s, s, q.room))
    (λ i lt.
    turned_at h.start c i q.low (omega (arith, l, q.high)) (omega (arith, l, q.room))
    ∙ ap (λ (n : ℕ). get_or c (place_of n h.start i) 0) l
    ∙ image.same (place_of size h.start i) (omega (arith, s, place_fits size h.start i q.low q.high (omega (arith, q.room)))) (q.apart i lt)
    ∙ sym (turned_at h.start d.stable i q.low (omega (arith, s, q.high)) (omega (arith, s, q.room)) ∙ ap (λ (n : ℕ). get_or d.stable (place_of n h.start i) 0) s)) in
    let fair = subst (λ (n : ℕ). NoChance (ring_of h n) 0 (turned h.start d.stable) (turned h.start d.asked) (turned h.start c) (readable c)) l (sound.entries h head) in
    let read = subst (λ (x : List Entry). IsRead (ring_of h size) 0 h.seq 0 (turned h.start d.asked) x) (sym (append-nil fs)) q.now in
    let r = after_crash_silent (ring_of h size) 0 h.seq 0 fs [] (readable c) (turned h.start d.stable) (turned h.start d.asked) (turned h.start c) q.before front read (is_read c h size head l q.low q.high) fair in
    record { header = head; has = r.0; within = subst (λ (x : List Entry). Begins (readable c) x) (append-nil fs) r.1 }

module _ (h : Head) (size : ℕ) (fs : List Entry) (d : Disk) (q : Quiet h size fs d) (at off : ℕ) (bs : List ℕ) (piece : Piece size h.start at off (length bs)) (behind : sizes fs ≤ off) where
  pub turns : turned h.start (put d.asked at bs) ≡ put (turned h.start d.asked) off bs
  turns =
      let a = q.sized.asked in
      turned_put_at h.start d.asked at off bs q.low (omega (arith, a, q.high)) (omega (arith, a, piece.fits)) (omega (arith, a, piece.room))
      (λ i lt. subst (λ (n : ℕ). Away at off (length bs) (place_of n h.start i) i ⊎ Along at off (length bs) (place_of n h.start i) i) (sym a) (piece.each i (omega (arith, lt, a))))

  -- where the first free block then begins no entry, all is as it was
  pub cleared : EndsAt (drop (sizes fs) (put (turned h.start d.asked) off bs)) → Quiet h size fs (wrote d at bs)
  cleared ends =
      let a = q.sized.asked in
      let r = q.sized.reads in
      let la = length-put d.asked at bs (omega (arith, a, piece.fits)) in
      let lr = length-put d.reads at bs (omega (arith, r, piece.fits)) in
      let long = length-turned h.start d.asked q.low (omega (arith, a, q.high)) in
      let front : take (sizes fs) (turned h.start d.asked) ≡ take (sizes fs) (turned h.start (put d.asked at bs)) =
      sym (ap (take (sizes fs)) turns ∙ put_front (sizes fs) (turned h.start d.asked) off bs behind (omega (arith, long, a, piece.room))) in
      let stands = stand_same (ring_of h size) 0 h.seq 0 (turned h.start d.asked) (turned h.start (put d.asked at bs)) fs front q.stand in
      record {
        sized = record { stable = q.sized.stable; asked = la ∙ a; reads = lr ∙ r };
        low = q.low;
        high = q.high;
        header = q.header;
        header_now = head_same (put d.asked at bs) d.asked la (put_front 8192 d.asked at bs piece.behind (omega (arith, a, piece.fits))) ∙ q.header_now;
        aside = λ i lt. (inl (omega (arith, piece.behind, lt)), q.aside i lt);
        apart = λ i lt. (
          ⊎_elim
              (λ (w : Away at off (length bs) (place_of size h.start i) i). w.there)
              (λ (w : Along at off (length bs) (place_of size h.start i) i). absurd (omega (arith, w.from, behind, lt)))
              (piece.each i (omega (arith, q.room, lt))),
          q.apart i lt,
        );
        room = q.room;
        before = q.before;
        stand = stands;
        now = stand_read (ring_of h size) 0 h.seq 0 (turned h.start (put d.asked at bs)) fs stands (subst (λ (l : List ℕ). EndsAt (drop (sizes fs) l)) (sym turns) ends);
      }
