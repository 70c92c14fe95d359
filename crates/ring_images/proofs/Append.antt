-- What the writes of an append leave.
use Rattle.std.proofs.Common.{◌≡◌, ◌⊎◌, inl, ⊎_elim, ℕ, ◌+◌, ◌-◌, ◌<◌, ◌≤◌, List, [], ◌∷◌, ◌++◌, length, take, drop, refl, sym, ◌∙◌, ap, subst, arith, append_assoc}
use Rattle.std.specs.Prelude.{Some}
use Rattle.std.proofs.lemmas.List.{drop-drop, drop-take, append-nil}
use Rattle.dev_api.specs.Disk.{Disk, HasSize, Outside, put, wrote, settled}
use Rattle.ring_frame.specs.Frame.{Entry, entry, size_of}
use Rattle.ring_frame.proofs.Facts.{entry-spelled, length-spelled}
use Rattle.ring_frame.specs.Heads.{Head, head_of}
use Rattle.ring_images.specs.Readable.{Stand, IsClean, sizes}
use Rattle.dev_api.proofs.Put.{length-put, put_front, drop_put, drop_past, put_pieces}
use Rattle.ring_images.specs.Turned.{turned, place_of}
use Rattle.ring_images.proofs.Turned.{length-turned, turned_put_at, at_high, at_low}
use Rattle.ring_images.specs.Append.{Away, Along, Piece, Next, bytes_of}
use Rattle.ring_images.proofs.Linear.{stand_same, stand_more, sizes-append, clean_drop}
use Rattle.ring_images.specs.Held.{ring_of, OnDisk, Ready}
use Rattle.ring_images.proofs.Crash.{head_same}

pub piece_high : (size start off n : ℕ) → 8192 ≤ start → start ≤ size → off + n ≤ size - start → Piece size start (start + off) off n
piece_high size start off n low high h =
    record { behind = omega arith; fits = omega arith; room = omega arith; each = λ i lt. at_high size start off n i low high h lt }

pub piece_low : (size start off n : ℕ) → 8192 ≤ start → start ≤ size → size - start ≤ off → off + n ≤ size - 8192 → Piece size start (8192 + (off - (size - start))) off n
piece_low size start off n low high from to =
    record { behind = omega arith; fits = omega arith; room = to; each = λ i lt. at_low size start off n i low high from to lt }

module _ (h : Head) (size : ℕ) (fs es : List Entry) where
  -- what a write behind the entries that are held leaves as it was
  pub record Beside (d : Disk) (at off : ℕ) (bs : List ℕ) : Type 0 where
    pub sized : HasSize size (wrote d at bs)
    pub header_now : head_of (put d.asked at bs) ≡ Some h
    pub aside : (i : ℕ) → i < 8192 → Outside ((at, length bs) ∷ d.written) i
    pub apart : (i : ℕ) → i < sizes fs → Outside ((at, length bs) ∷ d.written) (place_of size h.start i)
    pub turns : turned h.start (put d.asked at bs) ≡ put (turned h.start d.asked) off bs

  pub beside : (d : Disk) (at off : ℕ) (bs : List ℕ) → OnDisk h size fs es d → Piece size h.start at off (length bs) → sizes (fs ++ es) ≤ off → Beside d at off bs
  beside d at off bs on piece le =
      let a = on.sized.asked in
      let s = on.sized.stable in
      let r = on.sized.reads in
      let low = on.low in
      let high = on.high in
      let la = length-put d.asked at bs (omega (arith, a, piece.fits)) in
      let lr = length-put d.reads at bs (omega (arith, r, piece.fits)) in
      let heads : take 8192 (put d.asked at bs) ≡ take 8192 d.asked = put_front 8192 d.asked at bs piece.behind (omega (arith, a, piece.fits)) in
      let room = piece.room in
      record {
        sized = record { stable = s; asked = la ∙ a; reads = lr ∙ r };
        header_now = head_same (put d.asked at bs) d.asked la heads ∙ on.header_now;
        aside = λ i lt. (inl (omega (arith, piece.behind, lt)), on.aside i lt);
        apart = λ i lt.
            let ilt : i < size - 8192 = omega (arith, on.room, sizes-append fs es) in (
              ⊎_elim
                  (λ (w : Away at off (length bs) (place_of size h.start i) i). w.there)
                  (λ (w : Along at off (length bs) (place_of size h.start i) i). absurd (omega (arith, w.from, le, lt, sizes-append fs es)))
                  (piece.each i ilt),
              on.apart i lt,
            );
        turns = turned_put_at h.start d.asked at off bs low (omega arith) (omega (arith, piece.fits)) (omega arith)
            (λ i lt. subst (λ (n : ℕ). Away at off (length bs) (place_of n h.start i) i ⊎ Along at off (length bs) (place_of n h.start i) i) (sym a) (piece.each i (omega (arith, lt, a))));
      }

  -- The rest of an entry, written first where it lies behind the wrap: the ring holds what it held.
  pub rest_first : (d : Disk) (at off : ℕ) (bs : List ℕ) → OnDisk h size fs es d → Piece size h.start at off (length bs) → sizes (fs ++ es) + 8 ≤ off → OnDisk h size fs es (wrote d at bs)
  rest_first d at off bs on piece le =
      let b = beside d at off bs on piece (omega arith) in
      let T = turned h.start d.asked in
      let n = sizes (fs ++ es) in
      let long = length-turned h.start d.asked on.low (omega (arith, on.sized.asked, on.high)) in
      let fits : off + length bs ≤ length T = omega (arith, long, piece.room, on.sized.asked) in
      let stands : take n T ≡ take n (turned h.start (put d.asked at bs)) = sym (ap (take n) b.turns ∙ put_front n T off bs (omega arith) fits) in
      let first : take 8 (drop n (turned h.start (put d.asked at bs))) ≡ take 8 (drop n T) =
      ap (λ (l : List ℕ). take 8 (drop n l)) b.turns ∙ sym (drop-take n 8 (put T off bs)) ∙ ap (drop n) (put_front (n + 8) T off bs le fits) ∙ drop-take n 8 T in
      record {
        sized = b.sized;
        low = on.low;
        high = on.high;
        header = on.header;
        header_now = b.header_now;
        aside = b.aside;
        apart = b.apart;
        room = on.room;
        synced = on.synced;
        stand = stand_same (ring_of h size) 0 h.seq 0 T (turned h.start (put d.asked at bs)) (fs ++ es) stands on.stand;
        clean = on.clean;
        ends = λ e. on.ends (sym first ∙ e);
      }

  -- Where the whole entry stands behind the others, the ring holds it too.
  pub whole : (d : Disk) (e : Entry) (now : Disk) → Ready h size fs es d → Next h size fs es e → HasSize size now → now.stable ≡ d.stable → head_of now.asked ≡ Some h
      → ((i : ℕ) → i < 8192 → Outside now.written i) → ((i : ℕ) → i < sizes fs → Outside now.written (place_of size h.start i))
      → now.reads ≡ now.asked → turned h.start now.asked ≡ put (turned h.start d.asked) (sizes (fs ++ es)) (bytes_of h size fs es e) → Ready h size fs (es ++ e ∷ []) now
  whole d e now ready next sized stable header aside apart reads turns =
      let on = ready.on in
      let T = turned h.start d.asked in
      let B = bytes_of h size fs es e in
      let off = sizes (fs ++ es) in
      let place = place_of size h.start off in
      let n : length B ≡ size_of e = length-spelled h.fsid place e next.long in
      let long = length-turned h.start d.asked on.low (omega (arith, on.sized.asked, on.high)) in
      let fits : off + length B ≤ length T = omega (arith, long, next.room, on.sized.asked, n) in
      let all : (fs ++ es) ++ e ∷ [] ≡ fs ++ (es ++ e ∷ []) = append_assoc fs es (e ∷ []) in
      let total : sizes (fs ++ (es ++ e ∷ [])) ≡ off + length B = ap sizes (sym all) ∙ sizes-append (fs ++ es) (e ∷ []) ∙ (let z : off + (size_of e + 0) ≡ off + length B = omega (arith, n) in z) in
      let front : take off T ≡ take off (put T off B) = sym (put_front off T off B (omega arith) fits) in
      let kept = stand_same (ring_of h size) 0 h.seq 0 T (put T off B) (fs ++ es) front on.stand in
      let here : entry h.fsid place (drop off (put T off B)) ≡ Some e = ap (entry h.fsid place) (drop_put T off B fits) ∙ entry-spelled h.fsid place e next.long (drop (off + length B) T) next.fits in
      let zero_off : 0 + off ≡ off = omega arith in
      let here0 : entry h.fsid (place_of size h.start (0 + off)) (drop off (put T off B)) ≡ Some e = ap (λ (k : ℕ). entry h.fsid (place_of size h.start k) (drop off (put T off B))) zero_off ∙ here in
      let more : Stand (ring_of h size) 0 h.seq 0 (put T off B) ((fs ++ es) ++ e ∷ []) =
      stand_more (ring_of h size) 0 h.seq 0 (put T off B) (fs ++ es) e (omega arith) kept next.number next.epoch_is next.small here0 in
      let past : drop (sizes (fs ++ (es ++ e ∷ []))) (turned h.start now.asked) ≡ drop (size_of e) (drop off T) =
      ap (λ (l : List ℕ). drop (sizes (fs ++ (es ++ e ∷ []))) l) turns ∙ ap (λ (k : ℕ). drop k (put T off B)) total ∙ drop_past T off B fits ∙ ap (λ (k : ℕ). drop (off + k) T) n ∙ sym (drop-drop (size_of e) off T) in
      let free : IsClean (drop (sizes (fs ++ (es ++ e ∷ []))) (turned h.start now.asked)) = subst IsClean (sym past) (clean_drop (drop off T) e ready.free) in
      record {
        on = record {
          sized = sized;
          low = on.low;
          high = on.high;
          header = ap head_of stable ∙ on.header;
          header_now = header;
          aside = aside;
          apart = apart;
          room = omega (arith, total, next.room, n);
          synced = subst (λ (l : List ℕ). Stand (ring_of h size) 0 h.seq 0 (turned h.start l) fs) (sym stable) on.synced;
          stand = subst (λ (l : List ℕ). Stand (ring_of h size) 0 h.seq 0 l (fs ++ (es ++ e ∷ []))) (sym turns) (subst (λ (l : List Entry). Stand (ring_of h size) 0 h.seq 0 (put T off B) l) all more);
          clean = subst (λ (l : List ℕ). IsClean (drop (sizes fs) (turned h.start l))) (sym stable) on.clean;
          ends = free 0;
        };
        free = free;
        same = reads;
      }

  -- in one write
  pub in_one : (d : Disk) (e : Entry) (at : ℕ) → Ready h size fs es d → Next h size fs es e → Piece size h.start at (sizes (fs ++ es)) (length (bytes_of h size fs es e)) → Ready h size fs (es ++ e ∷ []) (wrote d at (bytes_of h size fs es e))
  in_one d e at ready next piece =
      let b = beside d at (sizes (fs ++ es)) (bytes_of h size fs es e) ready.on piece (omega arith) in
      whole d e (wrote d at (bytes_of h size fs es e)) ready next b.sized refl b.header_now b.aside b.apart (ap (λ (l : List ℕ). put l at (bytes_of h size fs es e)) ready.same) b.turns

  -- in two, the rest behind the wrap first
  pub in_two : (d : Disk) (e : Entry) (at at2 : ℕ) (a c : List ℕ) → Ready h size fs es d → Next h size fs es e → a ++ c ≡ bytes_of h size fs es e → 8 ≤ length a
      → Piece size h.start at2 (sizes (fs ++ es) + length a) (length c) → Piece size h.start at (sizes (fs ++ es)) (length a)
      → Ready h size fs (es ++ e ∷ []) (wrote (wrote d at2 c) at a)
  in_two d e at at2 a c ready next parts eight second first =
      let off = sizes (fs ++ es) in
      let T = turned h.start d.asked in
      let b = beside d at2 (off + length a) c ready.on second (omega arith) in
      let mid = rest_first d at2 (off + length a) c ready.on second (omega arith) in
      let f = beside (wrote d at2 c) at off a mid first (omega arith) in
      let long = length-turned h.start d.asked ready.on.low (omega (arith, ready.on.sized.asked, ready.on.high)) in
      let fits : off + length a + length c ≤ length T = omega (arith, long, second.room, ready.on.sized.asked) in
      let turns : turned h.start (put (put d.asked at2 c) at a) ≡ put T off (bytes_of h size fs es e) =
      f.turns ∙ ap (λ (l : List ℕ). put l off a) b.turns ∙ put_pieces T off a c fits ∙ ap (put T off) parts in
      whole d e (wrote (wrote d at2 c) at a) ready next f.sized refl f.header_now f.aside f.apart (ap (λ (l : List ℕ). put (put l at2 c) at a) ready.same) turns

-- a sync makes all of them stable
pub synced_all : (h : Head) (size : ℕ) (fs es : List Entry) (d : Disk) → Ready h size fs es d → Ready h size (fs ++ es) [] (settled d.reads)
synced_all h size fs es d ready =
    let on = ready.on in
    let r : d.reads ≡ d.asked = ready.same in
    let all : (fs ++ es) ++ [] ≡ fs ++ es = append-nil (fs ++ es) in
    let stands = subst (λ (l : List ℕ). Stand (ring_of h size) 0 h.seq 0 (turned h.start l) (fs ++ es)) (sym r) on.stand in
    let free = subst (λ (l : List ℕ). IsClean (drop (sizes (fs ++ es)) (turned h.start l))) (sym r) ready.free in
    let head : head_of d.reads ≡ Some h = ap head_of r ∙ on.header_now in
    let free_all = subst (λ (l : List Entry). IsClean (drop (sizes l) (turned h.start d.reads))) (sym all) free in
    record {
      on = record {
        sized = record { stable = on.sized.reads; asked = on.sized.reads; reads = on.sized.reads };
        low = on.low;
        high = on.high;
        header = head;
        header_now = head;
        aside = λ i lt. tt;
        apart = λ i lt. tt;
        room = subst (λ (l : List Entry). sizes l ≤ size - 8192) (sym all) on.room;
        synced = stands;
        stand = subst (λ (l : List Entry). Stand (ring_of h size) 0 h.seq 0 (turned h.start d.reads) l) (sym all) stands;
        clean = free;
        ends = free_all 0;
      };
      free = free_all;
      same = refl;
    }
