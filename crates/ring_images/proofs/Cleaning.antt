-- Zeros over the first bytes of free blocks, one block after another.
use Rattle.std.proofs.Common.{◌≡◌, ◌≢◌, ⊎_elim, ℕ, ◌+◌, ◌-◌, ◌*◌, ◌%◌, ◌<◌, ◌≤◌, List, [], ◌∷◌, ◌++◌, length, take, drop, replicate, refl, sym, ◌∙◌, ap, subst, arith}
use Rattle.std.specs.Prelude.{Some}
use Rattle.std.proofs.lemmas.List.{drop-drop, drop-take, drop_all, append-nil, take-append-le, length-replicate}
use Rattle.std.proofs.lemmas.Bool.{cases_lt, cond-true, cond-false, lt-ltb, le-ltb}
use Rattle.dev_api.specs.Disk.{Disk, put, wrote, settled}
use Rattle.dev_api.proofs.Put.{put_front, drop_put}
use Rattle.ring_frame.specs.Frame.{Entry, entry_magic}
use Rattle.ring_frame.specs.Heads.{Head, head_of}
use Rattle.ring_images.specs.Readable.{IsClean, EndsAt, IsRead, Stand, sizes}
use Rattle.ring_images.specs.Turned.{turned, place_of}
use Rattle.ring_images.proofs.Turned.{length-turned}
use Rattle.ring_images.specs.Held.{ring_of, readable, Ready}
use Rattle.ring_images.proofs.Crash.{is_read}
use Rattle.ring_images.specs.Append.{Piece}
use Rattle.ring_images.proofs.Append.{piece_high, piece_low}
use Rattle.ring_images.proofs.Standing.{read_stand, read_silent, stand_room}
use Rattle.ring_images.specs.Cleaning.{Quiet, CleanTo, Cleared}
use Rattle.ring_images.proofs.Clearing.{cleared, turns}

-- what is put over the front of a block
abbrev pub zeros : List ℕ
zeros = replicate 64 0

pub length-zeros : length zeros ≡ 64
length-zeros = length-replicate {A = ℕ} 64 0

no_magic : (rest : List ℕ) → take 8 (zeros ++ rest) ≢ entry_magic
no_magic rest h =
    let e : take 8 (zeros ++ rest) ≡ 0 ∷ 0 ∷ 0 ∷ 0 ∷ 0 ∷ 0 ∷ 0 ∷ 0 ∷ [] = take-append-le 8 zeros rest (omega (arith, length-zeros)) in
    let k : 0 ∷ 0 ∷ 0 ∷ 0 ∷ 0 ∷ 0 ∷ 0 ∷ 0 ∷ [] ≡ entry_magic = sym e ∙ h in
    absurd (cc)

pub clean_put : (from j : ℕ) (bytes : List ℕ) → from + 4096 * j + 64 ≤ length bytes → CleanTo from (from + 4096 * j) bytes → CleanTo from (from + 4096 * j + 4096) (put bytes (from + 4096 * j) zeros)
clean_put from j bytes fits clean k lt h =
    let at = from + 4096 * j in
    let m = from + 4096 * k in
    let z = length-zeros in
    let n : at + length zeros ≤ length bytes = omega (arith, fits, z) in
    ⊎_elim
    (λ (c : k < j).
    let same : take 8 (drop m (put bytes at zeros)) ≡ take 8 (drop m bytes) =
    sym (drop-take m 8 (put bytes at zeros)) ∙ ap (drop m) (put_front (m + 8) bytes at zeros (omega (arith, c)) n) ∙ drop-take m 8 bytes in
    clean k (omega (arith, c)) (sym same ∙ h))
    (λ (c : j ≤ k).
    let e : m ≡ at = omega (arith, c, lt) in
    no_magic (drop (at + length zeros) bytes) (sym (ap (take 8) (ap (λ (i : ℕ). drop i (put bytes at zeros)) e ∙ drop_put bytes at zeros n)) ∙ h))
    (cases_lt k j)

pub clean_all : (from : ℕ) (bytes : List ℕ) → CleanTo from (length bytes) bytes → IsClean (drop from bytes)
clean_all from bytes clean k h =
    let m = from + 4096 * k in
    let e : drop (4096 * k) (drop from bytes) ≡ drop m bytes = drop-drop (4096 * k) from bytes in
    ⊎_elim
    (λ (c : m < length bytes). clean k c (sym (ap (take 8) e) ∙ h))
    (λ (c : length bytes ≤ m).
    let n : [] ≡ entry_magic = sym (ap (take 8) (e ∙ drop_all m bytes c)) ∙ h in absurd (cc))
    (cases_lt m (length bytes))

pub clean_none : (from : ℕ) (bytes : List ℕ) → CleanTo from from bytes
clean_none from bytes k lt h = absurd (omega (arith, lt))

-- a piece of one block
pub piece_block : (size start off n : ℕ) → 8192 ≤ start → start ≤ size → start % 4096 ≡ 0 → size % 4096 ≡ 0 → off % 4096 ≡ 0 → off < size - 8192 → n ≤ 4096 → Piece size start (place_of size start off) off n
piece_block size start off n low high a b c lt small = ⊎_elim
    (λ (up : off < size - start).
    let p : place_of size start off ≡ start + off = cond-true _ _ _ (lt-ltb _ _ up) in
    subst (λ (k : ℕ). Piece size start k off n) (sym p) (piece_high size start off n low high (omega arith)))
    (λ (down : size - start ≤ off).
    let p : place_of size start off ≡ 8192 + (off - (size - start)) = cond-false _ _ _ (le-ltb _ _ down) in
    subst (λ (k : ℕ). Piece size start k off n) (sym p) (piece_low size start off n low high down (omega arith)))
    (cases_lt off (size - start))

-- a device that is settled, with its entries
pub quiet_settled : (h : Head) (size : ℕ) (bytes : List ℕ) → length bytes ≡ size → 8192 ≤ h.start → h.start ≤ size → head_of bytes ≡ Some h → Quiet h size (readable bytes) (settled bytes)
quiet_settled h size bytes l low high header =
    let read = is_read bytes h size header l low high in
    let stand = read_stand (ring_of h size) 0 h.seq 0 (turned h.start bytes) (readable bytes) read in
    record {
      sized = record { stable = l; asked = l; reads = l };
      low = low;
      high = high;
      header = header;
      header_now = header;
      aside = λ i lt. tt;
      apart = λ i lt. tt;
      room = omega (arith, stand_room (ring_of h size) 0 h.seq 0 (turned h.start bytes) (readable bytes) stand, length-turned h.start bytes low (omega (arith, l, high)), l);
      before = read_silent (ring_of h size) 0 h.seq 0 (turned h.start bytes) (readable bytes) read;
      stand = stand;
      now = read;
    }

pub cleared_none : (h : Head) (size : ℕ) (fs : List Entry) (bytes : List ℕ) → Quiet h size fs (settled bytes) → Cleared h size (take 8192 bytes) fs (sizes fs) (settled bytes)
cleared_none h size fs bytes q = record { heads = refl; quiet = q; same = refl; clean = clean_none (sizes fs) (turned h.start bytes) }

-- one block more
pub cleared_one : (h : Head) (size : ℕ) (front : List ℕ) (fs : List Entry) (d : Disk) (j : ℕ) → h.start % 4096 ≡ 0 → size % 4096 ≡ 0 → sizes fs % 4096 ≡ 0 → sizes fs + 4096 * j < size - 8192
    → Cleared h size front fs (sizes fs + 4096 * j) d → Cleared h size front fs (sizes fs + 4096 * j + 4096) (wrote d (place_of size h.start (sizes fs + 4096 * j)) zeros)
cleared_one h size front fs d j a b c lt was =
    let q = was.quiet in
    let off = sizes fs + 4096 * j in
    let at = place_of size h.start off in
    let piece : Piece size h.start at off (length zeros) = piece_block size h.start off (length zeros) q.low q.high a b (omega (arith, c)) lt (omega (arith, length-zeros)) in
    let behind : sizes fs ≤ off = omega arith in
    let T = turned h.start d.asked in
    let long = length-turned h.start d.asked q.low (omega (arith, q.sized.asked, q.high)) in
    let fits : off + 64 ≤ length T = omega (arith, long, q.sized.asked, piece.room, length-zeros) in
    let clean = clean_put (sizes fs) j T fits was.clean in
    let first : drop (sizes fs + 4096 * 0) (put T off zeros) ≡ drop (sizes fs) (put T off zeros) = ap (λ (k : ℕ). drop k (put T off zeros)) (let e : sizes fs + 4096 * 0 ≡ sizes fs = omega arith in e) in
    let ends : EndsAt (drop (sizes fs) (put T off zeros)) = λ e. clean 0 (omega arith) (ap (take 8) first ∙ e) in
    record {
      heads = put_front 8192 d.asked at zeros piece.behind (omega (arith, q.sized.asked, piece.fits)) ∙ was.heads;
      quiet = cleared h size fs d q at off zeros piece behind ends;
      same = ap (λ (l : List ℕ). put l at zeros) was.same;
      clean = subst (CleanTo (sizes fs) (off + 4096)) (sym (turns h size fs d q at off zeros piece behind)) clean;
    }

-- and all of them stable
pub cleared_synced : (h : Head) (size : ℕ) (front : List ℕ) (fs : List Entry) (to : ℕ) (d : Disk) → Cleared h size front fs to d → Cleared h size front fs to (settled d.reads)
cleared_synced h size front fs to d was =
    let q = was.quiet in
    let r : d.reads ≡ d.asked = was.same in
    let stand = subst (λ (l : List ℕ). Stand (ring_of h size) 0 h.seq 0 (turned h.start l) fs) (sym r) q.stand in
    let now = subst (λ (l : List ℕ). IsRead (ring_of h size) 0 h.seq 0 (turned h.start l) fs) (sym r) q.now in
    let header : head_of d.reads ≡ Some h = ap head_of r ∙ q.header_now in
    record {
      heads = ap (take 8192) r ∙ was.heads;
      quiet = record {
        sized = record { stable = q.sized.reads; asked = q.sized.reads; reads = q.sized.reads };
        low = q.low;
        high = q.high;
        header = header;
        header_now = header;
        aside = λ i lt. tt;
        apart = λ i lt. tt;
        room = q.room;
        before = read_silent (ring_of h size) 0 h.seq 0 (turned h.start d.reads) fs now;
        stand = stand;
        now = now;
      };
      same = refl;
      clean = subst (λ (l : List ℕ). CleanTo (sizes fs) to (turned h.start l)) (sym r) was.clean;
    }

-- a settled device whose free blocks are all clean may take more
pub cleared_ready : (h : Head) (size : ℕ) (front : List ℕ) (fs : List Entry) (bytes : List ℕ) → Cleared h size front fs (size - 8192) (settled bytes) → Ready h size fs [] (settled bytes)
cleared_ready h size front fs bytes was =
    let q = was.quiet in
    let all = append-nil fs in
    let long : length (turned h.start bytes) ≡ size - 8192 = length-turned h.start bytes q.low (omega (arith, q.sized.stable, q.high)) ∙ ap (λ (k : ℕ). k - 8192) q.sized.stable in
    let clean : IsClean (drop (sizes fs) (turned h.start bytes)) = clean_all (sizes fs) (turned h.start bytes) (subst (λ (n : ℕ). CleanTo (sizes fs) n (turned h.start bytes)) (sym long) was.clean) in
    let free = subst (λ (l : List Entry). IsClean (drop (sizes l) (turned h.start bytes))) (sym all) clean in
    record {
      on = record {
        sized = q.sized;
        low = q.low;
        high = q.high;
        header = q.header;
        header_now = q.header_now;
        aside = q.aside;
        apart = q.apart;
        room = subst (λ (l : List Entry). sizes l ≤ size - 8192) (sym all) q.room;
        synced = q.stand;
        stand = subst (λ (l : List Entry). Stand (ring_of h size) 0 h.seq 0 (turned h.start bytes) l) (sym all) q.stand;
        clean = clean;
        ends = λ e. free 0 e;
      };
      free = free;
      same = refl;
    }
