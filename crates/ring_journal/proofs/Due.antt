-- The writes of an append, by the numbers that the ring keeps.
use Rattle.std.proofs.Common.{◌≡◌, ℕ, ◌+◌, ◌-◌, ◌≤◌, List, [], ◌∷◌, ◌++◌, length, take, drop, sym, ◌∙◌, ap, subst, arith, length-drop, append_assoc, take-append-drop}
use Rattle.std.proofs.lemmas.List.{length-take-le}
use Rattle.dev_api.specs.Disk.{Disk, wrote}
use Rattle.dev_api.proofs.Put.{put_front}
use Rattle.ring_frame.specs.Frame.{Entry, size_of}
use Rattle.ring_frame.proofs.Facts.{length-spelled}
use Rattle.ring_frame.specs.Heads.{Head}
use Rattle.ring_images.specs.Readable.{sizes}
use Rattle.ring_images.specs.Turned.{place_of}
use Rattle.ring_images.specs.Held.{OnDisk, Ready, Left, Leaves}
use Rattle.ring_images.proofs.Crash.{crash, each_weaker, left_more}
use Rattle.ring_images.specs.Append.{Piece}
use Rattle.ring_images.proofs.Append.{piece_high, piece_low, in_one, in_two, rest_first}
use Rattle.ring_journal.specs.Due.{Due, Grown}

module _ (start size used : ℕ) (bytes : List ℕ) (h : Head) (fs es : List Entry) (e : Entry) (d : Disk) (due : Due start size used bytes h fs es e d) where
  off : ℕ
  off = sizes (fs ++ es)

  long : length bytes ≡ size_of e
  long = ap length due.bytes_are ∙ length-spelled h.fsid (place_of size h.start (sizes (fs ++ es))) e due.next.long

  pub more_between : (now : Disk) → Ready h size fs (es ++ e ∷ []) now → Leaves h fs (fs ++ (es ++ e ∷ [])) now
  more_between now ready = crash h size fs (es ++ e ∷ []) now ready.on

  pub held_between : (now : Disk) → OnDisk h size fs es now → Leaves h fs (fs ++ (es ++ e ∷ [])) now
  held_between now on =
      subst (λ (l : List Entry). Leaves h fs l now) (append_assoc fs es (e ∷ []))
      (each_weaker (Left h fs (fs ++ es)) (Left h fs ((fs ++ es) ++ e ∷ [])) (left_more h fs (fs ++ es) e) now (crash h size fs es now on))

  -- a write to the ring leaves the headers' blocks
  heads_stay : (was : Disk) (at off : ℕ) (bs : List ℕ) → length was.asked ≡ size → Piece size h.start at off (length bs) → take 8192 (wrote was at bs).asked ≡ take 8192 was.asked
  heads_stay was at off bs long piece = put_front 8192 was.asked at bs piece.behind (omega (arith, long, piece.fits))

  at_piece : (at : ℕ) → Piece size h.start at (sizes (fs ++ es)) (length bytes) → Grown h size fs (es ++ e ∷ []) d (wrote d at bytes)
  at_piece at piece =
      let Q : List ℕ → Type 0 = λ b. Ready h size fs (es ++ e ∷ []) (wrote d at b) in
      let R : List ℕ → Type 0 = λ b. Piece size h.start at (sizes (fs ++ es)) (length b) in
      record {
        ready = subst Q (sym due.bytes_are) (in_one h size fs es d e at due.ready due.next (subst R due.bytes_are piece));
        heads = heads_stay d at (sizes (fs ++ es)) bytes due.ready.on.sized.asked piece;
      }

  pub due_high : used + length bytes ≤ size - start → Grown h size fs (es ++ e ∷ []) d (wrote d (start + used) bytes)
  due_high fits =
      let P : ℕ → Type 0 = λ a. Grown h size fs (es ++ e ∷ []) d (wrote d a bytes) in
      let on = due.ready.on in
      let at : h.start + sizes (fs ++ es) ≡ start + used = omega (arith, due.start_is, due.used_is) in
      subst P at (at_piece (h.start + sizes (fs ++ es)) (piece_high size h.start (sizes (fs ++ es)) (length bytes) on.low on.high (omega (arith, due.start_is, due.used_is))))

  pub due_low : size - start ≤ used → Grown h size fs (es ++ e ∷ []) d (wrote d (8192 + (used - (size - start))) bytes)
  due_low from =
      let P : ℕ → Type 0 = λ a. Grown h size fs (es ++ e ∷ []) d (wrote d a bytes) in
      let on = due.ready.on in
      let n = long in
      let at : 8192 + (sizes (fs ++ es) - (size - h.start)) ≡ 8192 + (used - (size - start)) = omega (arith, due.start_is, due.used_is) in
      subst P at (at_piece (8192 + (sizes (fs ++ es) - (size - h.start))) (piece_low size h.start (sizes (fs ++ es)) (length bytes) on.low on.high (omega (arith, due.start_is, due.used_is)) (omega (arith, n, due.next.room))))

  module _ (cut : ℕ) (block : used + 8 ≤ size - start) (cut_is : cut ≡ size - start - used) (short : cut ≤ length bytes) where
    len_rest : length (drop cut bytes) ≡ length bytes - cut
    len_rest = length-drop cut bytes

    len_front : length (take cut bytes) ≡ cut
    len_front = length-take-le cut bytes short

    second : Piece size h.start 8192 (sizes (fs ++ es) + length (take cut bytes)) (length (drop cut bytes))
    second =
        let on = due.ready.on in
        let o = sizes (fs ++ es) + length (take cut bytes) in
        let P : ℕ → Type 0 = λ a. Piece size h.start a o (length (drop cut bytes)) in
        let n = long in
        let zero_at : 8192 + (o - (size - h.start)) ≡ 8192 = omega (arith, len_front, due.start_is, due.used_is, cut_is) in
        subst P zero_at (piece_low size h.start o (length (drop cut bytes)) on.low on.high (omega (arith, len_front, due.start_is, due.used_is, cut_is)) (omega (arith, len_front, len_rest, n, due.next.room)))

    first : Piece size h.start (start + used) (sizes (fs ++ es)) (length (take cut bytes))
    first =
        let on = due.ready.on in
        let P : ℕ → Type 0 = λ a. Piece size h.start a (sizes (fs ++ es)) (length (take cut bytes)) in
        let at : h.start + sizes (fs ++ es) ≡ start + used = omega (arith, due.start_is, due.used_is) in
        subst P at (piece_high size h.start (sizes (fs ++ es)) (length (take cut bytes)) on.low on.high (omega (arith, len_front, due.start_is, due.used_is, cut_is)))

    -- after the first of two writes
    pub due_first : OnDisk h size fs es (wrote d 8192 (drop cut bytes))
    due_first = rest_first h size fs es d 8192 (sizes (fs ++ es) + length (take cut bytes)) (drop cut bytes) due.ready.on second (omega (arith, len_front, cut_is, block))

    -- and after both
    pub due_two : Grown h size fs (es ++ e ∷ []) d (wrote (wrote d 8192 (drop cut bytes)) (start + used) (take cut bytes))
    due_two = record {
      ready = in_two h size fs es d e (start + used) 8192 (take cut bytes) (drop cut bytes) due.ready due.next (take-append-drop cut bytes ∙ due.bytes_are)
          (omega (arith, len_front, cut_is, block)) second first;
      heads = heads_stay (wrote d 8192 (drop cut bytes)) (start + used) (sizes (fs ++ es)) (take cut bytes) due_first.sized.asked first
          ∙ heads_stay d 8192 (sizes (fs ++ es) + length (take cut bytes)) (drop cut bytes) due.ready.on.sized.asked second;
    }

    -- the same of slices as the code has them
    pub first_as : (c : List ℕ) → c ≡ drop cut bytes → OnDisk h size fs es (wrote d 8192 c)
    first_as c e2 = subst (λ (l : List ℕ). OnDisk h size fs es (wrote d 8192 l)) (sym e2) due_first

    pub two_as : (a c : List ℕ) → a ≡ take cut bytes → c ≡ drop cut bytes → (mid : Disk) → mid ≡ wrote d 8192 c → Grown h size fs (es ++ e ∷ []) d (wrote mid (start + used) a)
    two_as a c e1 e2 mid is =
        subst (λ (m : Disk). Grown h size fs (es ++ e ∷ []) d (wrote m (start + used) a)) (sym is)
        (subst (λ (l : List ℕ). Grown h size fs (es ++ e ∷ []) d (wrote (wrote d 8192 c) (start + used) l)) (sym e1)
        (subst (λ (l : List ℕ). Grown h size fs (es ++ e ∷ []) d (wrote (wrote d 8192 l) (start + used) (take cut bytes))) (sym e2) due_two))
