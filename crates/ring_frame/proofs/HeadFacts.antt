-- A header that is spelled is read back.
use Rattle.std.proofs.Common.{◌≡◌, ℕ, ◌<◌, ◌≤◌, ◌^◌, true, List, [], ◌++◌, length, take, drop, replicate, refl, sym, ap, ◌∙◌, arith, length-append, append_assoc}
use Rattle.std.specs.Prelude.{Some}
use Rattle.std.proofs.lemmas.List.{take_at, drop_at, length-replicate}
use Rattle.std.proofs.lemmas.Bool.{cond-true, and_from, and_parts, leb-true, ltb-true, eqb-true}
use Rattle.std.proofs.lemmas.Slice.Eq.{bytes_eq-Decides}
use Rattle.byteorder.specs.Endian.{big_bytes, big_number}
use Rattle.byteorder.specs.Numbers.{big_number-reads_back, length-bytes_high_first}
use Rattle.sha1.specs.Sha1.{sha1}
use Rattle.ring_frame.specs.Heads.{Head, ring_magic, head_bytes, head_block, HeadFits, told_head, head_fits, head_in}
use Rattle.ring_frame.proofs.Facts.{length-sha1}

-- the same fields make the same header
pub head_made : (f1 f2 : List ℕ) (g1 g2 e1 e2 s1 s2 q1 q2 z1 z2 : ℕ) → f1 ≡ f2 → g1 ≡ g2 → e1 ≡ e2 → s1 ≡ s2 → q1 ≡ q2 → z1 ≡ z2
    → ◌≡◌ {A = Head} (record { fsid = f1; generation = g1; epoch = e1; start = s1; seq = q1; size = z1 }) (record { fsid = f2; generation = g2; epoch = e2; start = s2; seq = q2; size = z2 })
head_made f1 f2 g1 g2 e1 e2 s1 s2 q1 q2 z1 z2 f g e s q z = λ i. record { fsid = f i; generation = g i; epoch = e i; start = s i; seq = q i; size = z i }

-- seven fields, and where each of them is found
module _ (m f g e s q z rest : List ℕ) (lm : length m ≡ 8) (lf : length f ≡ 16) (lg : length g ≡ 8) (le : length e ≡ 8) (ls : length s ≡ 8) (lq : length q ≡ 8) (lz : length z ≡ 8) where
  length-seven : length (m ++ f ++ g ++ e ++ s ++ q ++ z) ≡ 64
  length-seven =
      omega (arith, length-append (m ++ f ++ g ++ e ++ s ++ q) z, length-append (m ++ f ++ g ++ e ++ s) q, length-append (m ++ f ++ g ++ e) s, length-append (m ++ f ++ g) e, length-append (m ++ f) g, length-append m f)

  fsid_at : take 16 (drop 8 (m ++ f ++ g ++ e ++ s ++ q ++ z ++ rest)) ≡ f
  fsid_at =
      let re : m ++ f ++ g ++ e ++ s ++ q ++ z ++ rest ≡ m ++ (f ++ (g ++ e ++ s ++ q ++ z ++ rest)) = simp append_assoc in
      ap (λ (l : List ℕ). take 16 (drop 8 l)) re ∙ ap (take 16) (drop_at m (f ++ (g ++ e ++ s ++ q ++ z ++ rest)) 8 lm) ∙ take_at f (g ++ e ++ s ++ q ++ z ++ rest) 16 lf

  generation_at : drop 24 (m ++ f ++ g ++ e ++ s ++ q ++ z ++ rest) ≡ g ++ (e ++ s ++ q ++ z ++ rest)
  generation_at =
      let re : m ++ f ++ g ++ e ++ s ++ q ++ z ++ rest ≡ (m ++ f) ++ (g ++ (e ++ s ++ q ++ z ++ rest)) = simp append_assoc in
      ap (drop 24) re ∙ drop_at (m ++ f) (g ++ (e ++ s ++ q ++ z ++ rest)) 24 (omega (arith, length-append m f))

  epoch_at : drop 32 (m ++ f ++ g ++ e ++ s ++ q ++ z ++ rest) ≡ e ++ (s ++ q ++ z ++ rest)
  epoch_at =
      let re : m ++ f ++ g ++ e ++ s ++ q ++ z ++ rest ≡ (m ++ f ++ g) ++ (e ++ (s ++ q ++ z ++ rest)) = simp append_assoc in
      ap (drop 32) re ∙ drop_at (m ++ f ++ g) (e ++ (s ++ q ++ z ++ rest)) 32 (omega (arith, length-append (m ++ f) g, length-append m f))

  start_at : drop 40 (m ++ f ++ g ++ e ++ s ++ q ++ z ++ rest) ≡ s ++ (q ++ z ++ rest)
  start_at =
      let re : m ++ f ++ g ++ e ++ s ++ q ++ z ++ rest ≡ (m ++ f ++ g ++ e) ++ (s ++ (q ++ z ++ rest)) = simp append_assoc in
      ap (drop 40) re ∙ drop_at (m ++ f ++ g ++ e) (s ++ (q ++ z ++ rest)) 40 (omega (arith, length-append (m ++ f ++ g) e, length-append (m ++ f) g, length-append m f))

  seq_at : drop 48 (m ++ f ++ g ++ e ++ s ++ q ++ z ++ rest) ≡ q ++ (z ++ rest)
  seq_at =
      let re : m ++ f ++ g ++ e ++ s ++ q ++ z ++ rest ≡ (m ++ f ++ g ++ e ++ s) ++ (q ++ (z ++ rest)) = simp append_assoc in
      ap (drop 48) re ∙ drop_at (m ++ f ++ g ++ e ++ s) (q ++ (z ++ rest)) 48
      (omega (arith, length-append (m ++ f ++ g ++ e) s, length-append (m ++ f ++ g) e, length-append (m ++ f) g, length-append m f))

  size_at : drop 56 (m ++ f ++ g ++ e ++ s ++ q ++ z ++ rest) ≡ z ++ rest
  size_at =
      let re : m ++ f ++ g ++ e ++ s ++ q ++ z ++ rest ≡ (m ++ f ++ g ++ e ++ s ++ q) ++ (z ++ rest) = append_assoc (m ++ f ++ g ++ e ++ s ++ q) z rest in
      ap (drop 56) re ∙ drop_at (m ++ f ++ g ++ e ++ s ++ q) (z ++ rest) 56
      (omega (arith, length-append (m ++ f ++ g ++ e ++ s) q, length-append (m ++ f ++ g ++ e) s, length-append (m ++ f ++ g) e, length-append (m ++ f) g, length-append m f))

pub length-head_bytes : (h : Head) → length h.fsid ≡ 16 → length (head_bytes h) ≡ 64
unfolding head_bytes
length-head_bytes h l =
    length-seven ring_magic h.fsid (big_bytes 8 h.generation) (big_bytes 8 h.epoch) (big_bytes 8 h.start) (big_bytes 8 h.seq) (big_bytes 8 h.size) []
    refl l (length-bytes_high_first 8 h.generation) (length-bytes_high_first 8 h.epoch) (length-bytes_high_first 8 h.start) (length-bytes_high_first 8 h.seq) (length-bytes_high_first 8 h.size)

pub length-head_block : (h : Head) → length h.fsid ≡ 16 → length (head_block h) ≡ 4096
unfolding head_block
length-head_block h l =
    omega (arith, length-append (head_bytes h) (sha1 (head_bytes h) ++ replicate 4012 0), length-append (sha1 (head_bytes h)) (replicate 4012 0), length-replicate {A = ℕ} 4012 0, length-head_bytes h l, length-sha1 (head_bytes h))

-- the numbers of a header that fits are below the limits of their fields
pub record Limits (size : ℕ) (h : Head) : Type 0 where
  pub size_small : size ≤ 2 ^ 40
  pub is_size : h.size ≡ size
  pub start_low : 8192 ≤ h.start
  pub start_high : h.start < size
  pub seq_low : 1 ≤ h.seq
  pub seq_high : h.seq ≤ 2 ^ 63

pub head_limits : (size : ℕ) (h : Head) → head_fits size h ≡ true → Limits size h
head_limits size h fits =
    let a = and_parts _ _ fits in
    let sizes = and_parts _ _ (and_parts _ _ a.0).1 in
    let b = and_parts _ _ a.1 in
    let d = and_parts _ _ (and_parts _ _ b.1).1 in
    let e = and_parts _ _ d.1 in
    let f = and_parts _ _ e.1 in
    record {
      size_small = leb-true size (2 ^ 40) sizes.1;
      is_size = eqb-true h.size size b.0;
      start_low = leb-true 8192 h.start d.0;
      start_high = ltb-true h.start size e.0;
      seq_low = leb-true 1 h.seq f.0;
      seq_high = leb-true h.seq (2 ^ 63) f.1;
    }

module _ (size : ℕ) (h : Head) (in_fields : HeadFits h) (fits : head_fits size h ≡ true) where
  rest : List ℕ
  rest = sha1 (head_bytes h) ++ replicate 4012 0

  told_back : told_head (head_bytes h ++ rest) ≡ h
  unfolding head_bytes
  told_back =
      let l = head_limits size h fits in
      let g = big_bytes 8 h.generation in
      let e = big_bytes 8 h.epoch in
      let s = big_bytes 8 h.start in
      let q = big_bytes 8 h.seq in
      let z = big_bytes 8 h.size in
      let lg = length-bytes_high_first 8 h.generation in
      let le = length-bytes_high_first 8 h.epoch in
      let ls = length-bytes_high_first 8 h.start in
      let lq = length-bytes_high_first 8 h.seq in
      let lz = length-bytes_high_first 8 h.size in
      head_made _ _ _ _ _ _ _ _ _ _ _ _
      (fsid_at ring_magic h.fsid g e s q z rest refl in_fields.fsid_fits lg le ls lq lz)
      (ap (big_number 8) (generation_at ring_magic h.fsid g e s q z rest refl in_fields.fsid_fits lg le ls lq lz) ∙ big_number-reads_back 8 h.generation (e ++ s ++ q ++ z ++ rest) in_fields.generation_fits)
      (ap (big_number 8) (epoch_at ring_magic h.fsid g e s q z rest refl in_fields.fsid_fits lg le ls lq lz) ∙ big_number-reads_back 8 h.epoch (s ++ q ++ z ++ rest) in_fields.epoch_fits)
      (ap (big_number 8) (start_at ring_magic h.fsid g e s q z rest refl in_fields.fsid_fits lg le ls lq lz) ∙ big_number-reads_back 8 h.start (q ++ z ++ rest) (let p : h.start < 2 ^ 64 = omega (arith, l.start_high, l.size_small) in p))
      (ap (big_number 8) (seq_at ring_magic h.fsid g e s q z rest refl in_fields.fsid_fits lg le ls lq lz) ∙ big_number-reads_back 8 h.seq (z ++ rest) (let p : h.seq < 2 ^ 64 = omega (arith, l.seq_high) in p))
      (ap (big_number 8) (size_at ring_magic h.fsid g e s q z rest refl in_fields.fsid_fits lg le ls lq lz) ∙ big_number-reads_back 8 h.size rest (let p : h.size < 2 ^ 64 = omega (arith, l.is_size, l.size_small) in p))

  pub head_read_back : head_in size (head_block h) ≡ Some h
  unfolding head_in head_block rest
  head_read_back =
      let block : List ℕ = head_bytes h ++ rest in
      let long = length-head_bytes h in_fields.fsid_fits in
      let front : take 64 block ≡ head_bytes (told_head block) = take_at (head_bytes h) rest 64 long ∙ ap head_bytes (sym told_back) in
      let digest : take 20 (drop 64 block) ≡ sha1 (head_bytes (told_head block)) =
      ap (take 20) (drop_at (head_bytes h) rest 64 long) ∙ take_at (sha1 (head_bytes h)) (replicate 4012 0) 20 (length-sha1 (head_bytes h)) ∙ ap (λ (x : Head). sha1 (head_bytes x)) (sym told_back) in
      cond-true _ _ _ (and_from _ _ ((bytes_eq-Decides _ _).1 front) (and_from _ _ ((bytes_eq-Decides _ _).1 digest) (ap (head_fits size) told_back ∙ fits)))
      ∙ ap (λ (x : Head). Some x) told_back
