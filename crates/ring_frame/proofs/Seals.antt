-- Bytes without a fault are sealed, and sealed bytes have none.
use Rattle.std.proofs.Common.{◌≡◌, ℕ, ◌-◌, ◌<◌, ◌≤◌, ⊎_elim, Bool, true, false, cond, not, List, ◌++◌, length, take, drop, refl, sym, ap, ◌∙◌, arith, length-drop, length-append, append_assoc}
use Rattle.std.specs.Prelude.{Option, Some, None, nat_lt}
use Rattle.std.proofs.Math.Seq.{take-add}
use Rattle.std.proofs.lemmas.List.{length-take-le, take_at, drop_at, take_all, take-take}
use Rattle.std.proofs.lemmas.Bool.{cond-true, cond-false, ltb-false, lt-ltb, le-ltb, not_from_true, not_from_false, cases_Bool, cases_lt}
use Rattle.std.proofs.lemmas.Slice.Eq.{bytes_eq-Decides}
use Rattle.byteorder.specs.Endian.{big_bytes}
use Rattle.byteorder.specs.Numbers.{length-bytes_high_first}
use Rattle.sha1.specs.Sha1.{sha1}
use Rattle.ring_frame.specs.declared.reading.FrameFault.{FrameFault}
use Rattle.ring_frame.specs.declared.reading.FrameFault.TheVariants.{Short, NoMagic, WrongRing, WrongPlace, BadDigest, BadFooter}
use Rattle.ring_frame.specs.Frame.{entry_magic, need, Entry, head, front, told_length, told, stands_at, is_sealed, entry, size_of}
use Rattle.ring_frame.specs.Faults.{due_digest, seal_fault, frame_fault}
use Rattle.ring_frame.proofs.Facts.{need-room, Sealed, sealed_parts, entry_from, entry_told, entry_same, not_some, number_same, told_payload, length-sha1, length-head, piece}
use Rattle.ring_frame.proofs.Numbers.{AreBytes, AreBytes-drop, bytes_back_4, bytes_back_at}

-- ---- what a test of a part says

pub part_stands : (bytes : List ℕ) (at n : ℕ) (part : List ℕ) → length part ≡ n → stands_at bytes at part ≡ true → take n (drop at bytes) ≡ part
part_stands bytes at n part l h = ap (λ (k : ℕ). take k (drop at bytes)) (sym l) ∙ (bytes_eq-Decides _ _).0 h

pub stands_from : (bytes : List ℕ) (at n : ℕ) (part : List ℕ) → length part ≡ n → take n (drop at bytes) ≡ part → stands_at bytes at part ≡ true
stands_from bytes at n part l h = (bytes_eq-Decides _ _).1 (ap (λ (k : ℕ). take k (drop at bytes)) l ∙ h)

-- ---- one link of the chain

stopped : (b : Bool) (x : FrameFault) (r : Option FrameFault) → b ≡ false → cond (not b) (Some x) r ≡ Some x
stopped b x r h = cond-true (not b) (Some x) r (not_from_false b h)

passed : (b : Bool) (x : FrameFault) (r v : Option FrameFault) → b ≡ true → r ≡ v → cond (not b) (Some x) r ≡ v
passed b x r v h k = cond-false (not b) (Some x) r (not_from_true b h) ∙ k

short : (n m : ℕ) (r : Option FrameFault) → n < m → cond (nat_lt n m) (Some Short) r ≡ Some Short
short n m r h = cond-true (nat_lt n m) (Some Short) r (lt-ltb n m h)

long_enough : (n m : ℕ) (r v : Option FrameFault) → m ≤ n → r ≡ v → cond (nat_lt n m) (Some Short) r ≡ v
long_enough n m r v h k = cond-false (nat_lt n m) (Some Short) r (le-ltb n m h) ∙ k

was_passed : (b : Bool) (x : FrameFault) (r : Option FrameFault) → cond (not b) (Some x) r ≡ None → (b ≡ true) × (r ≡ None)
was_passed true x r h = (refl, h)
was_passed false x r h = absurd (cc)

was_long : (b : Bool) (x : FrameFault) (r : Option FrameFault) → cond b (Some x) r ≡ None → (b ≡ false) × (r ≡ None)
was_long false x r h = (refl, h)
was_long true x r h = absurd (cc)

none_or_some : (x : FrameFault) (o : Option FrameFault) → o ≡ None → o ≡ Some x → ⊥
none_or_some x o a b = cc

-- ---- the chain of the seal, as the code tests it

module _ (bytes digest : List ℕ) (size : ℕ) (is_size : size ≡ need (told_length bytes)) (is_digest : digest ≡ sha1 (take 44 bytes ++ take (told_length bytes) (drop 64 bytes))) where
  pub seal_short : length bytes < size → seal_fault bytes ≡ Some Short
  unfolding seal_fault
  seal_short h = short (length bytes) (need (told_length bytes)) _ (omega (arith, is_size))

  pub seal_digest : size ≤ length bytes → stands_at bytes 44 digest ≡ false → seal_fault bytes ≡ Some BadDigest
  unfolding seal_fault
  seal_digest le h =
      long_enough (length bytes) (need (told_length bytes)) _ _ (omega (arith, is_size))
      (stopped _ BadDigest _ (ap (stands_at bytes 44) (sym is_digest) ∙ h))

  pub seal_footer : size ≤ length bytes → stands_at bytes 44 digest ≡ true → stands_at bytes (size - 64) (take 64 bytes) ≡ false → seal_fault bytes ≡ Some BadFooter
  unfolding seal_fault
  seal_footer le h k =
      long_enough (length bytes) (need (told_length bytes)) _ _ (omega (arith, is_size))
      (passed _ BadDigest _ _ (ap (stands_at bytes 44) (sym is_digest) ∙ h)
      (stopped _ BadFooter _ (ap (λ (n : ℕ). stands_at bytes (n - 64) (take 64 bytes)) (sym is_size) ∙ k)))

  pub seal_whole : size ≤ length bytes → stands_at bytes 44 digest ≡ true → stands_at bytes (size - 64) (take 64 bytes) ≡ true → seal_fault bytes ≡ None
  unfolding seal_fault
  seal_whole le h k =
      long_enough (length bytes) (need (told_length bytes)) _ _ (omega (arith, is_size))
      (passed _ BadDigest _ _ (ap (stands_at bytes 44) (sym is_digest) ∙ h)
      (passed _ BadFooter _ _ (ap (λ (n : ℕ). stands_at bytes (n - 64) (take 64 bytes)) (sym is_size) ∙ k) refl))

-- ---- and of the front

module _ (fsid : List ℕ) (place : ℕ) (bytes : List ℕ) where
  pub fault_short : length bytes < 64 → frame_fault fsid place bytes ≡ Some Short
  unfolding frame_fault
  fault_short h = short (length bytes) 64 _ h

  pub fault_magic : 64 ≤ length bytes → stands_at bytes 0 entry_magic ≡ false → frame_fault fsid place bytes ≡ Some NoMagic
  unfolding frame_fault
  fault_magic le h = long_enough (length bytes) 64 _ _ le (stopped _ NoMagic _ h)

  pub fault_ring : 64 ≤ length bytes → stands_at bytes 0 entry_magic ≡ true → stands_at bytes 8 (take 8 fsid) ≡ false → frame_fault fsid place bytes ≡ Some WrongRing
  unfolding frame_fault
  fault_ring le a h = long_enough (length bytes) 64 _ _ le (passed _ NoMagic _ _ a (stopped _ WrongRing _ h))

  pub fault_place : 64 ≤ length bytes → stands_at bytes 0 entry_magic ≡ true → stands_at bytes 8 (take 8 fsid) ≡ true → stands_at bytes 16 (big_bytes 8 place) ≡ false
      → frame_fault fsid place bytes ≡ Some WrongPlace
  unfolding frame_fault
  fault_place le a b h = long_enough (length bytes) 64 _ _ le (passed _ NoMagic _ _ a (passed _ WrongRing _ _ b (stopped _ WrongPlace _ h)))

  pub fault_seal : 64 ≤ length bytes → stands_at bytes 0 entry_magic ≡ true → stands_at bytes 8 (take 8 fsid) ≡ true → stands_at bytes 16 (big_bytes 8 place) ≡ true
      → frame_fault fsid place bytes ≡ seal_fault bytes
  unfolding frame_fault
  fault_seal le a b h = long_enough (length bytes) 64 _ _ le (passed _ NoMagic _ _ a (passed _ WrongRing _ _ b (passed _ WrongPlace _ _ h refl)))

-- ---- no fault is a seal

-- the parts of bytes without a fault
pub record Whole (fsid : List ℕ) (place : ℕ) (bytes : List ℕ) : Type 0 where
  pub long : 64 ≤ length bytes
  pub magic : take 8 bytes ≡ entry_magic
  pub ring : take 8 (drop 8 bytes) ≡ take 8 fsid
  pub place_is : take 8 (drop 16 bytes) ≡ big_bytes 8 place
  pub room : need (told_length bytes) ≤ length bytes
  pub digest : take 20 (drop 44 bytes) ≡ due_digest bytes
  pub foot : take 64 (drop (need (told_length bytes) - 64) bytes) ≡ take 64 bytes

pub whole_from : (fsid : List ℕ) (place : ℕ) (bytes : List ℕ) → 8 ≤ length fsid → frame_fault fsid place bytes ≡ None → Whole fsid place bytes
unfolding frame_fault seal_fault
whole_from fsid place bytes ring none =
    let a = was_long _ Short _ none in
    let long : 64 ≤ length bytes = ltb-false (length bytes) 64 a.0 in
    let b = was_passed _ NoMagic _ a.1 in
    let d = was_passed _ WrongRing _ b.1 in
    let e = was_passed _ WrongPlace _ d.1 in
    let f = was_long _ Short _ e.1 in
    let g = was_passed _ BadDigest _ f.1 in
    let h = was_passed _ BadFooter _ g.1 in
    record {
      long = long;
      magic = part_stands bytes 0 8 entry_magic refl b.0;
      ring = part_stands bytes 8 8 (take 8 fsid) (length-take-le 8 fsid ring) d.0;
      place_is = part_stands bytes 16 8 (big_bytes 8 place) (length-bytes_high_first 8 place) e.0;
      room = ltb-false (length bytes) (need (told_length bytes)) f.0;
      digest = part_stands bytes 44 20 (due_digest bytes) (length-sha1 _) g.0;
      foot = part_stands bytes (need (told_length bytes) - 64) 64 (take 64 bytes) (length-take-le 64 bytes long) h.0;
    }

-- the first 44 bytes are the front of what they tell
head_is : (fsid : List ℕ) (place : ℕ) (bytes : List ℕ) → AreBytes bytes → Whole fsid place bytes → take 44 bytes ≡ head fsid place (told bytes)
unfolding head
head_is fsid place bytes small w =
    let n : length (told bytes).payload ≡ told_length bytes = told_payload bytes w.room in
    let len : take 4 (drop 40 bytes) ≡ big_bytes 4 (length (told bytes).payload) =
    sym (bytes_back_4 (drop 40 bytes) (omega (arith, length-drop 40 bytes, w.long)) (AreBytes-drop 40 bytes small)) ∙ ap (big_bytes 4) (sym n) in
    let seq : take 8 (drop 24 bytes) ≡ big_bytes 8 (told bytes).seq = sym (bytes_back_at 24 bytes (omega (arith, w.long)) small) in
    let epoch : take 8 (drop 32 bytes) ≡ big_bytes 8 (told bytes).epoch = sym (bytes_back_at 32 bytes (omega (arith, w.long)) small) in
    take-add 40 4 bytes ∙ ap (λ (l : List ℕ). l ++ take 4 (drop 40 bytes)) (
    take-add 32 8 bytes ∙ ap (λ (l : List ℕ). l ++ take 8 (drop 32 bytes)) (
    take-add 24 8 bytes ∙ ap (λ (l : List ℕ). l ++ take 8 (drop 24 bytes)) (
    take-add 16 8 bytes ∙ ap (λ (l : List ℕ). l ++ take 8 (drop 16 bytes)) (take-add 8 8 bytes)
    )
    )
    )
    ∙ cc (w.magic, w.ring, w.place_is, seq, epoch, len)

pub sealed_from_whole : (fsid : List ℕ) (place : ℕ) (bytes : List ℕ) → AreBytes bytes → Whole fsid place bytes → Sealed fsid place bytes
unfolding front
sealed_from_whole fsid place bytes small w =
    let h : take 44 bytes ≡ head fsid place (told bytes) = head_is fsid place bytes small w in
    let is : take 64 bytes ≡ front fsid place (told bytes) =
    take-add 44 20 bytes ∙ ap (λ (l : List ℕ). take 44 bytes ++ l) w.digest ∙ ap (λ (l : List ℕ). l ++ sha1 (l ++ (told bytes).payload)) h in
    record { room = w.room; start = is; foot = w.foot ∙ is }

-- ---- a seal has no fault

-- the second and the third of four pieces
second_at : (m f p r : List ℕ) → length m ≡ 8 → length f ≡ 8 → take 8 (drop 8 (m ++ f ++ p ++ r)) ≡ f
second_at m f p r lm lf =
    let re : m ++ f ++ p ++ r ≡ m ++ (f ++ (p ++ r)) = simp append_assoc in
    ap (λ (l : List ℕ). take 8 (drop 8 l)) re ∙ ap (take 8) (drop_at m (f ++ (p ++ r)) 8 lm) ∙ take_at f (p ++ r) 8 lf

third_at : (m f p r : List ℕ) → length m ≡ 8 → length f ≡ 8 → length p ≡ 8 → take 8 (drop 16 (m ++ f ++ p ++ r)) ≡ p
third_at m f p r lm lf lp =
    let re : m ++ f ++ p ++ r ≡ (m ++ f) ++ (p ++ r) = append_assoc (m ++ f) p r in
    ap (λ (l : List ℕ). take 8 (drop 16 l)) re ∙ ap (take 8) (drop_at (m ++ f) (p ++ r) 16 (omega (arith, length-append m f))) ∙ take_at p r 8 lp

whole_from_sealed : (fsid : List ℕ) (place : ℕ) (bytes : List ℕ) → 8 ≤ length fsid → Sealed fsid place bytes → Whole fsid place bytes
unfolding front head
whole_from_sealed fsid place bytes ring s =
    let e : Entry = told bytes in
    let H : List ℕ = head fsid place e in
    let D : List ℕ = sha1 (H ++ e.payload) in
    let f : List ℕ = take 8 fsid in
    let tail : List ℕ = big_bytes 8 e.seq ++ (big_bytes 8 e.epoch ++ big_bytes 4 (length e.payload)) in
    let long : 64 ≤ length bytes = omega (arith, s.room, need-room (told_length bytes)) in
    let lH : length H ≡ 44 = length-head fsid place e ring in
    let start : take 64 bytes ≡ H ++ D = s.start in
    let lD : length D ≡ 20 = length-sha1 (H ++ e.payload) in
    let same : take 64 bytes ≡ take 64 (H ++ D) = start ∙ sym (take_all 64 (H ++ D) (omega (arith, length-append H D, lH, lD))) in
    let first : take 44 bytes ≡ H = piece 64 bytes (H ++ D) same 0 44 (omega arith) ∙ take_at H D 44 lH in
    let front44 : take 44 bytes ≡ take 44 H = first ∙ sym (take_all 44 H (omega (arith, lH))) in
    let four : H ≡ entry_magic ++ f ++ big_bytes 8 place ++ tail = simp append_assoc in
    let magic : take 8 bytes ≡ take 8 H = piece 44 bytes H front44 0 8 (omega arith) in
    let at8 : take 8 (drop 8 bytes) ≡ take 8 (drop 8 H) = piece 44 bytes H front44 8 8 (omega arith) in
    let at16 : take 8 (drop 16 bytes) ≡ take 8 (drop 16 H) = piece 44 bytes H front44 16 8 (omega arith) in
    let at44 : take 20 (drop 44 bytes) ≡ D =
    piece 64 bytes (H ++ D) same 44 20 (omega arith) ∙ ap (take 20) (drop_at H D 44 lH) ∙ take_all 20 D (omega (arith, lD)) in
    record {
      long = long;
      magic = magic;
      ring = at8 ∙ ap (λ (l : List ℕ). take 8 (drop 8 l)) four ∙ second_at entry_magic f (big_bytes 8 place) tail refl (length-take-le 8 fsid ring);
      place_is = at16 ∙ ap (λ (l : List ℕ). take 8 (drop 16 l)) four
          ∙ third_at entry_magic f (big_bytes 8 place) tail refl (length-take-le 8 fsid ring) (length-bytes_high_first 8 place);
      room = s.room;
      digest = at44 ∙ ap (λ (l : List ℕ). sha1 (l ++ e.payload)) (sym first);
      foot = s.foot ∙ sym s.start;
    }

no_fault_from_whole : (fsid : List ℕ) (place : ℕ) (bytes : List ℕ) → 8 ≤ length fsid → Whole fsid place bytes → frame_fault fsid place bytes ≡ None
no_fault_from_whole fsid place bytes ring w =
    fault_seal fsid place bytes w.long (stands_from bytes 0 8 entry_magic refl w.magic) (stands_from bytes 8 8 (take 8 fsid) (length-take-le 8 fsid ring) w.ring)
    (stands_from bytes 16 8 (big_bytes 8 place) (length-bytes_high_first 8 place) w.place_is)
    ∙ seal_whole bytes (due_digest bytes) (need (told_length bytes)) refl refl w.room (stands_from bytes 44 20 (due_digest bytes) (length-sha1 _) w.digest)
    (stands_from bytes (need (told_length bytes) - 64) 64 (take 64 bytes) (length-take-le 64 bytes w.long) w.foot)

pub no_fault : (fsid : List ℕ) (place : ℕ) (bytes : List ℕ) → 8 ≤ length fsid → Sealed fsid place bytes → frame_fault fsid place bytes ≡ None
no_fault fsid place bytes ring s = no_fault_from_whole fsid place bytes ring (whole_from_sealed fsid place bytes ring s)

-- ---- what a read answers

pub unsealed : (fsid : List ℕ) (place : ℕ) (bytes : List ℕ) (x : FrameFault) → 8 ≤ length fsid → frame_fault fsid place bytes ≡ Some x → entry fsid place bytes ≡ None
unfolding entry
unsealed fsid place bytes x ring h =
    ⊎_elim
    (λ t. absurd (none_or_some x _ (no_fault fsid place bytes ring (sealed_parts fsid place bytes t)) h))
    (λ f. cond-false (is_sealed fsid place bytes) (Some (told bytes)) None f)
    (cases_Bool (is_sealed fsid place bytes))

module _ (fsid : List ℕ) (place : ℕ) (bytes : List ℕ) (ring : 8 ≤ length fsid) (small : AreBytes bytes) (none : frame_fault fsid place bytes ≡ None) where
  pub read_room : need (told_length bytes) ≤ length bytes
  read_room = (whole_from fsid place bytes ring none).room

  pub read_sealed : entry fsid place bytes ≡ Some (told bytes)
  read_sealed = entry_from fsid place bytes (sealed_from_whole fsid place bytes small (whole_from fsid place bytes ring none))

-- ---- what the first bytes tell

same_fault : (x y : FrameFault) → Some x ≡ Some y → x ≡ y
same_fault x y e = cc

-- where they have a fault other than Short, all of them are no entry
pub front_fault : (fsid : List ℕ) (place n : ℕ) (bytes : List ℕ) (x : FrameFault) → 8 ≤ length fsid → 64 ≤ n → n ≤ length bytes
    → frame_fault fsid place (take n bytes) ≡ Some x → (x ≡ Short → ⊥) → entry fsid place bytes ≡ None
front_fault fsid place n bytes x ring low fits fault other = not_some (entry fsid place bytes) (λ e is.
    let t = entry_told fsid place bytes e is in
    let w = whole_from_sealed fsid place bytes ring t.parts in
    let front : List ℕ = take n bytes in
    let l : length front ≡ n = length-take-le n bytes fits in
    let same : take n front ≡ take n bytes = take-take n n bytes (omega arith) in
    let told_same : told_length front ≡ told_length bytes = number_same n front bytes same 40 4 (omega (arith, low)) in
    let needs : need (told_length front) ≡ need (told_length bytes) = ap need told_same in
    let paid : length e.payload ≡ told_length bytes = sym (ap (λ (y : Entry). length y.payload) t.is) ∙ told_payload bytes t.parts.room in
    let size : size_of e ≡ need (told_length bytes) = ap need paid in
    let seal : frame_fault fsid place front ≡ seal_fault front =
    fault_seal fsid place front (omega (arith, l, low))
    (stands_from front 0 8 entry_magic refl (piece n front bytes same 0 8 (omega (arith, low)) ∙ w.magic))
    (stands_from front 8 8 (take 8 fsid) (length-take-le 8 fsid ring) (piece n front bytes same 8 8 (omega (arith, low)) ∙ w.ring))
    (stands_from front 16 8 (big_bytes 8 place) (length-bytes_high_first 8 place) (piece n front bytes same 16 8 (omega (arith, low)) ∙ w.place_is)) in
    ⊎_elim
    (λ (c : n < need (told_length bytes)).
    other (same_fault x Short (sym fault ∙ seal ∙ seal_short front (due_digest front) (need (told_length front)) refl refl (omega (arith, l, c, needs)))))
    (λ (c : need (told_length bytes) ≤ n).
    let here = entry_same fsid place bytes front e is (sym (take-take (size_of e) n bytes (omega (arith, size, c)))) in
    none_or_some x _ (no_fault fsid place front ring (entry_told fsid place front e here).parts) fault)
    (cases_lt n (need (told_length bytes))))
