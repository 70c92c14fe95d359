-- What the bytes of an entry tell.
use Rattle.std.proofs.Common.{◌≡◌, ℕ, zero, suc, ◌+◌, ◌-◌, ◌*◌, ◌/◌, ◌<◌, ◌≤◌, ◌^◌, Bool, true, false, cond, List, ◌++◌, length, take, drop, replicate, min, refl, sym, ◌∙◌, ap, subst, arith, length-append, length-take, length-drop, append_assoc}
use Rattle.std.specs.Prelude.{Option, Some, None, slice_index}
use Rattle.std.proofs.lemmas.List.{take-take, take_at, drop_at, drop-take, length-take-le, length-replicate}
use Rattle.std.proofs.lemmas.Bool.{and_parts, and_from, leb-true, le-leb, cond-true}
use Rattle.std.proofs.lemmas.Slice.Eq.{bytes_eq-Decides}
use Rattle.byteorder.specs.Endian.{big_bytes, big_number}
use Rattle.byteorder.specs.Numbers.{big_from-take, big_number-reads_back, length-bytes_high_first}
use Rattle.std.specs.Int.{w32, to_be_bytes}
use Rattle.sha1.specs.Sha1.{sha1, digest_bytes, hash_after, padded_message}
use Rattle.ring_frame.specs.Frame.{entry_magic, need, Entry, head, front, spelled, told_length, told, is_sealed, entry, Fits, size_of}

-- an entry takes whole blocks, enough for payload, head and foot
pub need-blocks : (n : ℕ) → need n ≡ 4096 * ((n + 128 + 4095) / 4096)
unfolding need
need-blocks n = refl

pub need-room : (n : ℕ) → n + 128 ≤ need n
unfolding need
need-room n = omega arith

pub need-least : (n : ℕ) → need n < n + 128 + 4096
unfolding need
need-least n = omega arith

-- the parts of a sealed entry
pub record Sealed (fsid : List ℕ) (place : ℕ) (bytes : List ℕ) : Type 0 where
  pub room : need (told_length bytes) ≤ length bytes
  pub start : take 64 bytes ≡ front fsid place (told bytes)
  pub foot : take 64 (drop (need (told_length bytes) - 64) bytes) ≡ front fsid place (told bytes)

pub sealed_parts : (fsid : List ℕ) (place : ℕ) (bytes : List ℕ) → is_sealed fsid place bytes ≡ true → Sealed fsid place bytes
unfolding is_sealed
sealed_parts fsid place bytes h =
    let a = and_parts _ _ h in
    let b = and_parts _ _ a.1 in
    record {
      room = leb-true _ _ a.0;
      start = (bytes_eq-Decides _ _).0 b.0;
      foot = (bytes_eq-Decides _ _).0 b.1;
    }

pub sealed_from : (fsid : List ℕ) (place : ℕ) (bytes : List ℕ) → Sealed fsid place bytes → is_sealed fsid place bytes ≡ true
unfolding is_sealed
sealed_from fsid place bytes s =
    and_from _ _ (le-leb _ _ s.room) (and_from _ _ ((bytes_eq-Decides _ _).1 s.start) ((bytes_eq-Decides _ _).1 s.foot))

pub entry_from : (fsid : List ℕ) (place : ℕ) (bytes : List ℕ) → Sealed fsid place bytes → entry fsid place bytes ≡ Some (told bytes)
unfolding entry
entry_from fsid place bytes s = cond-true _ _ _ (sealed_from fsid place bytes s)

pub record Told (fsid : List ℕ) (place : ℕ) (bytes : List ℕ) (e : Entry) : Type 0 where
  pub parts : Sealed fsid place bytes
  pub is : told bytes ≡ e

pub not_some : (o : Option Entry) → ((e : Entry) → o ≡ Some e → ⊥) → o ≡ None
not_some None h = refl
not_some (Some e) h = absurd (h e refl)

cond_some : (b : Bool) (x e : Entry) → cond b (Some x) None ≡ Some e → (b ≡ true) × (x ≡ e)
cond_some true x e h = (refl, cc)
cond_some false x e h = absurd (cc)

pub entry_told : (fsid : List ℕ) (place : ℕ) (bytes : List ℕ) (e : Entry) → entry fsid place bytes ≡ Some e → Told fsid place bytes e
unfolding entry
entry_told fsid place bytes e h =
    let p = cond_some (is_sealed fsid place bytes) (told bytes) e h in
    record { parts = sealed_parts fsid place bytes p.0; is = p.1 }

-- ---- an entry depends on the bytes that it takes alone

-- a part of lists that begin alike

pub piece : (m : ℕ) (bs cs : List ℕ) → take m bs ≡ take m cs → (j k : ℕ) → j + k ≤ m → take k (drop j bs) ≡ take k (drop j cs)
piece m bs cs e j k le =
    sym (drop-take j k bs)
    ∙ ap (drop j) (sym (take-take (j + k) m bs le) ∙ ap (take (j + k)) e ∙ take-take (j + k) m cs le)
    ∙ drop-take j k cs

pub number_same : (m : ℕ) (bs cs : List ℕ) → take m bs ≡ take m cs → (j k : ℕ) → j + k ≤ m → big_number k (drop j bs) ≡ big_number k (drop j cs)
number_same m bs cs e j k le =
    sym (big_from-take 0 k k (drop j bs) (omega arith))
    ∙ ap (big_number k) (piece m bs cs e j k le)
    ∙ big_from-take 0 k k (drop j cs) (omega arith)

abbrev pub entry_made : ℕ → ℕ → List ℕ → Entry
entry_made a c p = record { seq = a; epoch = c; payload = p }

pub made_same : (a b c d : ℕ) (p q : List ℕ) → a ≡ b → c ≡ d → p ≡ q → entry_made a c p ≡ entry_made b d q
made_same a b c d p q h k l = ap (λ (x : ℕ). entry_made x c p) h ∙ (ap (λ (x : ℕ). entry_made b x p) k ∙ ap (λ (x : List ℕ). entry_made b d x) l)

pub told_same : (m : ℕ) (bs cs : List ℕ) → take m bs ≡ take m cs → need (told_length bs) ≤ m → told bs ≡ told cs
told_same m bs cs e le =
    let big = need-room (told_length bs) in
    let n : told_length bs ≡ told_length cs = number_same m bs cs e 40 4 (omega arith) in
    made_same _ _ _ _ _ _
    (number_same m bs cs e 24 8 (omega arith))
    (number_same m bs cs e 32 8 (omega arith))
    (piece m bs cs e 64 (told_length bs) (omega arith) ∙ ap (λ (k : ℕ). take k (drop 64 cs)) n)

-- how long the payload of a sealed entry is
pub told_payload : (bs : List ℕ) → need (told_length bs) ≤ length bs → length (told bs).payload ≡ told_length bs
told_payload bs room =
    let big = need-room (told_length bs) in
    length-take-le (told_length bs) (drop 64 bs) (omega (arith, length-drop 64 bs))

pub sealed_same : (fsid : List ℕ) (place : ℕ) (bs cs : List ℕ) → Sealed fsid place bs → take (need (told_length bs)) bs ≡ take (need (told_length bs)) cs → Sealed fsid place cs
sealed_same fsid place bs cs s e =
    let m = need (told_length bs) in
    let big = need-room (told_length bs) in
    let same : told bs ≡ told cs = told_same m bs cs e (omega arith) in
    let n : told_length bs ≡ told_length cs = number_same m bs cs e 40 4 (omega arith) in
    let fronts : front fsid place (told bs) ≡ front fsid place (told cs) = ap (front fsid place) same in
    let lengths : min m (length bs) ≡ min m (length cs) = sym (length-take m bs) ∙ ap length e ∙ length-take m cs in
    let room : m ≤ length bs = s.room in
    record {
      room = subst (λ (k : ℕ). need k ≤ length cs) n (let r : m ≤ length cs = omega arith in r);
      start = sym (piece m bs cs e 0 64 (omega arith)) ∙ s.start ∙ fronts;
      foot = ap (λ (k : ℕ). take 64 (drop (need k - 64) cs)) (sym n) ∙ sym (piece m bs cs e (m - 64) 64 (omega arith)) ∙ s.foot ∙ fronts;
    }

pub entry_same : (fsid : List ℕ) (place : ℕ) (bs cs : List ℕ) (e : Entry) → entry fsid place bs ≡ Some e → take (size_of e) bs ≡ take (size_of e) cs → entry fsid place cs ≡ Some e
entry_same fsid place bs cs e h same =
    let t = entry_told fsid place bs e h in
    let long : length e.payload ≡ told_length bs = sym (ap (λ (x : Entry). length x.payload) t.is) ∙ told_payload bs t.parts.room in
    let same_n = subst (λ (k : ℕ). take (need k) bs ≡ take (need k) cs) long same in
    let telling : told bs ≡ told cs = told_same (need (told_length bs)) bs cs same_n (omega arith) in
    entry_from fsid place cs (sealed_same fsid place bs cs t.parts same_n) ∙ ap (λ (x : Entry). Some x) (sym telling ∙ t.is)

-- an entry lies within the bytes
pub entry_room : (fsid : List ℕ) (place : ℕ) (bs : List ℕ) (e : Entry) → entry fsid place bs ≡ Some e → size_of e ≤ length bs
entry_room fsid place bs e h =
    let t = entry_told fsid place bs e h in
    let long : length e.payload ≡ told_length bs = sym (ap (λ (x : Entry). length x.payload) t.is) ∙ told_payload bs t.parts.room in
    subst (λ (k : ℕ). need k ≤ length bs) (sym long) t.parts.room

front_magic : (fsid : List ℕ) (place : ℕ) (e : Entry) → take 8 (front fsid place e) ≡ entry_magic
unfolding front head
front_magic fsid place e = refl

pub entry_magic_first : (fsid : List ℕ) (place : ℕ) (bs : List ℕ) (e : Entry) → entry fsid place bs ≡ Some e → take 8 bs ≡ entry_magic
entry_magic_first fsid place bs e h =
    let t = entry_told fsid place bs e h in
    sym (take-take 8 64 bs (omega arith)) ∙ ap (take 8) t.parts.start ∙ front_magic fsid place (told bs)

-- ---- a spelled entry is read

length-digest : (h : List ℕ) (n : ℕ) → length (digest_bytes h n) ≡ 4 * n
unfolding digest_bytes
length-digest h zero = refl
length-digest h (suc n) = omega (arith, length-append (digest_bytes h n) (to_be_bytes w32 (slice_index h n)), length-digest h n)

pub length-sha1 : (m : List ℕ) → length (sha1 m) ≡ 20
unfolding sha1
length-sha1 m = length-digest (hash_after (padded_message m) (length (padded_message m) / 64)) 5

-- six fields and a digest, and where each of them is found
abbrev six : (m f p s e l : List ℕ) → List ℕ
six m f p s e l = m ++ f ++ p ++ s ++ e ++ l

length-six : (m f p s e l : List ℕ) → length m ≡ 8 → length f ≡ 8 → length p ≡ 8 → length s ≡ 8 → length e ≡ 8 → length l ≡ 4 → length (six m f p s e l) ≡ 44
length-six m f p s e l a b c g h i =
    omega (arith, length-append (m ++ f ++ p ++ s ++ e) l, length-append (m ++ f ++ p ++ s) e, length-append (m ++ f ++ p) s, length-append (m ++ f) p, length-append m f)

at_24 : (m f p s e l rest : List ℕ) → length m ≡ 8 → length f ≡ 8 → length p ≡ 8 → drop 24 (six m f p s e l ++ rest) ≡ s ++ (e ++ (l ++ rest))
at_24 m f p s e l rest a b c =
    let re : six m f p s e l ++ rest ≡ (m ++ f ++ p) ++ (s ++ (e ++ (l ++ rest))) = simp append_assoc in
    ap (drop 24) re ∙ drop_at (m ++ f ++ p) (s ++ (e ++ (l ++ rest))) 24 (omega (arith, length-append (m ++ f) p, length-append m f))

at_32 : (m f p s e l rest : List ℕ) → length m ≡ 8 → length f ≡ 8 → length p ≡ 8 → length s ≡ 8 → drop 32 (six m f p s e l ++ rest) ≡ e ++ (l ++ rest)
at_32 m f p s e l rest a b c g =
    let re : six m f p s e l ++ rest ≡ (m ++ f ++ p ++ s) ++ (e ++ (l ++ rest)) = simp append_assoc in
    ap (drop 32) re ∙ drop_at (m ++ f ++ p ++ s) (e ++ (l ++ rest)) 32 (omega (arith, length-append (m ++ f ++ p) s, length-append (m ++ f) p, length-append m f))

at_40 : (m f p s e l rest : List ℕ) → length m ≡ 8 → length f ≡ 8 → length p ≡ 8 → length s ≡ 8 → length e ≡ 8 → drop 40 (six m f p s e l ++ rest) ≡ l ++ rest
at_40 m f p s e l rest a b c g h =
    let re : six m f p s e l ++ rest ≡ (m ++ f ++ p ++ s ++ e) ++ (l ++ rest) = simp append_assoc in
    ap (drop 40) re ∙ drop_at (m ++ f ++ p ++ s ++ e) (l ++ rest) 40 (omega (arith, length-append (m ++ f ++ p ++ s) e, length-append (m ++ f ++ p) s, length-append (m ++ f) p, length-append m f))

module _ (fsid : List ℕ) (place : ℕ) (e : Entry) (long : 8 ≤ length fsid) where
  magic8 : length entry_magic ≡ 8
  magic8 = refl

  fsid8 : length (take 8 fsid) ≡ 8
  fsid8 = length-take-le 8 fsid long

  pub length-head : length (head fsid place e) ≡ 44
  unfolding head
  length-head = length-six entry_magic (take 8 fsid) (big_bytes 8 place) (big_bytes 8 e.seq) (big_bytes 8 e.epoch) (big_bytes 4 (length e.payload))
      magic8 fsid8 (length-bytes_high_first 8 place) (length-bytes_high_first 8 e.seq) (length-bytes_high_first 8 e.epoch) (length-bytes_high_first 4 (length e.payload))

  pub length-front : length (front fsid place e) ≡ 64
  unfolding front
  length-front = omega (arith, length-append (head fsid place e) (sha1 (head fsid place e ++ e.payload)), length-head, length-sha1 (head fsid place e ++ e.payload))

  pub length-spelled : length (spelled fsid place e) ≡ size_of e
  unfolding spelled
  length-spelled =
      let z = need (length e.payload) - (length e.payload + 128) in
      omega (
        arith,
        length-append (front fsid place e) (e.payload ++ (replicate z 0 ++ front fsid place e)),
        length-append e.payload (replicate z 0 ++ front fsid place e),
        length-append (replicate z 0) (front fsid place e),
        length-replicate {A = ℕ} z 0,
        length-front,
        need-room (length e.payload),
      )

  seq_told : (rest : List ℕ) → e.seq < 2 ^ 64 → big_number 8 (drop 24 (head fsid place e ++ rest)) ≡ e.seq
  unfolding head
  seq_told rest h =
      ap (big_number 8) (at_24 entry_magic (take 8 fsid) (big_bytes 8 place) (big_bytes 8 e.seq) (big_bytes 8 e.epoch) (big_bytes 4 (length e.payload)) rest magic8 fsid8 (length-bytes_high_first 8 place))
      ∙ big_number-reads_back 8 e.seq (big_bytes 8 e.epoch ++ (big_bytes 4 (length e.payload) ++ rest)) h

  epoch_told : (rest : List ℕ) → e.epoch < 2 ^ 64 → big_number 8 (drop 32 (head fsid place e ++ rest)) ≡ e.epoch
  unfolding head
  epoch_told rest h =
      ap (big_number 8) (at_32 entry_magic (take 8 fsid) (big_bytes 8 place) (big_bytes 8 e.seq) (big_bytes 8 e.epoch) (big_bytes 4 (length e.payload)) rest magic8 fsid8 (length-bytes_high_first 8 place) (length-bytes_high_first 8 e.seq))
      ∙ big_number-reads_back 8 e.epoch (big_bytes 4 (length e.payload) ++ rest) h

  length_told : (rest : List ℕ) → length e.payload < 2 ^ 32 → big_number 4 (drop 40 (head fsid place e ++ rest)) ≡ length e.payload
  unfolding head
  length_told rest h =
      ap (big_number 4) (at_40 entry_magic (take 8 fsid) (big_bytes 8 place) (big_bytes 8 e.seq) (big_bytes 8 e.epoch) (big_bytes 4 (length e.payload)) rest magic8 fsid8 (length-bytes_high_first 8 place) (length-bytes_high_first 8 e.seq) (length-bytes_high_first 8 e.epoch))
      ∙ big_number-reads_back 4 (length e.payload) rest h

  -- the entry is read back, whatever follows it
  pub entry-spelled : (rest : List ℕ) → Fits e → entry fsid place (spelled fsid place e ++ rest) ≡ Some e
  unfolding spelled front
  entry-spelled rest fits =
      let z = need (length e.payload) - (length e.payload + 128) in
      let F = front fsid place e in
      let D = sha1 (head fsid place e ++ e.payload) in
      let after = e.payload ++ (replicate z 0 ++ F) in
      let bytes = F ++ after ++ rest in
      let as_head : bytes ≡ head fsid place e ++ (D ++ (after ++ rest)) = simp append_assoc in
      let as_front : bytes ≡ F ++ (after ++ rest) = append_assoc F after rest in
      let n : told_length bytes ≡ length e.payload = ap (λ (l : List ℕ). big_number 4 (drop 40 l)) as_head ∙ length_told (D ++ (after ++ rest)) fits.payload_fits in
      let s : big_number 8 (drop 24 bytes) ≡ e.seq = ap (λ (l : List ℕ). big_number 8 (drop 24 l)) as_head ∙ seq_told (D ++ (after ++ rest)) fits.seq_fits in
      let ep : big_number 8 (drop 32 bytes) ≡ e.epoch = ap (λ (l : List ℕ). big_number 8 (drop 32 l)) as_head ∙ epoch_told (D ++ (after ++ rest)) fits.epoch_fits in
      let behind : drop 64 bytes ≡ e.payload ++ ((replicate z 0 ++ F) ++ rest) =
      ap (drop 64) as_front ∙ drop_at F (after ++ rest) 64 length-front ∙ append_assoc e.payload (replicate z 0 ++ F) rest in
      let p : take (told_length bytes) (drop 64 bytes) ≡ e.payload =
      ap (λ (k : ℕ). take k (drop 64 bytes)) n ∙ ap (take (length e.payload)) behind ∙ take_at e.payload ((replicate z 0 ++ F) ++ rest) (length e.payload) refl in
      let is : told bytes ≡ e = made_same _ _ _ _ _ _ s ep p in
      let room = need-room (length e.payload) in
      let m : need (told_length bytes) ≡ need (length e.payload) = ap need n in
      let whole : length (F ++ after) ≡ need (length e.payload) = length-spelled in
      let to_foot : bytes ≡ (F ++ (e.payload ++ replicate z 0)) ++ (F ++ rest) = simp append_assoc in
      let foot_at : length (F ++ (e.payload ++ replicate z 0)) ≡ need (told_length bytes) - 64 =
      omega (arith, length-append F (e.payload ++ replicate z 0), length-append e.payload (replicate z 0), length-replicate {A = ℕ} z 0, length-front, m, room) in
      let sealed : Sealed fsid place bytes = record {
        room = omega (arith, m, whole, length-append (F ++ after) rest);
        start = ap (take 64) as_front ∙ take_at F (after ++ rest) 64 length-front ∙ ap (front fsid place) (sym is);
        foot = ap (λ (l : List ℕ). take 64 (drop (need (told_length bytes) - 64) l)) to_foot
            ∙ ap (take 64) (drop_at (F ++ (e.payload ++ replicate z 0)) (F ++ rest) (need (told_length bytes) - 64) foot_at)
            ∙ take_at F rest 64 length-front ∙ ap (front fsid place) (sym is);
      } in
      entry_from fsid place bytes sealed ∙ ap (λ (x : Entry). Some x) is
