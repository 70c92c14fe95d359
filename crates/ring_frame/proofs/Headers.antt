-- What a header's block tells.
use Rattle.std.proofs.Common.{◌≡◌, ℕ, ◌≤◌, true, false, inl, inr, List, ◌++◌, length, take, drop, refl, sym, ap, ◌∙◌, arith}
use Rattle.std.specs.Prelude.{Some, None}
use Rattle.std.specs.Str.{bytes_eq}
use Rattle.std.proofs.Math.Seq.{take-add}
use Rattle.std.proofs.lemmas.List.{take-take}
use Rattle.std.proofs.lemmas.Bool.{cond-true, cond-false, and_from, and_left, and_right, cases_Bool, true≢false}
use Rattle.std.proofs.lemmas.Slice.Eq.{bytes_eq-Decides}
use Rattle.byteorder.specs.Endian.{big_bytes, big_number}
use Rattle.sha1.specs.Sha1.{sha1}
use Rattle.ring_frame.specs.Frame.{stands_at}
use Rattle.ring_frame.specs.Heads.{Head, ring_magic, head_bytes, told_head, head_fits, head_in}
use Rattle.ring_frame.proofs.Facts.{length-sha1}
use Rattle.ring_frame.proofs.Numbers.{AreBytes, bytes_back_at}
use Rattle.ring_frame.proofs.Seals.{part_stands, stands_from}

-- with the magic in front, the first 64 bytes are spelled as they tell
pub fields_are : (block : List ℕ) → 64 ≤ length block → AreBytes block → take 8 block ≡ ring_magic → take 64 block ≡ head_bytes (told_head block)
unfolding head_bytes
fields_are block long small magic =
    let g : take 8 (drop 24 block) ≡ big_bytes 8 (big_number 8 (drop 24 block)) = sym (bytes_back_at 24 block (omega arith) small) in
    let e : take 8 (drop 32 block) ≡ big_bytes 8 (big_number 8 (drop 32 block)) = sym (bytes_back_at 32 block (omega arith) small) in
    let s : take 8 (drop 40 block) ≡ big_bytes 8 (big_number 8 (drop 40 block)) = sym (bytes_back_at 40 block (omega arith) small) in
    let q : take 8 (drop 48 block) ≡ big_bytes 8 (big_number 8 (drop 48 block)) = sym (bytes_back_at 48 block (omega arith) small) in
    let z : take 8 (drop 56 block) ≡ big_bytes 8 (big_number 8 (drop 56 block)) = sym (bytes_back_at 56 block (omega arith) small) in
    take-add 56 8 block ∙ ap (λ (l : List ℕ). l ++ take 8 (drop 56 block)) (
    take-add 48 8 block ∙ ap (λ (l : List ℕ). l ++ take 8 (drop 48 block)) (
    take-add 40 8 block ∙ ap (λ (l : List ℕ). l ++ take 8 (drop 40 block)) (
    take-add 32 8 block ∙ ap (λ (l : List ℕ). l ++ take 8 (drop 32 block)) (
    take-add 24 8 block ∙ ap (λ (l : List ℕ). l ++ take 8 (drop 24 block)) (take-add 8 16 block)
    )
    )
    )
    )
    ∙ cc (magic, g, e, s, q, z)

head_bytes_magic : (h : Head) → take 8 (head_bytes h) ≡ ring_magic
unfolding head_bytes
head_bytes_magic h = refl

-- ---- what the tests of a read say of the definition

module _ (block : List ℕ) (size : ℕ) (long : 64 ≤ length block) (small : AreBytes block) where
  no_magic : stands_at block 0 ring_magic ≡ false → bytes_eq (take 64 block) (head_bytes (told_head block)) ≡ false
  no_magic h = elim (cases_Bool (bytes_eq (take 64 block) (head_bytes (told_head block)))) [
    | inl t ↦ absurd (true≢false (
        sym (stands_from block 0 8 ring_magic refl (sym (take-take 8 64 block (omega arith)) ∙ ap (take 8) ((bytes_eq-Decides _ _).0 t) ∙ head_bytes_magic (told_head block))) ∙ h
        ))
    | inr f ↦ f
  ]

  pub read_no_magic : stands_at block 0 ring_magic ≡ false → head_in size block ≡ None
  unfolding head_in
  read_no_magic h = cond-false _ _ _ (and_left _ _ (no_magic h))

  module _ (magic : stands_at block 0 ring_magic ≡ true) where
    spelled_so : take 64 block ≡ head_bytes (told_head block)
    spelled_so = fields_are block long small (part_stands block 0 8 ring_magic refl magic)

    digest_so : stands_at block 64 (sha1 (take 64 block)) ≡ bytes_eq (take 20 (drop 64 block)) (sha1 (head_bytes (told_head block)))
    digest_so =
        ap (λ (n : ℕ). bytes_eq (take n (drop 64 block)) (sha1 (take 64 block))) (length-sha1 (take 64 block))
        ∙ ap (λ (l : List ℕ). bytes_eq (take 20 (drop 64 block)) (sha1 l)) spelled_so

    pub read_bad_digest : stands_at block 64 (sha1 (take 64 block)) ≡ false → head_in size block ≡ None
    unfolding head_in
    read_bad_digest h = cond-false _ _ _ (and_right _ _ (and_left _ _ (sym digest_so ∙ h)))

    pub read_unfit : head_fits size (told_head block) ≡ false → head_in size block ≡ None
    unfolding head_in
    read_unfit h = cond-false _ _ _ (and_right _ _ (and_right _ _ h))

    pub read_told : stands_at block 64 (sha1 (take 64 block)) ≡ true → head_fits size (told_head block) ≡ true → head_in size block ≡ Some (told_head block)
    unfolding head_in
    read_told d h = cond-true _ _ _ (and_from _ _ ((bytes_eq-Decides _ _).1 spelled_so) (and_from _ _ (sym digest_so ∙ d) h))
