-- What a sealed header says, and where there is none.
use Rattle.std.proofs.Common.{◌≡◌, ◌≢◌, ◌⊎◌, inl, inr, ⊎_elim, ℕ, zero, suc, ◌%◌, ◌<◌, ◌≤◌, ◌^◌, Bool, true, false, cond, leb, List, ◌∷◌, length, take, drop, replicate, refl, sym, ◌∙◌, ap, subst, arith}
use Rattle.std.specs.Prelude.{Option, Some, None}
use Rattle.std.specs.Str.{bytes_eq}
use Rattle.std.proofs.lemmas.Bool.Decides.{Decides-eqb}
use Rattle.std.proofs.lemmas.Bool.{and_parts, and_left, and_right, leb-true, ltb-true, cases_Bool, cond-false}
use Rattle.std.proofs.lemmas.Slice.Eq.{bytes_eq-Decides}
use Rattle.std.proofs.lemmas.List.{take-take}
use Rattle.ring_frame.specs.Heads.{Head, ring_magic, head_bytes, told_head, size_fits, head_fits, head_in, newer, head_of}
use Rattle.ring_images.specs.Headers.{IsSize}

-- the numbers of a sealed header
pub record IsHead (size : ℕ) (h : Head) : Type 0 where
  pub device : IsSize size
  pub size_is : h.size ≡ size
  pub blocks : h.start % 4096 ≡ 0
  pub low : 8192 ≤ h.start
  pub high : h.start < size
  pub first : 1 ≤ h.seq
  pub last : h.seq ≤ 2 ^ 63

size_parts : (size : ℕ) → size_fits size ≡ true → IsSize size
size_parts size h =
    let a = and_parts _ _ h in
    let b = and_parts _ _ a.1 in
    record { blocks = (Decides-eqb (size % 4096) 0).0 a.0; least = leb-true _ _ b.0; most = leb-true _ _ b.1 }

head_parts : (size : ℕ) (h : Head) → head_fits size h ≡ true → IsHead size h
head_parts size h fits =
    let a = and_parts _ _ fits in
    let b = and_parts _ _ a.1 in
    let c = and_parts _ _ b.1 in
    let d = and_parts _ _ c.1 in
    let e = and_parts _ _ d.1 in
    let f = and_parts _ _ e.1 in
    record {
      device = size_parts size a.0;
      size_is = (Decides-eqb h.size size).0 b.0;
      blocks = (Decides-eqb (h.start % 4096) 0).0 c.0;
      low = leb-true _ _ d.0;
      high = ltb-true _ _ e.0;
      first = leb-true _ _ f.0;
      last = leb-true _ _ f.1;
    }

cond_some : (b : Bool) (x h : Head) → cond b (Some x) None ≡ Some h → (b ≡ true) × (x ≡ h)
cond_some true x h e = (refl, cc)
cond_some false x h e = absurd (cc)

pub head_is : (size : ℕ) (block : List ℕ) (h : Head) → head_in size block ≡ Some h → IsHead size h
unfolding head_in
head_is size block h e =
    let p = cond_some _ (told_head block) h e in
    let a = and_parts _ _ p.0 in
    let b = and_parts _ _ a.1 in
    subst (IsHead size) p.1 (head_parts size (told_head block) b.1)

-- no header on a device of another size
pub unfit_none : (size : ℕ) (block : List ℕ) → (IsSize size → ⊥) → head_in size block ≡ None
unfolding head_in
unfit_none size block no_size = cond-false _ _ _ (and_right _ _ (and_right _ _ (⊎_elim
    (λ (t : head_fits size (told_head block) ≡ true). absurd (no_size (head_parts size (told_head block) t).device))
    (λ (f : head_fits size (told_head block) ≡ false). f)
    (cases_Bool (head_fits size (told_head block))))))

-- nor in a block that begins otherwise
head_begins : (h : Head) → take 8 (head_bytes h) ≡ ring_magic
unfolding head_bytes
head_begins h = refl

pub head_none : (size : ℕ) (block : List ℕ) → take 8 block ≢ ring_magic → head_in size block ≡ None
unfolding head_in
head_none size block ne = cond-false _ _ _ (and_left _ _ (⊎_elim
    (λ (t : bytes_eq (take 64 block) (head_bytes (told_head block)) ≡ true).
    absurd (ne (sym (take-take 8 64 block (omega arith)) ∙ ap (take 8) ((bytes_eq-Decides _ _).0 t) ∙ head_begins (told_head block))))
    (λ (f : bytes_eq (take 64 block) (head_bytes (told_head block)) ≡ false). f)
    (cases_Bool (bytes_eq (take 64 block) (head_bytes (told_head block))))))

zeros_differ : (n : ℕ) (xs : List ℕ) (x : ℕ) → 0 < x → take 8 (replicate n 0) ≢ x ∷ xs
zeros_differ zero xs x pos e = absurd (cc)
zeros_differ (suc n) xs x pos e = let z : 0 ≡ x = cc in omega (arith, z, pos)

pub head_zeros : (size n : ℕ) → head_in size (replicate n 0) ≡ None
head_zeros size n = head_none size (replicate n 0) (zeros_differ n _ 70 (omega arith))

-- which of two counts

pub newer_either : (a b : Option Head) (h : Head) → newer a b ≡ Some h → (a ≡ Some h) ⊎ (b ≡ Some h)
newer_either None b h e = inr e
newer_either (Some x) None h e = inl e
newer_either (Some x) (Some y) h e = pick (leb x.generation y.generation) e where
  pick : (t : Bool) → cond t (Some y) (Some x) ≡ Some h → (Some x ≡ Some h) ⊎ (Some y ≡ Some h)
  pick true k = inr k
  pick false k = inl k

pub head_of_is : (bytes : List ℕ) (h : Head) → head_of bytes ≡ Some h → IsHead (length bytes) h
unfolding head_of
head_of_is bytes h e = ⊎_elim (λ a. head_is (length bytes) (take 4096 bytes) h a) (λ b. head_is (length bytes) (take 4096 (drop 4096 bytes)) h b)
    (newer_either (head_in (length bytes) (take 4096 bytes)) (head_in (length bytes) (take 4096 (drop 4096 bytes))) h e)

pub unfit_head : (bytes : List ℕ) → (IsSize (length bytes) → ⊥) → head_of bytes ≡ None
unfolding head_of
unfit_head bytes no_size =
    ap (λ (o : Option Head). newer o (head_in (length bytes) (take 4096 (drop 4096 bytes)))) (unfit_none (length bytes) (take 4096 bytes) no_size)
    ∙ unfit_none (length bytes) (take 4096 (drop 4096 bytes)) no_size
