-- Guards are read as they are spelled, and have one spelling.
use Rattle.std.proofs.Common.{◌≡◌, ◌⊎◌, ℕ, zero, suc, ◌+◌, ◌-◌, ◌<◌, ◌≤◌, Bool, true, false, ◌&&◌, ◌==◌, nat_le, nat_eq, List, [], ◌∷◌, ◌++◌, length, take, drop, get_or, Option, Some, None, All, refl, sym, ◌∙◌, ap, subst, arith, tests, length-drop}
use Rattle.std.specs.Prelude.{if◌then◌else◌, slice_index}
use Rattle.std.specs.declared.cmp.Ordering.{Ordering}
use Rattle.std.specs.declared.cmp.Ordering.TheVariants.{Less, Equal, Greater}
use Rattle.std.proofs.Math.Seq.{drop-append_seam}
use Rattle.std.proofs.lemmas.List.{drop-drop, get_or-drop, take-append-drop}
use Rattle.byteorder.specs.Endian.{big_bytes, big_number}
use Rattle.byteorder.specs.Numbers.{big_number-reads_back, length-bytes_high_first}
use Rattle.fs_names.specs.declared.settings.Pos.{Pos}
use Rattle.replay_guard.specs.declared.guard.Guard.{Guard}
use Rattle.replay_guard.specs.declared.guard.Verdict.{Verdict}
use Rattle.replay_guard.specs.declared.guard.Verdict.TheVariants.{Apply, Continue, Skip}
use Rattle.replay_guard.specs.Guards.{pos_cmp, by_age, verdict, flag, spelled, guard_told, guard_in, GuardFits, GuardLaw}
use Rattle.replay_guard.proofs.Numbers.{AreBytes, AreBytes-from_All, AreBytes-drop, bytes_back_8, bytes_back_4}

-- the verdict on a guard whose age is known
pub verdict_is : (guard : Option Guard) (held : Guard) (pos : Pos) (age : Ordering) (in_progress : Bool) → guard ≡ Some held → age ≡ pos_cmp held.pos pos → held.in_progress ≡ in_progress → by_age age in_progress ≡ verdict guard pos
verdict_is guard held pos age in_progress is age_is flag_is =
    ap (λ o. by_age o in_progress) age_is ∙ ap (by_age (pos_cmp held.pos pos)) (sym flag_is) ∙ ap (λ o. verdict o pos) (sym is)

past : (n : ℕ) (xs ys : List ℕ) → length xs ≡ n → drop n (xs ++ ys) ≡ ys
past n xs ys is = subst (λ k. drop k (xs ++ ys) ≡ ys) is (drop-append_seam xs ys)

flag_small : (b : Bool) → nat_le (flag b) 1 ≡ true
flag_small true = refl
flag_small false = refl

flag_back : (b : Bool) → (flag b == 1) ≡ b
flag_back true = refl
flag_back false = refl

module _ (g : Guard) (fits : GuardFits g) where
  reads_back : guard_in (spelled g) ≡ Some g
  reads_back = by drop_8 drop_12 drop_16
    where
      drop_8 : drop 8 (spelled g) ≡ big_bytes 4 g.pos.txn ++ big_bytes 4 g.pos.op ++ (flag g.in_progress ∷ [])
      drop_8 = past 8 (big_bytes 8 g.pos.seq) (big_bytes 4 g.pos.txn ++ big_bytes 4 g.pos.op ++ (flag g.in_progress ∷ [])) (length-bytes_high_first 8 g.pos.seq)

      drop_12 : drop 12 (spelled g) ≡ big_bytes 4 g.pos.op ++ (flag g.in_progress ∷ [])
      drop_12 = sym (drop-drop 4 8 (spelled g)) ∙ ap (drop 4) drop_8 ∙ past 4 (big_bytes 4 g.pos.txn) (big_bytes 4 g.pos.op ++ (flag g.in_progress ∷ [])) (length-bytes_high_first 4 g.pos.txn)

      drop_16 : drop 16 (spelled g) ≡ flag g.in_progress ∷ []
      drop_16 = sym (drop-drop 4 12 (spelled g)) ∙ ap (drop 4) drop_12 ∙ past 4 (big_bytes 4 g.pos.op) (flag g.in_progress ∷ []) (length-bytes_high_first 4 g.pos.op)

      one_more : (n : ℕ) → 1 ≡ n - 16 → n ≡ 17
      one_more n is = omega arith

      by : drop 8 (spelled g) ≡ big_bytes 4 g.pos.txn ++ big_bytes 4 g.pos.op ++ (flag g.in_progress ∷ []) → drop 12 (spelled g) ≡ big_bytes 4 g.pos.op ++ (flag g.in_progress ∷ []) → drop 16 (spelled g) ≡ flag g.in_progress ∷ [] → guard_in (spelled g) ≡ Some g
      by at_8 at_12 at_16 =
          let last : slice_index (spelled g) 16 ≡ flag g.in_progress = sym (get_or-drop 16 (spelled g) 0 0) ∙ ap (λ (l : List ℕ). get_or l 0 0) at_16 in
          let len : length (spelled g) ≡ 17 = one_more (length (spelled g)) (sym (ap (λ (l : List ℕ). length l) at_16) ∙ length-drop 16 (spelled g)) in
          let test : (length (spelled g) == 17 && nat_le (slice_index (spelled g) 16) 1) ≡ true =
          ap (λ (n : ℕ). n == 17 && nat_le (slice_index (spelled g) 16) 1) len ∙ ap (λ (n : ℕ). nat_le n 1) last ∙ flag_small g.in_progress in
          let seq : big_number 8 (spelled g) ≡ g.pos.seq = big_number-reads_back 8 g.pos.seq (big_bytes 4 g.pos.txn ++ big_bytes 4 g.pos.op ++ (flag g.in_progress ∷ [])) fits.seq in
          let txn : big_number 4 (drop 8 (spelled g)) ≡ g.pos.txn = ap (big_number 4) at_8 ∙ big_number-reads_back 4 g.pos.txn (big_bytes 4 g.pos.op ++ (flag g.in_progress ∷ [])) fits.txn in
          let op : big_number 4 (drop 12 (spelled g)) ≡ g.pos.op = ap (big_number 4) at_12 ∙ big_number-reads_back 4 g.pos.op (flag g.in_progress ∷ []) fits.op in
          let going : (slice_index (spelled g) 16 == 1) ≡ g.in_progress = ap (λ (n : ℕ). n == 1) last ∙ flag_back g.in_progress in
          let same : guard_told (spelled g) ≡ g = λ i. record { pos = record { seq = seq i; txn = txn i; op = op i }; in_progress = going i } in
          ap (λ b. if b then Some (guard_told (spelled g)) else None) test ∙ ap Some same

one_left : (xs : List ℕ) → length xs ≡ 1 → xs ≡ get_or xs 0 0 ∷ []
one_left [] is = absurd (omega (arith, is))
one_left (x ∷ []) is = refl
one_left (x ∷ y ∷ xs) is = absurd (omega (arith, is))

flag_of : (n : ℕ) → n ≤ 1 → n ≡ flag (n == 1)
flag_of zero le = refl
flag_of (suc zero) le = refl
flag_of (suc (suc n)) le = absurd (omega (arith, le))

abbrev IsNothing : {A : Type 0} → Option A → Type 0
IsNothing None = Unit {0}
IsNothing (Some x) = ⊥

abbrev IsFalse : Bool → Type 0
IsFalse true = ⊥
IsFalse false = Unit {0}

both_true : (a b : Bool) → (a && b) ≡ true → (a ≡ true) × (b ≡ true)
both_true true b is = (refl, is)
both_true false b is = absurd (subst IsFalse is tt)

-- bytes that spell a guard are those of the guard that they tell
told_spelled : (bytes : List ℕ) → AreBytes bytes → length bytes ≡ 17 → slice_index bytes 16 ≤ 1 → bytes ≡ spelled (guard_told bytes)
told_spelled bytes small len last =
    sym (take-append-drop 8 bytes)
    ∙ ap (λ l. take 8 bytes ++ l) (sym (take-append-drop 4 (drop 8 bytes)))
    ∙ ap (λ l. take 8 bytes ++ (take 4 (drop 8 bytes) ++ l)) (drop-drop 4 8 bytes ∙ sym (take-append-drop 4 (drop 12 bytes)))
    ∙ ap (λ l. take 8 bytes ++ (take 4 (drop 8 bytes) ++ (take 4 (drop 12 bytes) ++ l))) end
    ∙ ap (λ l. l ++ (take 4 (drop 8 bytes) ++ (take 4 (drop 12 bytes) ++ (flag (slice_index bytes 16 == 1) ∷ [])))) (sym (bytes_back_8 bytes (omega (arith, len)) small))
    ∙ ap (λ l. big_bytes 8 (big_number 8 bytes) ++ (l ++ (take 4 (drop 12 bytes) ++ (flag (slice_index bytes 16 == 1) ∷ [])))) (sym (bytes_back_4 (drop 8 bytes) (omega (arith, len, length-drop 8 bytes)) (AreBytes-drop 8 bytes small)))
    ∙ ap (λ l. big_bytes 8 (big_number 8 bytes) ++ (big_bytes 4 (big_number 4 (drop 8 bytes)) ++ (l ++ (flag (slice_index bytes 16 == 1) ∷ [])))) (sym (bytes_back_4 (drop 12 bytes) (omega (arith, len, length-drop 12 bytes)) (AreBytes-drop 12 bytes small)))
  where
    end : drop 4 (drop 12 bytes) ≡ flag (slice_index bytes 16 == 1) ∷ []
    end = drop-drop 4 12 bytes ∙ one_left (drop 16 bytes) (omega (arith, len, length-drop 16 bytes)) ∙ ap (λ (n : ℕ). n ∷ []) (get_or-drop 16 bytes 0 0 ∙ flag_of (slice_index bytes 16) last)

equal_is : (a b : ℕ) → (a == b) ≡ true → a ≡ b
equal_is a b is = grind (arith, tests)

at_most : (a b : ℕ) → nat_le a b ≡ true → a ≤ b
at_most a b is = grind (arith, tests)

abbrev or_this : Guard → Option Guard → Guard
or_this x None = x
or_this x (Some y) = y

spells : (bytes : List ℕ) (guard : Guard) → All (λ b. b < 256) bytes → guard_in bytes ≡ Some guard → bytes ≡ spelled guard
spells bytes guard small is = by (length bytes == 17 && nat_le (slice_index bytes 16) 1) refl
  where
    by : (b : Bool) → (length bytes == 17 && nat_le (slice_index bytes 16) 1) ≡ b → bytes ≡ spelled guard
    by false no_guard = absurd (subst IsNothing (sym (ap (λ b. if b then Some (guard_told bytes) else None) no_guard) ∙ is) tt)
    by true so =
        let two = both_true (length bytes == 17) (nat_le (slice_index bytes 16) 1) so in
        let same : guard_told bytes ≡ guard = ap (or_this guard) (sym (ap (λ b. if b then Some (guard_told bytes) else None) so) ∙ is) in
        told_spelled bytes (AreBytes-from_All bytes small) (equal_is (length bytes) 17 two.0) (at_most (slice_index bytes 16) 1 two.1) ∙ ap spelled same

pub guard_law : GuardLaw
guard_law = record { reads_back = λ guard fits. reads_back guard fits; spells = λ bytes guard small is. spells bytes guard small is }
