-- Which starts of the example are good.
use Rattle.std.proofs.Common.{◌≡◌, ◌⊎◌, inl, inr, ℕ, zero, suc, ◌<◌, ◌≤◌, refl, sym, ◌∙◌, ap, subst, arith}
use Rattle.replay_laws.specs.Replay.{becomes, effect, Source, act, after, Harmless, harmless, Had, RenewedBefore, GoodStart, Replayed}
use Rattle.replay_laws.specs.Examples.{Three, source, copy, target, three, left, added, ExamplesLaw}
use Rattle.replay_laws.proofs.Settled.{stays_not}

module _ (values guards : Three → ℕ) where
  -- what each cell had, and what the two copies need where replay does them again
  good_if : ((x : Three) → Had (left values guards) x 3)
      → (guards copy ≤ 0 → Harmless (left values guards) 0 copy ⊎ (Had (left values guards) source 0 ⊎ RenewedBefore (left values guards) source 0))
      → (guards target ≤ 2 → Had (left values guards) copy 2 ⊎ RenewedBefore (left values guards) copy 2) → GoodStart (left values guards)
  good_if had clone move = record { cells = λ x. inl (had x); copied = copied }
    where
      only : (j : ℕ) (z : Three) → Had (left values guards) z j ⊎ RenewedBefore (left values guards) z j → (y : Three) → (y ≡ z) ⊎ ⊥ → Had (left values guards) y j ⊎ RenewedBefore (left values guards) y j
      only j z has y (inl is) = subst (λ t. Had (left values guards) t j ⊎ RenewedBefore (left values guards) t j) (sym is) has
      only j z has y (inr none) = absurd none

      cloned : Harmless (left values guards) 0 copy ⊎ (Had (left values guards) source 0 ⊎ RenewedBefore (left values guards) source 0) → Harmless (left values guards) 0 copy ⊎ ((y : Three) → Source (act (left values guards) 0 copy) y → Had (left values guards) y 0 ⊎ RenewedBefore (left values guards) y 0)
      cloned (inl free) = inl free
      cloned (inr has) = inr (λ y from. only 0 source has y from)

      copied : (j : ℕ) (x : Three) → j < 3 → guards x ≤ j → Harmless (left values guards) j x ⊎ ((y : Three) → Source (act (left values guards) j x) y → Had (left values guards) y j ⊎ RenewedBefore (left values guards) y j)
      copied zero source lt over = inr (λ y none. absurd none)
      copied zero copy lt over = cloned (clone over)
      copied zero target lt over = inr (λ y none. absurd none)
      copied (suc zero) source lt over = inr (λ y none. absurd none)
      copied (suc zero) copy lt over = inr (λ y none. absurd none)
      copied (suc zero) target lt over = inr (λ y none. absurd none)
      copied (suc (suc zero)) source lt over = inr (λ y none. absurd none)
      copied (suc (suc zero)) copy lt over = inr (λ y none. absurd none)
      copied (suc (suc zero)) target lt over = inr (λ y from. only 2 copy (move over) y from)
      copied (suc (suc (suc j))) x lt over = absurd (omega arith)

-- the copy onto `copy` matters where the move reads it again
not_harmless : (values guards : Three → ℕ) → guards target ≤ 2 → Harmless (left values guards) 0 copy → ⊥
not_harmless values guards again (harmless m later renews rest) = by (which m later renews.is_op)
  where
    which : (m : ℕ) → 0 < m → m < 3 → (m ≡ 1) ⊎ (m ≡ 2)
    which m from to = grind arith

    last : Harmless (left values guards) 2 target → ⊥
    last (harmless n after renewed others) = absurd (omega (arith, renewed.is_op))

    by : (m ≡ 1) ⊎ (m ≡ 2) → ⊥
    by (inl is) = stays_not (subst (λ i. effect (act (left values guards) i copy) (after (left values guards) i) ≡ becomes renews.value) is renews.gives)
    by (inr is) = last (rest 2 target (omega arith) (omega arith) (inl refl) again)

seven_not_five : ◌≡◌ {A = ℕ} 7 5 → ⊥
seven_not_five is = absurd (omega arith)

-- nor had its source what it had before the clone
source_written : (b c : ℕ) (guards : Three → ℕ) → guards copy ≤ 0 → guards target ≤ 2 → GoodStart (left (three 7 b c) guards) → ⊥
source_written b c guards copies_again moves_again good = by (good.copied 0 copy (omega arith) copies_again)
  where
    case_left : Had (left (three 7 b c) guards) source 0 ⊎ RenewedBefore (left (three 7 b c) guards) source 0 → ⊥
    case_left (inl had) =
        let none : had.when ≡ 0 = omega (arith, had.by) in
        seven_not_five (had.value ∙ ap (λ i. after (left (three 7 b c) guards) i source) none)
    case_left (inr (m, lt, renews)) = absurd (omega arith)

    by : Harmless (left (three 7 b c) guards) 0 copy ⊎ ((y : Three) → Source (act (left (three 7 b c) guards) 0 copy) y → Had (left (three 7 b c) guards) y 0 ⊎ RenewedBefore (left (three 7 b c) guards) y 0) → ⊥
    by (inl free) = not_harmless (three 7 b c) guards moves_again free
    by (inr reads) = case_left (reads source (inl refl))

-- where the move is done, the copy is renewed by it, and nothing reads it before
free_copy : Harmless (left (three 7 0 5) (three 0 0 3)) 0 copy
free_copy = harmless 2 (omega arith) (record { is_op = omega arith; not_skipped = omega arith; value = 0; gives = refl }) rest
  where
    rest : (i : ℕ) (z : Three) → 0 < i → i ≤ 2 → Source (act (left (three 7 0 5) (three 0 0 3)) i z) copy → three 0 0 3 z ≤ i → Harmless (left (three 7 0 5) (three 0 0 3)) i z
    rest zero z from to reads over = absurd (omega arith)
    rest (suc zero) source from to reads over = absurd reads
    rest (suc zero) copy from to reads over = absurd reads
    rest (suc zero) target from to reads over = absurd reads
    rest (suc (suc zero)) source from to reads over = absurd reads
    rest (suc (suc zero)) copy from to reads over = absurd reads
    rest (suc (suc zero)) target from to reads over = absurd (omega arith)
    rest (suc (suc (suc i))) z from to reads over = absurd (omega arith)

eight_not_five : ◌≡◌ {A = ℕ} 8 5 → ⊥
eight_not_five is = absurd (omega arith)

content_missing : GoodStart (left (three 5 8 9) (three 0 1 0)) → ⊥
content_missing good = by (good.copied 2 target (omega arith) (omega arith))
  where
    one_or_two : (m : ℕ) → 1 ≤ m → m ≤ 2 → (m ≡ 1) ⊎ (m ≡ 2)
    one_or_two m from to = grind arith

    had_five : (m : ℕ) → (m ≡ 1) ⊎ (m ≡ 2) → 8 ≡ after (left (three 5 8 9) (three 0 1 0)) m copy → ⊥
    had_five m (inl is) value = eight_not_five (value ∙ ap (λ i. after (left (three 5 8 9) (three 0 1 0)) i copy) is)
    had_five m (inr is) value = eight_not_five (value ∙ ap (λ i. after (left (three 5 8 9) (three 0 1 0)) i copy) is)

    case_left : Had (left (three 5 8 9) (three 0 1 0)) copy 2 ⊎ RenewedBefore (left (three 5 8 9) (three 0 1 0)) copy 2 → ⊥
    case_left (inl had) = had_five had.when (one_or_two had.when had.from_guard had.by) had.value
    case_left (inr (m, lt, renews)) =
        let is : m ≡ 1 = omega (arith, renews.not_skipped) in
        stays_not (subst (λ i. effect (act (left (three 5 8 9) (three 0 1 0)) i copy) (after (left (three 5 8 9) (three 0 1 0)) i) ≡ becomes renews.value) is renews.gives)

    by : Harmless (left (three 5 8 9) (three 0 1 0)) 2 target ⊎ ((y : Three) → Source (act (left (three 5 8 9) (three 0 1 0)) 2 target) y → Had (left (three 5 8 9) (three 0 1 0)) y 2 ⊎ RenewedBefore (left (three 5 8 9) (three 0 1 0)) y 2) → ⊥
    by (inl (harmless n later renewed others)) = absurd (omega (arith, renewed.is_op))
    by (inr reads) = case_left (reads copy (inl refl))

added_good : GoodStart added
added_good = record { cells = λ x. inl (record { when = 1; from_guard = omega arith; by = omega arith; value = refl }); copied = copied }
  where
    copied : (j : ℕ) (x : Three) → j < 1 → 0 ≤ j → Harmless added j x ⊎ ((y : Three) → Source (act added j x) y → Had added y j ⊎ RenewedBefore added y j)
    copied zero x lt over = inr (λ y none. absurd none)
    copied (suc j) x lt over = absurd (omega arith)

added_replayed : Replayed added 1 (λ x. 2)
added_replayed = ((λ x. 1), (λ x. refl), record { skipped = λ x lt. absurd (omega arith); done = λ x le. inr refl })

nothing_had : (x : Three) → Had (left (three 5 8 9) (three 0 0 0)) x 3
nothing_had source = record { when = 0; from_guard = omega arith; by = omega arith; value = refl }
nothing_had copy = record { when = 0; from_guard = omega arith; by = omega arith; value = refl }
nothing_had target = record { when = 0; from_guard = omega arith; by = omega arith; value = refl }

copied_had : (guard : ℕ) → guard ≤ 1 → (x : Three) → Had (left (three 5 5 9) (three 0 guard 0)) x 3
copied_had guard le source = record { when = 1; from_guard = omega arith; by = omega arith; value = refl }
copied_had guard le copy = record { when = 1; from_guard = le; by = omega arith; value = refl }
copied_had guard le target = record { when = 1; from_guard = omega arith; by = omega arith; value = refl }

written_had : (guard : ℕ) → guard ≤ 2 → (x : Three) → Had (left (three 7 5 9) (three 0 guard 0)) x 3
written_had guard le source = record { when = 2; from_guard = omega arith; by = omega arith; value = refl }
written_had guard le copy = record { when = 2; from_guard = le; by = omega arith; value = refl }
written_had guard le target = record { when = 2; from_guard = omega arith; by = omega arith; value = refl }

moved_had : (x : Three) → Had (left (three 7 0 5) (three 0 0 3)) x 3
moved_had source = record { when = 3; from_guard = omega arith; by = omega arith; value = refl }
moved_had copy = record { when = 3; from_guard = omega arith; by = omega arith; value = refl }
moved_had target = record { when = 3; from_guard = omega arith; by = omega arith; value = refl }

copy_had : (values guards : Three → ℕ) → values copy ≡ 5 → guards copy ≤ 2 → Had (left values guards) copy 2
copy_had values guards is le = record { when = 2; from_guard = le; by = omega arith; value = is }

pub examples_law : ExamplesLaw
examples_law = record {
  end_source = refl;
  end_copy = refl;
  end_target = refl;
  nothing_done = good_if (three 5 8 9) (three 0 0 0) nothing_had (λ le. inr (inl (record { when = 0; from_guard = omega arith; by = omega arith; value = refl })))
      (λ le. inr (0, omega arith, record { is_op = omega arith; not_skipped = omega arith; value = 5; gives = refl }));
  copied = good_if (three 5 5 9) (three 0 0 0) (copied_had 0 (omega arith)) (λ le. inr (inl (record { when = 0; from_guard = omega arith; by = omega arith; value = refl })))
      (λ le. inl (copy_had (three 5 5 9) (three 0 0 0) refl (omega arith)));
  guarded = good_if (three 5 5 9) (three 0 1 0) (copied_had 1 (omega arith)) (λ le. absurd (omega arith)) (λ le. inl (copy_had (three 5 5 9) (three 0 1 0) refl (omega arith)));
  written = good_if (three 7 5 9) (three 0 1 0) (written_had 1 (omega arith)) (λ le. absurd (omega arith)) (λ le. inl (copy_had (three 7 5 9) (three 0 1 0) refl (omega arith)));
  begun = good_if (three 7 5 9) (three 0 2 0) (written_had 2 (omega arith)) (λ le. absurd (omega arith)) (λ le. inl (copy_had (three 7 5 9) (three 0 2 0) refl (omega arith)));
  moved = good_if (three 7 0 5) (three 0 0 3) moved_had (λ le. inl free_copy) (λ le. absurd (omega arith));
  not_unguarded = source_written 5 9 (three 0 0 0) (omega arith) (omega arith);
  not_one_less = source_written 0 5 (three 0 0 2) (omega arith) (omega arith);
  not_before_content = content_missing;
  added_good = added_good;
  added_replayed = added_replayed;
  added_meant = refl;
}
