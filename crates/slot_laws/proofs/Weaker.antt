-- What goes wrong under weaker conditions.
use Rattle.std.proofs.Common.{◌≡◌, ◌⊎◌, inl, inr, ℕ, zero, suc, ◌<◌, ◌≤◌, refl, sym, ◌∙◌, ap, subst, arith}
use Rattle.replay_laws.specs.Replay.{becomes, effect, Source, act, after, Harmless, harmless, Had, RenewedBefore, GoodStart}
use Rattle.replay_laws.proofs.Settled.{stays_not}
use Rattle.slot_laws.specs.Weaker.{Two, source, copy, copy_op, left, WeakerLaw}

-- nothing renews the copy later
not_harmless : (b : ℕ) → Harmless (left 7 b 0) 0 copy → ⊥
not_harmless b (harmless m later renews rest) =
    let is : m ≡ 1 = omega (arith, renews.is_op) in
    stays_not (subst (λ i. effect (act (left 7 b 0) i copy) (after (left 7 b 0) i) ≡ becomes renews.value) is renews.gives)

seven_not_five : ◌≡◌ {A = ℕ} 7 5 → ⊥
seven_not_five is = absurd (omega arith)

not_good : (b : ℕ) → GoodStart (left 7 b 0) → ⊥
not_good b good = by (good.copied 0 copy (omega arith) (omega arith))
  where
    read : Had (left 7 b 0) source 0 ⊎ RenewedBefore (left 7 b 0) source 0 → ⊥
    read (inl had) =
        let none : had.when ≡ 0 = omega (arith, had.by) in
        seven_not_five (had.value ∙ ap (λ i. after (left 7 b 0) i source) none)
    read (inr (m, lt, renews)) = absurd (omega arith)

    by : Harmless (left 7 b 0) 0 copy ⊎ ((y : Two) → Source (act (left 7 b 0) 0 copy) y → Had (left 7 b 0) y 0 ⊎ RenewedBefore (left 7 b 0) y 0) → ⊥
    by (inl h) = not_harmless b h
    by (inr reads) = read (reads source (inl refl))

-- at a start where the source has what it had before, or the copy is left out
good_if : (a b guard : ℕ) → ((x : Two) → Had (left a b guard) x 2) → (guard ≤ 0 → a ≡ 5) → GoodStart (left a b guard)
good_if a b guard had same = record { cells = λ x. inl (had x); copied = copied }
  where
    copied : (j : ℕ) (x : Two) → j < 2 → (left a b guard).skips x ≤ j → Harmless (left a b guard) j x ⊎ ((y : Two) → Source (act (left a b guard) j x) y → Had (left a b guard) y j ⊎ RenewedBefore (left a b guard) y j)
    copied zero source lt over = inr (λ y none. absurd none)
    copied zero copy lt over = inr reads
      where
        reads : (y : Two) → Source (copy_op copy) y → Had (left a b guard) y 0 ⊎ RenewedBefore (left a b guard) y 0
        reads y (inr none) = absurd none
        reads y (inl is) = subst (λ z. Had (left a b guard) z 0 ⊎ RenewedBefore (left a b guard) z 0) (sym is) (inl (record { when = 0; from_guard = omega arith; by = omega arith; value = same over }))
    copied (suc zero) source lt over = inr (λ y none. absurd none)
    copied (suc zero) copy lt over = inr (λ y none. absurd none)
    copied (suc (suc j)) x lt over = absurd (omega arith)

had_7_5 : (x : Two) → Had (left 7 5 1) x 2
had_7_5 source = record { when = 2; from_guard = omega arith; by = omega arith; value = refl }
had_7_5 copy = record { when = 1; from_guard = omega arith; by = omega arith; value = refl }

had_5_5 : (guard : ℕ) → guard ≤ 1 → (x : Two) → Had (left 5 5 guard) x 2
had_5_5 guard le source = record { when = 1; from_guard = omega arith; by = omega arith; value = refl }
had_5_5 guard le copy = record { when = 1; from_guard = le; by = omega arith; value = refl }

had_5_9 : (x : Two) → Had (left 5 9 0) x 2
had_5_9 source = record { when = 0; from_guard = omega arith; by = omega arith; value = refl }
had_5_9 copy = record { when = 0; from_guard = omega arith; by = omega arith; value = refl }

pub weaker_law : WeakerLaw
weaker_law = record {
  in_order = refl;
  other_order = refl;
  not_overtaken = λ good. not_good 9 good;
  not_unguarded = λ good. not_good 5 good;
  with_guard = good_if 7 5 1 had_7_5 (λ le. absurd (omega arith));
  copied = good_if 5 5 1 (had_5_5 1 (omega arith)) (λ le. refl);
  copied_unguarded = good_if 5 5 0 (had_5_5 0 (omega arith)) (λ le. refl);
  nothing_done = good_if 5 9 0 had_5_9 (λ le. refl);
}
