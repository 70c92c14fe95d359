-- An op keeps what makes each start good.
use Rattle.std.proofs.Common.{◌≡◌, ◌⊎◌, inl, inr, ℕ, zero, suc, ◌<◌, ◌≤◌, length, sym, subst, arith}
use Rattle.replay_laws.specs.Replay.{Act, leaves, sets, raises, copies, Case, Source, Raises, act, after, fold, effect, becomes, GoodStart}
use Rattle.replay_laws.specs.Settled.{Free, Doomed, Stands, Kept}
use Rattle.replay_laws.specs.Keeps.{IsCopy, Copied, At, Goes, Reached, GoesPart, KeepsLaw}
use Rattle.replay_laws.proofs.Walk.{same_or_later, sooner_or_not}
use Rattle.replay_laws.proofs.Settled.{start_is_good, stands_before, stands_ends, kept_at, op_next, cell_next, stands_settled, stands_guarded, reads_at}

pub source_copies : {C V : Type 0} (a : Act C V) (y : C) → Source a y → IsCopy a
source_copies leaves y none = none
source_copies (sets v) y none = none
source_copies (raises n) y none = none
source_copies (copies source f) y is = tt

module _ {C V : Type 0} (c : Case C V) where
  pub good : (passed : C → ℕ) → At c zero c.start c.skips passed → GoodStart c
  good passed held = start_is_good c (Copied c passed) (record { stands = held.stands; kept = held.kept })

  pub anew : (k : ℕ) (cells : C → V) (guards passed : C → ℕ) → At c k cells guards passed → At c zero cells guards passed
  anew k cells guards passed held = record { stands = λ x. stands_before c (Copied c passed) (guards x) zero k x (cells x) (omega arith) (held.stands x); kept = held.kept }

  pub ends : (cells : C → V) (guards passed : C → ℕ) → At c (length c.ops) cells guards passed → (x : C) → cells x ≡ fold c.raise c.ops c.before x
  ends cells guards passed held x = stands_ends c (Copied c passed) (guards x) x (cells x) (held.stands x)

  module _ (laws : Raises c.raise) (k : ℕ) (op : k < length c.ops) (old new : C → V) (guards guards_now passed passed_now : C → ℕ)
      (held : At c k old guards passed) (goes : Goes c k old new guards guards_now passed passed_now) where
    more : (j : ℕ) (z : C) → Copied c passed j z → Copied c passed_now j z
    more j z (is, lt) =
        let up : passed z ≤ passed_now z = goes.further z in
        (is, omega arith)

    each : (z y : C) → Source (act c k z) y → Copied c passed_now k z
    each z y source = (source_copies (act c k z) y source, goes.all_copied z y source)

    within : (x : C) → (guards_now x ≡ guards x) ⊎ (guards_now x ≤ suc k)
    within x = by (goes.guarded x).is
      where
        by : (guards_now x ≡ guards x) ⊎ ((guards x ≤ k) × (guards_now x ≡ suc k) ⊎ (guards_now x ≤ guards x) × (guards x ≤ k) × ((v : V) × (effect (act c k x) (after c k) ≡ becomes v))) → (guards_now x ≡ guards x) ⊎ (guards_now x ≤ suc k)
        by (inl same) = inl same
        by (inr (inl (le, is))) = inr (omega arith)
        by (inr (inr (down, le, renews))) = inr (omega arith)

    stands : (x : C) → Stands c (Copied c passed_now) (guards_now x) (suc k) x (new x)
    stands = op_next c (Copied c passed) (Copied c passed_now) guards guards_now k old new laws op held.kept held.stands goes.given more each within

    -- what is copied from x up to this op is settled
    freed : (x : C) → Free c (Copied c passed_now) x (suc k)
    freed x j z lt source = by (same_or_later j k (omega arith))
      where
        early : j < k → Stands c (Copied c passed) (guards x) k x (old x) → Copied c passed_now j z
        early sooner (inl alive) = more j z (alive.free j z (omega (arith, alive.reached)) source)
        early sooner (inr doom) = more j z (doom.free j z (omega (arith, doom.reached)) source)

        by : (j ≡ k) ⊎ (j < k) → Copied c passed_now j z
        by (inl is) = subst (λ i. Copied c passed_now i z) (sym is) (each z x (subst (λ i. Source (act c i z) x) is source))
        by (inr sooner) = early sooner (held.stands x)

    widened : (guard i : ℕ) (x : C) → Doomed c (Copied c passed) guard i x → Doomed c (Copied c passed_now) guard i x
    widened guard i x doom = record { when = doom.when; from_guard = doom.from_guard; reached = doom.reached; is_op = doom.is_op; value = doom.value; gives = doom.gives; free = λ j z lt source. more j z (doom.free j z lt source) }

    kept : (x : C) → Kept c (Copied c passed_now) (guards_now x) x
    kept x i (is, lt) i_op over = by (goes.for_good x)
      where
        was : i < passed x → Doomed c (Copied c passed_now) (guards_now x) (suc i) x
        was lt = under (goes.guarded x).is
          where
            again : guards x ≤ i → Doomed c (Copied c passed_now) (guards_now x) (suc i) x
            again le = kept_at c (Copied c passed_now) (guards x) (guards_now x) i x over (widened (guards x) (suc i) x (held.kept x i (is, lt) i_op le))

            under : (guards_now x ≡ guards x) ⊎ ((guards x ≤ k) × (guards_now x ≡ suc k) ⊎ (guards_now x ≤ guards x) × (guards x ≤ k) × ((v : V) × (effect (act c k x) (after c k) ≡ becomes v))) → Doomed c (Copied c passed_now) (guards_now x) (suc i) x
            under (inl same) = again (omega arith)
            under (inr (inl (le, up))) = again (omega arith)
            under (inr (inr (down, le, renews))) = lost (sooner_or_not i (guards x))
              where
                lost : (i < guards x) ⊎ (guards x ≤ i) → Doomed c (Copied c passed_now) (guards_now x) (suc i) x
                lost (inl sooner) = record { when = k; from_guard = omega arith; reached = omega arith; is_op = op; value = renews.0; gives = renews.1; free = freed x }
                lost (inr after) = again after

        by : (passed_now x ≤ passed x) ⊎ (passed_now x ≤ guards_now x) → Doomed c (Copied c passed_now) (guards_now x) (suc i) x
        by (inl no_more) = was (omega arith)
        by (inr guarded) = absurd (omega arith)

    pub keeps : At c (suc k) new guards_now passed_now
    keeps = record { stands = stands; kept = kept }

module _ {C V : Type 0} (c : Case C V) (laws : Raises c.raise) (k : ℕ) (op : k < length c.ops) (old new : C → V) (guards guards_now passed passed_now : C → ℕ)
    (held : At c k old guards passed) (goes : GoesPart c k old new guards guards_now passed passed_now) where
  more_part : (j : ℕ) (z : C) → Copied c passed j z → Copied c passed_now j z
  more_part j z (is, lt) =
      let up : passed z ≤ passed_now z = goes.further z in
      (is, omega arith)

  copies_from : (x : C) → ((z : C) → Source (act c k z) x → k < passed_now z) → (z : C) → Source (act c k z) x → Copied c passed_now k z
  copies_from x copied z source = (source_copies (act c k z) x source, copied z source)

  freed_part : (x : C) → ((z : C) → Source (act c k z) x → k < passed_now z) → Free c (Copied c passed_now) x (suc k)
  freed_part x copied j z lt source = by (same_or_later j k (omega arith))
    where
      early : j < k → Stands c (Copied c passed) (guards x) k x (old x) → Copied c passed_now j z
      early sooner (inl alive) = more_part j z (alive.free j z (omega (arith, alive.reached)) source)
      early sooner (inr doom) = more_part j z (doom.free j z (omega (arith, doom.reached)) source)

      by : (j ≡ k) ⊎ (j < k) → Copied c passed_now j z
      by (inl is) = subst (λ i. Copied c passed_now i z) (sym is) (copies_from x copied z (subst (λ i. Source (act c i z) x) is source))
      by (inr sooner) = early sooner (held.stands x)

  stands_part : (x : C) → Stands c (Copied c passed_now) (guards_now x) k x (new x)
  stands_part x = by (goes.reached x)
    where
      by : Reached c k old new guards guards_now passed passed_now x → Stands c (Copied c passed_now) (guards_now x) k x (new x)
      by (inl (same, guard)) = subst (λ g. Stands c (Copied c passed_now) g k x (new x)) (sym guard) (subst (λ v. Stands c (Copied c passed_now) (guards x) k x v) (sym same) (stands_settled c (Copied c passed) (Copied c passed_now) (guards x) k x (old x) more_part (held.stands x)))
      by (inr (given, guarded, copied)) = stands_before c (Copied c passed_now) (guards_now x) k (suc k) x (new x) (omega arith) (under guarded.is)
        where
          next : Stands c (Copied c passed_now) (guards x) (suc k) x (new x)
          next = cell_next c (Copied c passed) (guards x) k old laws op x (new x) (held.kept x) (held.stands x) (λ y source. reads_at c (Copied c passed) (guards y) k k x y (old y) (omega arith) (λ t from to. absurd (omega arith)) source (held.stands y)) given (Copied c passed_now) more_part (copies_from x copied)

          up_to : guards_now x ≤ suc k → Stands c (Copied c passed_now) (guards_now x) (suc k) x (new x)
          up_to le = stands_guarded c (Copied c passed_now) (guards x) (guards_now x) (suc k) x (new x) le next

          under : (guards_now x ≡ guards x) ⊎ ((guards x ≤ k) × (guards_now x ≡ suc k) ⊎ (guards_now x ≤ guards x) × (guards x ≤ k) × ((v : V) × (effect (act c k x) (after c k) ≡ becomes v))) → Stands c (Copied c passed_now) (guards_now x) (suc k) x (new x)
          under (inl guard) = subst (λ g. Stands c (Copied c passed_now) g (suc k) x (new x)) (sym guard) next
          under (inr (inl (le, is))) = up_to (omega arith)
          under (inr (inr (down, le, renews))) = up_to (omega arith)

  kept_part : (x : C) → Kept c (Copied c passed_now) (guards_now x) x
  kept_part x i (is, lt) i_op over = by (goes.for_good x)
    where
      wide : (guard : ℕ) → Doomed c (Copied c passed) guard (suc i) x → Doomed c (Copied c passed_now) guard (suc i) x
      wide guard doom = record { when = doom.when; from_guard = doom.from_guard; reached = doom.reached; is_op = doom.is_op; value = doom.value; gives = doom.gives; free = λ j z lt source. more_part j z (doom.free j z lt source) }

      was : i < passed x → Doomed c (Copied c passed_now) (guards_now x) (suc i) x
      was lt = under (goes.reached x)
        where
          again : guards x ≤ i → Doomed c (Copied c passed_now) (guards_now x) (suc i) x
          again le = kept_at c (Copied c passed_now) (guards x) (guards_now x) i x over (wide (guards x) (held.kept x i (is, lt) i_op le))

          under : Reached c k old new guards guards_now passed passed_now x → Doomed c (Copied c passed_now) (guards_now x) (suc i) x
          under (inl (same, guard)) = again (omega arith)
          under (inr (given, guarded, copied)) = deep guarded.is
            where
              deep : (guards_now x ≡ guards x) ⊎ ((guards x ≤ k) × (guards_now x ≡ suc k) ⊎ (guards_now x ≤ guards x) × (guards x ≤ k) × ((v : V) × (effect (act c k x) (after c k) ≡ becomes v))) → Doomed c (Copied c passed_now) (guards_now x) (suc i) x
              deep (inl guard) = again (omega arith)
              deep (inr (inl (le, up))) = again (omega arith)
              deep (inr (inr (down, le, renews))) = lost (sooner_or_not i (guards x))
                where
                  lost : (i < guards x) ⊎ (guards x ≤ i) → Doomed c (Copied c passed_now) (guards_now x) (suc i) x
                  lost (inl sooner) = record { when = k; from_guard = omega arith; reached = omega arith; is_op = op; value = renews.0; gives = renews.1; free = freed_part x copied }
                  lost (inr after) = again after

      by : (passed_now x ≤ passed x) ⊎ (passed_now x ≤ guards_now x) → Doomed c (Copied c passed_now) (guards_now x) (suc i) x
      by (inl no_more) = was (omega arith)
      by (inr guarded) = absurd (omega arith)

  pub keeps_within : At c k new guards_now passed_now
  keeps_within = record { stands = stands_part; kept = kept_part }

pub keeps_law : {C V : Type 0} → KeepsLaw C V
keeps_law = record {
  good = λ c passed held. good c passed held;
  keeps = λ c laws k op old new guards guards_now passed passed_now held goes. keeps c laws k op old new guards guards_now passed passed_now held goes;
  keeps_within = λ c laws k op old new guards guards_now passed passed_now held goes. keeps_within c laws k op old new guards guards_now passed passed_now held goes;
  anew = λ c k cells guards passed held. anew c k cells guards passed held;
  ends = λ c cells guards passed held x. ends c cells guards passed held x;
}
