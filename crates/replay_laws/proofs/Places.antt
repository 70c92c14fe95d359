-- What is kept where each cell has a place of its own.
use Rattle.std.proofs.Common.{◌≡◌, ◌⊎◌, inl, inr, ℕ, zero, suc, ◌+◌, ◌-◌, ◌<◌, ◌≤◌, Bool, true, false, cond, List, [], ◌∷◌, length, get_or, refl, sym, ◌∙◌, ap, subst, arith}
use Rattle.std.proofs.Math.Nat.{zero-add}
use Rattle.std.proofs.lemmas.List.{get_or-drop}
use Rattle.replay_laws.specs.Replay.{becomes, Act, leaves, sets, Case, Source, Raises, act, after, effect, moved, GoodStart}
use Rattle.replay_laws.specs.Settled.{Free, Doomed, Stands, Kept, Carries}
use Rattle.replay_laws.specs.Keeps.{IsCopy, Copied}
use Rattle.replay_laws.specs.Places.{AtEach, Still, Turned, GoesOne, ReachedOne, GoesPartOne, Passed, with_more, from_there, Exact, DoneOne, PlacesLaw}
use Rattle.replay_laws.proofs.Walk.{same_or_later, sooner_or_not, effect_agrees, after_more}
use Rattle.replay_laws.proofs.Settled.{stays_not, still_there, start_is_good, stands_before, kept_at, kept_guarded, kept_settled, cell_next, stands_settled, stands_guarded, reads_at}
use Rattle.replay_laws.proofs.Keeps.{source_copies}
use Rattle.replay_laws.proofs.Carried.{stands_then, kept_then, longer, shorter}

abbrev OfTwo : {C V : Type 0} → (C → V) → (C → V) → (C → V) → (C → ℕ) → (C → ℕ) → (C → ℕ) → (C → ℕ) → (C → ℕ) → C → Type 0
OfTwo cells other mix guards guards_other guards_mix place place_other x = (mix x ≡ cells x) × (guards_mix x ≡ guards x) ⊎ (mix x ≡ other x) × (guards_mix x ≡ guards_other x) × (place x ≤ place_other x)

copy_is_op : {C V : Type 0} (ops : List (C → Act C V)) (j : ℕ) (z : C) → IsCopy (get_or ops j (λ _. leaves) z) → j < length ops
copy_is_op [] j z none = absurd none
copy_is_op (op ∷ ops) zero z is = omega arith
copy_is_op (op ∷ ops) (suc j) z is =
    let lt : j < length ops = copy_is_op ops j z is in
    omega arith

module _ {C V : Type 0} (c : Case C V) where
  module _ (laws : Raises c.raise) (j : ℕ) (op : j < length c.ops) (old new : C → V) (guards guards_now passed passed_now place place_now : C → ℕ)
      (held : AtEach c place old guards passed) (goes : GoesOne c j old new guards guards_now passed passed_now place place_now) where
    more_one : (i : ℕ) (z : C) → Copied c passed i z → Copied c passed_now i z
    more_one i z (is, lt) =
        let up : passed z ≤ passed_now z = goes.further z in
        (is, omega arith)

    copied_one : (z y : C) → Source (act c j z) y → Copied c passed_now j z
    copied_one z y source = (source_copies (act c j z) y source, goes.all_copied z y source)

    here : (x : C) → place x ≡ j → Stands c (Copied c passed) (guards x) j x (old x)
    here x is = subst (λ i. Stands c (Copied c passed) (guards x) i x (old x)) is (held.stands x)

    freed_one : (x : C) → place x ≡ j → Free c (Copied c passed_now) x (suc j)
    freed_one x place_is i z lt source = by (same_or_later i j (omega arith))
      where
        early : i < j → Stands c (Copied c passed) (guards x) j x (old x) → Copied c passed_now i z
        early sooner (inl alive) = more_one i z (alive.free i z (omega (arith, alive.reached)) source)
        early sooner (inr doom) = more_one i z (doom.free i z (omega (arith, doom.reached)) source)

        by : (i ≡ j) ⊎ (i < j) → Copied c passed_now i z
        by (inl is) = subst (λ t. Copied c passed_now t z) (sym is) (copied_one z x (subst (λ t. Source (act c t z) x) is source))
        by (inr sooner) = early sooner (here x place_is)

    stands_one : (x : C) → Stands c (Copied c passed_now) (guards_now x) (place_now x) x (new x)
    stands_one x = by (goes.each x)
      where
        by : Turned c j old new guards guards_now passed place place_now x → Stands c (Copied c passed_now) (guards_now x) (place_now x) x (new x)
        by (inl (place_is, now_is, given, guarded)) = subst (λ i. Stands c (Copied c passed_now) (guards_now x) i x (new x)) (sym now_is) (under guarded.is)
          where
            next : Stands c (Copied c passed_now) (guards x) (suc j) x (new x)
            next = cell_next c (Copied c passed) (guards x) j old laws op x (new x) (held.kept x) (here x place_is)
                (λ y source. reads_at c (Copied c passed) (guards y) (place y) j x y (old y) (goes.reads x y source).0 (goes.reads x y source).1 source (held.stands y)) given (Copied c passed_now) more_one (λ z source. copied_one z x source)

            up_to : guards_now x ≤ suc j → Stands c (Copied c passed_now) (guards_now x) (suc j) x (new x)
            up_to le = stands_guarded c (Copied c passed_now) (guards x) (guards_now x) (suc j) x (new x) le next

            under : (guards_now x ≡ guards x) ⊎ ((guards x ≤ j) × (guards_now x ≡ suc j) ⊎ (guards_now x ≤ guards x) × (guards x ≤ j) × ((v : V) × (effect (act c j x) (after c j) ≡ becomes v))) → Stands c (Copied c passed_now) (guards_now x) (suc j) x (new x)
            under (inl guard) = subst (λ g. Stands c (Copied c passed_now) g (suc j) x (new x)) (sym guard) next
            under (inr (inl (le, is))) = up_to (omega arith)
            under (inr (inr (down, le, renews))) = up_to (omega arith)
        by (inr (place_is, same, guard)) =
            subst (λ i. Stands c (Copied c passed_now) (guards_now x) i x (new x)) (sym place_is)
            (subst (λ g. Stands c (Copied c passed_now) g (place x) x (new x)) (sym guard)
            (subst (λ v. Stands c (Copied c passed_now) (guards x) (place x) x v) (sym same) (stands_settled c (Copied c passed) (Copied c passed_now) (guards x) (place x) x (old x) more_one (held.stands x))))

    kept_one : (x : C) → Kept c (Copied c passed_now) (guards_now x) x
    kept_one x i (is, lt) i_op over = by (goes.for_good x)
      where
        wide : (guard : ℕ) → Doomed c (Copied c passed) guard (suc i) x → Doomed c (Copied c passed_now) guard (suc i) x
        wide guard doom = record { when = doom.when; from_guard = doom.from_guard; reached = doom.reached; is_op = doom.is_op; value = doom.value; gives = doom.gives; free = λ t z to source. more_one t z (doom.free t z to source) }

        was : i < passed x → Doomed c (Copied c passed_now) (guards_now x) (suc i) x
        was lt = under (goes.each x)
          where
            again : guards x ≤ i → Doomed c (Copied c passed_now) (guards_now x) (suc i) x
            again le = kept_at c (Copied c passed_now) (guards x) (guards_now x) i x over (wide (guards x) (held.kept x i (is, lt) i_op le))

            under : Turned c j old new guards guards_now passed place place_now x → Doomed c (Copied c passed_now) (guards_now x) (suc i) x
            under (inr (place_is, same, guard)) = again (omega arith)
            under (inl (place_is, now_is, given, guarded)) = deep guarded.is
              where
                deep : (guards_now x ≡ guards x) ⊎ ((guards x ≤ j) × (guards_now x ≡ suc j) ⊎ (guards_now x ≤ guards x) × (guards x ≤ j) × ((v : V) × (effect (act c j x) (after c j) ≡ becomes v))) → Doomed c (Copied c passed_now) (guards_now x) (suc i) x
                deep (inl guard) = again (omega arith)
                deep (inr (inl (le, up))) = again (omega arith)
                deep (inr (inr (down, le, renews))) = lost (sooner_or_not i (guards x))
                  where
                    lost : (i < guards x) ⊎ (guards x ≤ i) → Doomed c (Copied c passed_now) (guards_now x) (suc i) x
                    lost (inl sooner) = record { when = j; from_guard = omega arith; reached = omega arith; is_op = op; value = renews.0; gives = renews.1; free = freed_one x place_is }
                    lost (inr after) = again after

        by : (passed_now x ≤ passed x) ⊎ (passed_now x ≤ guards_now x) → Doomed c (Copied c passed_now) (guards_now x) (suc i) x
        by (inl no_more) = was (omega arith)
        by (inr guarded) = absurd (omega arith)

    pub keeps_one : AtEach c place_now new guards_now passed_now
    keeps_one = record { stands = stands_one; kept = kept_one }

  module _ (laws : Raises c.raise) (j : ℕ) (op : j < length c.ops) (old new : C → V) (guards guards_now passed passed_now place : C → ℕ)
      (held : AtEach c place old guards passed) (goes : GoesPartOne c j old new guards guards_now passed passed_now place) where
    more_part : (i : ℕ) (z : C) → Copied c passed i z → Copied c passed_now i z
    more_part i z (is, lt) =
        let up : passed z ≤ passed_now z = goes.further z in
        (is, omega arith)

    here_part : (x : C) → place x ≡ j → Stands c (Copied c passed) (guards x) j x (old x)
    here_part x is = subst (λ i. Stands c (Copied c passed) (guards x) i x (old x)) is (held.stands x)

    freed_part : (x : C) → place x ≡ j → ((z : C) → Source (act c j z) x → j < passed_now z) → Free c (Copied c passed_now) x (suc j)
    freed_part x place_is copied i z lt source = by (same_or_later i j (omega arith))
      where
        early : i < j → Stands c (Copied c passed) (guards x) j x (old x) → Copied c passed_now i z
        early sooner (inl alive) = more_part i z (alive.free i z (omega (arith, alive.reached)) source)
        early sooner (inr doom) = more_part i z (doom.free i z (omega (arith, doom.reached)) source)

        now_at : Source (act c j z) x → Copied c passed_now j z
        now_at from = (source_copies (act c j z) x from, copied z from)

        by : (i ≡ j) ⊎ (i < j) → Copied c passed_now i z
        by (inl is) = subst (λ t. Copied c passed_now t z) (sym is) (now_at (subst (λ t. Source (act c t z) x) is source))
        by (inr sooner) = early sooner (here_part x place_is)

    stands_part : (x : C) → Stands c (Copied c passed_now) (guards_now x) (place x) x (new x)
    stands_part x = by (goes.each x)
      where
        by : ReachedOne c j old new guards guards_now passed passed_now place x → Stands c (Copied c passed_now) (guards_now x) (place x) x (new x)
        by (inl (same, guard)) =
            subst (λ g. Stands c (Copied c passed_now) g (place x) x (new x)) (sym guard)
            (subst (λ v. Stands c (Copied c passed_now) (guards x) (place x) x v) (sym same) (stands_settled c (Copied c passed) (Copied c passed_now) (guards x) (place x) x (old x) more_part (held.stands x)))
        by (inr (place_is, given, guarded, copied)) = stands_before c (Copied c passed_now) (guards_now x) (place x) (suc j) x (new x) (omega arith) (under guarded.is)
          where
            next : Stands c (Copied c passed_now) (guards x) (suc j) x (new x)
            next = cell_next c (Copied c passed) (guards x) j old laws op x (new x) (held.kept x) (here_part x place_is)
                (λ y source. reads_at c (Copied c passed) (guards y) (place y) j x y (old y) (goes.reads x y source).0 (goes.reads x y source).1 source (held.stands y)) given (Copied c passed_now) more_part (λ z source. (source_copies (act c j z) x source, copied z source))

            up_to : guards_now x ≤ suc j → Stands c (Copied c passed_now) (guards_now x) (suc j) x (new x)
            up_to le = stands_guarded c (Copied c passed_now) (guards x) (guards_now x) (suc j) x (new x) le next

            under : (guards_now x ≡ guards x) ⊎ ((guards x ≤ j) × (guards_now x ≡ suc j) ⊎ (guards_now x ≤ guards x) × (guards x ≤ j) × ((v : V) × (effect (act c j x) (after c j) ≡ becomes v))) → Stands c (Copied c passed_now) (guards_now x) (suc j) x (new x)
            under (inl guard) = subst (λ g. Stands c (Copied c passed_now) g (suc j) x (new x)) (sym guard) next
            under (inr (inl (le, is))) = up_to (omega arith)
            under (inr (inr (down, le, renews))) = up_to (omega arith)

    kept_part : (x : C) → Kept c (Copied c passed_now) (guards_now x) x
    kept_part x i (is, lt) i_op over = by (goes.for_good x)
      where
        wide : (guard : ℕ) → Doomed c (Copied c passed) guard (suc i) x → Doomed c (Copied c passed_now) guard (suc i) x
        wide guard doom = record { when = doom.when; from_guard = doom.from_guard; reached = doom.reached; is_op = doom.is_op; value = doom.value; gives = doom.gives; free = λ t z to source. more_part t z (doom.free t z to source) }

        was : i < passed x → Doomed c (Copied c passed_now) (guards_now x) (suc i) x
        was lt = under (goes.each x)
          where
            again : guards x ≤ i → Doomed c (Copied c passed_now) (guards_now x) (suc i) x
            again le = kept_at c (Copied c passed_now) (guards x) (guards_now x) i x over (wide (guards x) (held.kept x i (is, lt) i_op le))

            under : ReachedOne c j old new guards guards_now passed passed_now place x → Doomed c (Copied c passed_now) (guards_now x) (suc i) x
            under (inl (same, guard)) = again (omega arith)
            under (inr (place_is, given, guarded, copied)) = deep guarded.is
              where
                deep : (guards_now x ≡ guards x) ⊎ ((guards x ≤ j) × (guards_now x ≡ suc j) ⊎ (guards_now x ≤ guards x) × (guards x ≤ j) × ((v : V) × (effect (act c j x) (after c j) ≡ becomes v))) → Doomed c (Copied c passed_now) (guards_now x) (suc i) x
                deep (inl guard) = again (omega arith)
                deep (inr (inl (le, up))) = again (omega arith)
                deep (inr (inr (down, le, renews))) = lost (sooner_or_not i (guards x))
                  where
                    lost : (i < guards x) ⊎ (guards x ≤ i) → Doomed c (Copied c passed_now) (guards_now x) (suc i) x
                    lost (inl sooner) = record { when = j; from_guard = omega arith; reached = omega arith; is_op = op; value = renews.0; gives = renews.1; free = freed_part x place_is copied }
                    lost (inr after) = again after

        by : (passed_now x ≤ passed x) ⊎ (passed_now x ≤ guards_now x) → Doomed c (Copied c passed_now) (guards_now x) (suc i) x
        by (inl no_more) = was (omega arith)
        by (inr guarded) = absurd (omega arith)

    pub keeps_part : AtEach c place new guards_now passed_now
    keeps_part = record { stands = stands_part; kept = kept_part }

  -- cells of one side are copied from cells of that side
  pub one_side : (passed passed_now : C → ℕ) (guard guard_now k : ℕ) (x : C) (v : V) → guard_now ≡ guard → ((j : ℕ) (z : C) → Source (act c j z) x → passed_now z ≡ passed z) → Stands c (Copied c passed) guard k x v → Stands c (Copied c passed_now) guard_now k x v
  one_side passed passed_now guard guard_now k x v same_guard same (inl alive) = inl (record { when = alive.when; from_guard = omega (arith, alive.from_guard); reached = alive.reached; by = alive.by; value = alive.value; free = λ j z lt source. ((alive.free j z lt source).0, subst (λ n. j < n) (sym (same j z source)) (alive.free j z lt source).1) })
  one_side passed passed_now guard guard_now k x v same_guard same (inr doom) = inr (record { when = doom.when; from_guard = omega (arith, doom.from_guard); reached = doom.reached; is_op = doom.is_op; value = doom.value; gives = doom.gives; free = λ j z lt source. ((doom.free j z lt source).0, subst (λ n. j < n) (sym (same j z source)) (doom.free j z lt source).1) })

  side_kept : (passed passed_now : C → ℕ) (guard guard_now : ℕ) (x : C) → guard_now ≡ guard → passed_now x ≡ passed x → ((j : ℕ) (z : C) → Source (act c j z) x → passed_now z ≡ passed z) → Kept c (Copied c passed) guard x → Kept c (Copied c passed_now) guard_now x
  side_kept passed passed_now guard guard_now x same_guard here same kept i (is, lt) op over =
      let doom = kept i (is, omega arith) op (omega arith) in
      record { when = doom.when; from_guard = omega (arith, doom.from_guard); reached = doom.reached; is_op = doom.is_op; value = doom.value; gives = doom.gives; free = λ j z to source. ((doom.free j z to source).0, subst (λ n. j < n) (sym (same j z source)) (doom.free j z to source).1) }

  pub raised_guards : (place : C → ℕ) (cells : C → V) (guards guards_now passed : C → ℕ) → AtEach c place cells guards passed → ((x : C) → (guards_now x ≡ guards x) ⊎ (guards x ≤ guards_now x) × (guards_now x ≤ place x)) → AtEach c place cells guards_now passed
  raised_guards place cells guards guards_now passed held each = record { stands = λ x. stands x (each x); kept = λ x. kept x (each x) }
    where
      stands : (x : C) → (guards_now x ≡ guards x) ⊎ (guards x ≤ guards_now x) × (guards_now x ≤ place x) → Stands c (Copied c passed) (guards_now x) (place x) x (cells x)
      stands x (inl same) = subst (λ g. Stands c (Copied c passed) g (place x) x (cells x)) (sym same) (held.stands x)
      stands x (inr (up, le)) = stands_guarded c (Copied c passed) (guards x) (guards_now x) (place x) x (cells x) le (held.stands x)

      kept : (x : C) → (guards_now x ≡ guards x) ⊎ (guards x ≤ guards_now x) × (guards_now x ≤ place x) → Kept c (Copied c passed) (guards_now x) x
      kept x (inl same) = subst (λ g. Kept c (Copied c passed) g x) (sym same) (held.kept x)
      kept x (inr (up, le)) = kept_guarded c (Copied c passed) (guards x) (guards_now x) x up (held.kept x)

  pub lowered : (place : C → ℕ) (cells : C → V) (guards guards_now passed : C → ℕ) → AtEach c place cells guards passed
      → ((x : C) → (guards_now x ≡ guards x) ⊎ ((r : ℕ) × (suc r ≡ guards x) × (guards_now x ≤ r) × (r < length c.ops) × ((v : V) × (act c r x ≡ sets v)))) → AtEach c place cells guards_now passed
  lowered place cells guards guards_now passed held each = record { stands = λ x. stands x (each x); kept = λ x. kept x (each x) }
    where
      stands : (x : C) → (guards_now x ≡ guards x) ⊎ ((r : ℕ) × (suc r ≡ guards x) × (guards_now x ≤ r) × (r < length c.ops) × ((v : V) × (act c r x ≡ sets v))) → Stands c (Copied c passed) (guards_now x) (place x) x (cells x)
      stands x (inl same) = subst (λ g. Stands c (Copied c passed) g (place x) x (cells x)) (sym same) (held.stands x)
      stands x (inr (r, is, le, op, renews)) = down (held.stands x)
        where
          down : Stands c (Copied c passed) (guards x) (place x) x (cells x) → Stands c (Copied c passed) (guards_now x) (place x) x (cells x)
          down (inl alive) = inl (record { when = alive.when; from_guard = omega (arith, alive.from_guard); reached = alive.reached; by = alive.by; value = alive.value; free = alive.free })
          down (inr doom) = inr (record { when = doom.when; from_guard = omega (arith, doom.from_guard); reached = doom.reached; is_op = doom.is_op; value = doom.value; gives = doom.gives; free = doom.free })

      kept : (x : C) → (guards_now x ≡ guards x) ⊎ ((r : ℕ) × (suc r ≡ guards x) × (guards_now x ≤ r) × (r < length c.ops) × ((v : V) × (act c r x ≡ sets v))) → Kept c (Copied c passed) (guards_now x) x
      kept x (inl same) = subst (λ g. Kept c (Copied c passed) g x) (sym same) (held.kept x)
      kept x (inr (r, is, le, op, renews)) = λ i copied i_op over. doom i copied i_op over (which i r)
        where
          which : (i r : ℕ) → (i ≡ r) ⊎ ((i < r) ⊎ (r < i))
          which i r = grind arith

          freed : Free c (Copied c passed) x (suc r)
          freed t z to source = of (held.stands x)
            where
              of : Stands c (Copied c passed) (guards x) (place x) x (cells x) → Copied c passed t z
              of (inl alive) = alive.free t z (omega (arith, alive.from_guard)) source
              of (inr doom) = doom.free t z (omega (arith, doom.from_guard)) source

          doom : (i : ℕ) → Copied c passed i x → i < length c.ops → guards_now x ≤ i → (i ≡ r) ⊎ ((i < r) ⊎ (r < i)) → Doomed c (Copied c passed) (guards_now x) (suc i) x
          doom i (copy, lt) i_op over (inl same) = absurd (subst IsCopy (ap (λ t. act c t x) same ∙ renews.1) copy)
          doom i (copy, lt) i_op over (inr (inl sooner)) = record { when = r; from_guard = le; reached = omega arith; is_op = op; value = renews.0; gives = ap (λ a. effect a (after c r)) renews.1; free = freed }
          doom i (copy, lt) i_op over (inr (inr later)) = kept_at c (Copied c passed) (guards x) (guards_now x) i x over (held.kept x i (copy, lt) i_op (omega arith))

  pub any_value : (place : C → ℕ) (cells new : C → V) (guards passed : C → ℕ) → AtEach c place cells guards passed → ((x : C) → (new x ≡ cells x) ⊎ Doomed c (Copied c passed) (guards x) (place x) x) → AtEach c place new guards passed
  any_value place cells new guards passed held each = record { stands = λ x. stands x (each x); kept = held.kept }
    where
      stands : (x : C) → (new x ≡ cells x) ⊎ Doomed c (Copied c passed) (guards x) (place x) x → Stands c (Copied c passed) (guards x) (place x) x (new x)
      stands x (inl same) = subst (λ v. Stands c (Copied c passed) (guards x) (place x) x v) (sym same) (held.stands x)
      stands x (inr doom) = inr doom

  pub two_sides : (side : C → Bool) → ((j : ℕ) (z x : C) → Source (act c j z) x → side z ≡ side x) → (place place_other : C → ℕ) (cells other : C → V) (guards guards_other passed passed_other : C → ℕ) → AtEach c place cells guards passed → AtEach c place_other other guards_other passed_other
      → AtEach c (λ x. cond (side x) (place_other x) (place x)) (λ x. cond (side x) (other x) (cells x)) (λ x. cond (side x) (guards_other x) (guards x)) (λ x. cond (side x) (passed_other x) (passed x))
  two_sides side apart place place_other cells other guards guards_other passed passed_other one two = record { stands = λ x. stands x (side x) refl; kept = λ x. kept x (side x) refl }
    where
      at_side : (x : C) (b : Bool) → side x ≡ b → (j : ℕ) (z : C) → Source (act c j z) x → cond (side z) (passed_other z) (passed z) ≡ cond b (passed_other z) (passed z)
      at_side x b is j z source = ap (λ t. cond t (passed_other z) (passed z)) (apart j z x source ∙ is)

      stands : (x : C) (b : Bool) → side x ≡ b → Stands c (Copied c (λ z. cond (side z) (passed_other z) (passed z))) (cond (side x) (guards_other x) (guards x)) (cond (side x) (place_other x) (place x)) x (cond (side x) (other x) (cells x))
      stands x true is =
          subst (λ v. Stands c (Copied c (λ z. cond (side z) (passed_other z) (passed z))) (cond (side x) (guards_other x) (guards x)) (cond (side x) (place_other x) (place x)) x v) (sym (ap (λ t. cond t (other x) (cells x)) is))
          (subst (λ k. Stands c (Copied c (λ z. cond (side z) (passed_other z) (passed z))) (cond (side x) (guards_other x) (guards x)) k x (other x)) (sym (ap (λ t. cond t (place_other x) (place x)) is))
          (one_side passed_other (λ z. cond (side z) (passed_other z) (passed z)) (guards_other x) _ (place_other x) x (other x) (ap (λ t. cond t (guards_other x) (guards x)) is) (at_side x true is) (two.stands x)))
      stands x false is =
          subst (λ v. Stands c (Copied c (λ z. cond (side z) (passed_other z) (passed z))) (cond (side x) (guards_other x) (guards x)) (cond (side x) (place_other x) (place x)) x v) (sym (ap (λ t. cond t (other x) (cells x)) is))
          (subst (λ k. Stands c (Copied c (λ z. cond (side z) (passed_other z) (passed z))) (cond (side x) (guards_other x) (guards x)) k x (cells x)) (sym (ap (λ t. cond t (place_other x) (place x)) is))
          (one_side passed (λ z. cond (side z) (passed_other z) (passed z)) (guards x) _ (place x) x (cells x) (ap (λ t. cond t (guards_other x) (guards x)) is) (at_side x false is) (one.stands x)))

      kept : (x : C) (b : Bool) → side x ≡ b → Kept c (Copied c (λ z. cond (side z) (passed_other z) (passed z))) (cond (side x) (guards_other x) (guards x)) x
      kept x true is = side_kept passed_other (λ z. cond (side z) (passed_other z) (passed z)) (guards_other x) _ x (ap (λ t. cond t (guards_other x) (guards x)) is) (ap (λ t. cond t (passed_other x) (passed x)) is) (at_side x true is) (two.kept x)
      kept x false is = side_kept passed (λ z. cond (side z) (passed_other z) (passed z)) (guards x) _ x (ap (λ t. cond t (guards_other x) (guards x)) is) (ap (λ t. cond t (passed_other x) (passed x)) is) (at_side x false is) (one.kept x)

  pub exact_one : (j : ℕ) (old new : C → V) (place place_now : C → ℕ) → Exact c place old → ((x : C) → DoneOne c j old new place place_now x) → ((z y : C) → Source (act c j z) y → (place y ≤ j) × Still c (place y) j y) → Exact c place_now new
  exact_one j old new place place_now exact done reads x = by (done x)
    where
      read : (y : C) → Source (act c j x) y → old y ≡ after c j y
      read y source = exact y ∙ still_there c y (place y) (j - place y) j (omega (arith, (reads x y source).0)) (reads x y source).1

      by : DoneOne c j old new place place_now x → new x ≡ after c (place_now x) x
      by (inl (place_is, now_is, gives)) =
          gives ∙ ap (λ e. moved c.raise e (old x)) (effect_agrees (act c j x) old (after c j) read) ∙ ap (moved c.raise (effect (act c j x) (after c j))) (exact x ∙ ap (λ k. after c k x) place_is) ∙ sym (after_more c j x) ∙ ap (λ k. after c k x) (sym now_is)
      by (inr (same, value)) = value ∙ exact x ∙ ap (λ k. after c k x) (sym same)

  pub exact_on : (place place_now : C → ℕ) (cells : C → V) → Exact c place cells → ((x : C) → (place x ≤ place_now x) × Still c (place x) (place_now x) x) → Exact c place_now cells
  exact_on place place_now cells exact still x = exact x ∙ still_there c x (place x) (place_now x - place x) (place_now x) (omega (arith, (still x).0)) (still x).1

  -- a cell that no op from i up to k changes stands at k as it does at i
  idle_cell : (passed : C → ℕ) (guard i k : ℕ) (x : C) (v : V) → Passed c passed i k x → Stands c (Copied c passed) guard i x v → Stands c (Copied c passed) guard k x v
  idle_cell passed guard i k x v idle (inl alive) = by (sooner_or_not alive.when k)
    where
      free_on : alive.when < k → Free c (Copied c passed) x k
      free_on lt t z to source = which (sooner_or_not t alive.when)
        where
          which : (t < alive.when) ⊎ (alive.when ≤ t) → Copied c passed t z
          which (inl sooner) = alive.free t z sooner source
          which (inr later) = (source_copies (act c t z) x source, idle.copied t z (omega (arith, alive.reached)) to source)

      by : (alive.when < k) ⊎ (k ≤ alive.when) → Stands c (Copied c passed) guard k x v
      by (inr later) = inl (record { when = alive.when; from_guard = alive.from_guard; reached = later; by = alive.by; value = alive.value; free = alive.free })
      by (inl sooner) = inl (record {
        when = k;
        from_guard = omega (arith, alive.from_guard);
        reached = omega arith;
        by = idle.to;
        value = alive.value ∙ still_there c x alive.when (k - alive.when) k (omega arith) (λ t from to. idle.still t (omega (arith, alive.reached)) to);
        free = free_on sooner;
      })
  idle_cell passed guard i k x v idle (inr doom) = by (sooner_or_not doom.when k)
    where
      by : (doom.when < k) ⊎ (k ≤ doom.when) → Stands c (Copied c passed) guard k x v
      by (inl sooner) = absurd (stays_not (sym (idle.still doom.when doom.reached sooner) ∙ doom.gives))
      by (inr later) = inr (record { when = doom.when; from_guard = doom.from_guard; reached = later; is_op = doom.is_op; value = doom.value; gives = doom.gives; free = doom.free })

  pub idles_on : (place place_now : C → ℕ) (cells : C → V) (guards passed : C → ℕ) → AtEach c place cells guards passed → ((x : C) → Passed c passed (place x) (place_now x) x) → AtEach c place_now cells guards passed
  idles_on place place_now cells guards passed held idle = record { stands = λ x. idle_cell passed (guards x) (place x) (place_now x) x (cells x) (idle x) (held.stands x); kept = held.kept }

  pub goes_back : (place place_now : C → ℕ) (cells : C → V) (guards passed : C → ℕ) → AtEach c place cells guards passed → ((x : C) → place_now x ≤ place x) → AtEach c place_now cells guards passed
  goes_back place place_now cells guards passed held le = record { stands = λ x. stands_before c (Copied c passed) (guards x) (place_now x) (place x) x (cells x) (le x) (held.stands x); kept = held.kept }

  pub settles_on : (place : C → ℕ) (cells : C → V) (guards passed passed_now : C → ℕ) → AtEach c place cells guards passed → ((x : C) → passed x ≤ passed_now x) → ((x : C) → (passed_now x ≤ passed x) ⊎ (passed_now x ≤ guards x)) → AtEach c place cells guards passed_now
  settles_on place cells guards passed passed_now held further for_good = record {
    stands = λ x. stands_settled c (Copied c passed) (Copied c passed_now) (guards x) (place x) x (cells x) wider (held.stands x);
    kept = λ x. kept_settled c (Copied c passed) (Copied c passed_now) (guards x) x wider (λ i is. was i x is (for_good x)) (held.kept x);
  }
    where
      wider : (i : ℕ) (z : C) → Copied c passed i z → Copied c passed_now i z
      wider i z (is, lt) =
          let up : passed z ≤ passed_now z = further z in
          (is, omega arith)

      was : (i : ℕ) (x : C) → Copied c passed_now i x → (passed_now x ≤ passed x) ⊎ (passed_now x ≤ guards x) → Copied c passed i x ⊎ (i < guards x)
      was i x (is, lt) (inl no_more) = inl (is, omega arith)
      was i x (is, lt) (inr guarded) = inr (omega arith)

  pub mixes_of : (place place_other : C → ℕ) (cells other mix : C → V) (guards guards_other guards_mix passed : C → ℕ) → AtEach c place cells guards passed → AtEach c place_other other guards_other passed
      → ((x : C) → (mix x ≡ cells x) × (guards_mix x ≡ guards x) ⊎ (mix x ≡ other x) × (guards_mix x ≡ guards_other x) × (place x ≤ place_other x)) → AtEach c place mix guards_mix passed
  mixes_of place place_other cells other mix guards guards_other guards_mix passed one two each = record { stands = λ x. stands x (each x); kept = λ x. kept x (each x) }
    where
      stands : (x : C) → OfTwo cells other mix guards guards_other guards_mix place place_other x → Stands c (Copied c passed) (guards_mix x) (place x) x (mix x)
      stands x (inl (value, guard)) = subst (λ g. Stands c (Copied c passed) g (place x) x (mix x)) (sym guard) (subst (λ v. Stands c (Copied c passed) (guards x) (place x) x v) (sym value) (one.stands x))
      stands x (inr (value, guard, le)) =
          subst (λ g. Stands c (Copied c passed) g (place x) x (mix x)) (sym guard)
          (subst (λ v. Stands c (Copied c passed) (guards_other x) (place x) x v) (sym value) (stands_before c (Copied c passed) (guards_other x) (place x) (place_other x) x (other x) le (two.stands x)))

      kept : (x : C) → OfTwo cells other mix guards guards_other guards_mix place place_other x → Kept c (Copied c passed) (guards_mix x) x
      kept x (inl (value, guard)) = subst (λ g. Kept c (Copied c passed) g x) (sym guard) (one.kept x)
      kept x (inr (value, guard, le)) = subst (λ g. Kept c (Copied c passed) g x) (sym guard) (two.kept x)

pub good_there : {C V : Type 0} (c : Case C V) (d : ℕ) (cells : C → V) (guards passed : C → ℕ) → d ≤ length c.ops → AtEach c (λ x. d) cells guards passed → GoodStart (from_there c d cells guards)
good_there {C} {V} c d cells guards passed le held = start_is_good (from_there c d cells guards) (λ i z. Copied c passed (d + i) z) (record { stands = stands; kept = kept })
  where
    from_d : Carries c (from_there c d cells guards) d
    from_d = record { acts = (shorter c d).acts; states = (shorter c d).states; lengths = (shorter c d).lengths }

    stands : (x : C) → Stands (from_there c d cells guards) (λ i z. Copied c passed (d + i) z) (guards x - d) 0 x (cells x)
    stands x =
        let zero_more : d + 0 ≡ d = omega arith in
        stands_then c (from_there c d cells guards) (Copied c passed) d from_d (guards x) 0 x (cells x) (subst (λ i. Stands c (Copied c passed) (guards x) i x (cells x)) (sym zero_more) (held.stands x))

    kept : (x : C) → Kept (from_there c d cells guards) (λ i z. Copied c passed (d + i) z) (guards x - d) x
    kept x = kept_then c (from_there c d cells guards) (Copied c passed) d from_d (guards x) x (λ i is. copy_is_op c.ops i x is.0) (held.kept x)

pub rebased : {C V : Type 0} (c : Case C V) (d : ℕ) (cells : C → V) (guards passed : C → ℕ) → d ≤ length c.ops → AtEach c (λ x. d) cells guards passed → AtEach (from_there c d cells guards) (λ x. 0) cells (λ x. guards x - d) (λ x. passed x - d)
rebased {C} {V} c d cells guards passed le held = record { stands = stands; kept = kept }
  where
    from_d : Carries c (from_there c d cells guards) d
    from_d = record { acts = (shorter c d).acts; states = (shorter c d).states; lengths = (shorter c d).lengths }

    act_is : (i : ℕ) (z : C) → act (from_there c d cells guards) i z ≡ act c (d + i) z
    act_is i z = ap (λ op. op z) (get_or-drop d c.ops i (λ x. leaves))

    now : (i : ℕ) (z : C) → Copied c passed (d + i) z → Copied (from_there c d cells guards) (λ x. passed x - d) i z
    now i z (is, lt) = (subst IsCopy (sym (act_is i z)) is, omega arith)

    before : (i : ℕ) (z : C) → Copied (from_there c d cells guards) (λ x. passed x - d) i z → Copied c passed (d + i) z
    before i z (is, lt) = (subst IsCopy (act_is i z) is, omega arith)

    stands : (x : C) → Stands (from_there c d cells guards) (Copied (from_there c d cells guards) (λ z. passed z - d)) (guards x - d) 0 x (cells x)
    stands x =
        let zero_more : d + 0 ≡ d = omega arith in
        stands_settled (from_there c d cells guards) (λ i z. Copied c passed (d + i) z) (Copied (from_there c d cells guards) (λ z. passed z - d)) (guards x - d) 0 x (cells x) now
        (stands_then c (from_there c d cells guards) (Copied c passed) d from_d (guards x) 0 x (cells x) (subst (λ i. Stands c (Copied c passed) (guards x) i x (cells x)) (sym zero_more) (held.stands x)))

    kept : (x : C) → Kept (from_there c d cells guards) (Copied (from_there c d cells guards) (λ z. passed z - d)) (guards x - d) x
    kept x i is op over = wider (kept_then c (from_there c d cells guards) (Copied c passed) d from_d (guards x) x (λ t was. copy_is_op c.ops t x was.0) (held.kept x) i (before i x is) op over)
      where
        wider : Doomed (from_there c d cells guards) (λ t z. Copied c passed (d + t) z) (guards x - d) (suc i) x → Doomed (from_there c d cells guards) (Copied (from_there c d cells guards) (λ z. passed z - d)) (guards x - d) (suc i) x
        wider doom = record { when = doom.when; from_guard = doom.from_guard; reached = doom.reached; is_op = doom.is_op; value = doom.value; gives = doom.gives; free = λ t z lt source. now t z (doom.free t z lt source) }

pub restarted : {C V : Type 0} (c : Case C V) (start : C → V) (skips place : C → ℕ) (cells : C → V) (guards passed : C → ℕ) → AtEach c place cells guards passed → AtEach (record { raise = c.raise; ops = c.ops; before = c.before; start = start; skips = skips }) place cells guards passed
restarted {C} {V} c start skips place cells guards passed held = record { stands = λ x. stands x (held.stands x); kept = λ x i is op over. doom x (suc i) (held.kept x i is op over) }
  where
    doom : (x : C) (k : ℕ) → Doomed c (Copied c passed) (guards x) k x → Doomed (record { raise = c.raise; ops = c.ops; before = c.before; start = start; skips = skips }) (Copied c passed) (guards x) k x
    doom x k d = record { when = d.when; from_guard = d.from_guard; reached = d.reached; is_op = d.is_op; value = d.value; gives = d.gives; free = d.free }

    stands : (x : C) → Stands c (Copied c passed) (guards x) (place x) x (cells x) → Stands (record { raise = c.raise; ops = c.ops; before = c.before; start = start; skips = skips }) (Copied c passed) (guards x) (place x) x (cells x)
    stands x (inl alive) = inl (record { when = alive.when; from_guard = alive.from_guard; reached = alive.reached; by = alive.by; value = alive.value; free = alive.free })
    stands x (inr d) = inr (doom x (place x) d)

pub more_ops : {C V : Type 0} (c : Case C V) (ops : List (C → Act C V)) (place : C → ℕ) (cells : C → V) (guards passed : C → ℕ) → ((x : C) → passed x ≤ length c.ops) → AtEach c place cells guards passed → AtEach (with_more c ops) place cells guards passed
more_ops {C} {V} c ops place cells guards passed bound held = record { stands = stands; kept = kept }
  where
    from_0 : Carries c (with_more c ops) 0
    from_0 = longer c ops

    act_is : (j : ℕ) (z : C) → j < length c.ops → act (with_more c ops) j z ≡ act c j z
    act_is j z lt = from_0.acts j z (rw (zero-add j) lt) ∙ ap (λ t. act c t z) (zero-add j)

    now : (i : ℕ) (z : C) → Copied c passed (0 + i) z → Copied (with_more c ops) passed i z
    now i z (is, lt) =
        let same : 0 + i ≡ i = zero-add i in
        let op : i < length c.ops = subst (λ t. t < length c.ops) same (copy_is_op c.ops (0 + i) z is) in
        (subst IsCopy (sym (act_is i z op)) (subst (λ t. IsCopy (act c t z)) same is), subst (λ t. t < passed z) same lt)

    before : (i : ℕ) (z : C) → Copied (with_more c ops) passed i z → Copied c passed (0 + i) z
    before i z (is, lt) =
        let same : i ≡ 0 + i = sym (zero-add i) in
        let up : passed z ≤ length c.ops = bound z in
        (subst (λ t. IsCopy (act c t z)) same (subst IsCopy (act_is i z (omega arith)) is), subst (λ t. t < passed z) same lt)

    no_less : (g : ℕ) → g - 0 ≡ g
    no_less g = omega arith

    stands : (x : C) → Stands (with_more c ops) (Copied (with_more c ops) passed) (guards x) (place x) x (cells x)
    stands x = stands_settled (with_more c ops) (λ i z. Copied c passed (0 + i) z) (Copied (with_more c ops) passed) (guards x) (place x) x (cells x) now
        (subst (λ g. Stands (with_more c ops) (λ i z. Copied c passed (0 + i) z) g (place x) x (cells x)) (no_less (guards x))
        (stands_then c (with_more c ops) (Copied c passed) 0 from_0 (guards x) (place x) x (cells x) (subst (λ i. Stands c (Copied c passed) (guards x) i x (cells x)) (sym (zero-add (place x))) (held.stands x))))

    kept : (x : C) → Kept (with_more c ops) (Copied (with_more c ops) passed) (guards x) x
    kept x i is op over = wider (kept_then c (with_more c ops) (Copied c passed) 0 from_0 (guards x) x (λ t was. copy_is_op c.ops t x was.0) (held.kept x) i (before i x is) op (subst (λ g. g ≤ i) (sym (no_less (guards x))) over))
      where
        wider : Doomed (with_more c ops) (λ t z. Copied c passed (0 + t) z) (guards x - 0) (suc i) x → Doomed (with_more c ops) (Copied (with_more c ops) passed) (guards x) (suc i) x
        wider doom = record { when = doom.when; from_guard = omega (arith, doom.from_guard); reached = doom.reached; is_op = doom.is_op; value = doom.value; gives = doom.gives; free = λ t z lt source. now t z (doom.free t z lt source) }

pub places_law : {C V : Type 0} → PlacesLaw C V
places_law = record {
  keeps = λ c laws j op old new guards guards_now passed passed_now place place_now held goes. keeps_one c laws j op old new guards guards_now passed passed_now place place_now held goes;
  keeps_within = λ c laws j op old new guards guards_now passed passed_now place held goes. keeps_part c laws j op old new guards guards_now passed passed_now place held goes;
  sides = λ c side apart place place_other cells other guards guards_other passed passed_other one two. two_sides c side apart place place_other cells other guards guards_other passed passed_other one two;
  raised = λ c place cells guards guards_now passed held each. raised_guards c place cells guards guards_now passed held each;
  lowers = λ c place cells guards guards_now passed held each. lowered c place cells guards guards_now passed held each;
  anything = λ c place cells new guards passed held each. any_value c place cells new guards passed held each;
  idles = λ c place place_now cells guards passed held idle. idles_on c place place_now cells guards passed held idle;
  back = λ c place place_now cells guards passed held le. goes_back c place place_now cells guards passed held le;
  more = λ c ops place cells guards passed bound held. more_ops c ops place cells guards passed bound held;
  settles = λ c place cells guards passed passed_now held further for_good. settles_on c place cells guards passed passed_now held further for_good;
  mixes = λ c place place_other cells other mix guards guards_other guards_mix passed one two each. mixes_of c place place_other cells other mix guards guards_other guards_mix passed one two each;
  exact = λ c j old new place place_now held done reads. exact_one c j old new place place_now held done reads;
  exact_idles = λ c place place_now cells held still. exact_on c place place_now cells held still;
  rebase = λ c d cells guards passed le held. rebased c d cells guards passed le held;
  restarts = λ c start skips place cells guards passed held. restarted c start skips place cells guards passed held;
  good = λ c d cells guards passed le held. good_there c d cells guards passed le held;
}
