-- What is kept makes each start good, and is kept by each step.
use Rattle.std.proofs.Common.{◌≡◌, ◌⊎◌, inl, inr, ℕ, zero, suc, ◌+◌, ◌-◌, ◌<◌, ◌≤◌, length, refl, sym, ◌∙◌, ap, subst, arith}
use Rattle.replay_laws.specs.Replay.{Effect, stays, becomes, rises, leaves, effect, moved, Raises, fold, Source, Case, act, after, Renews, Harmless, harmless, Had, RenewedBefore, GoodStart}
use Rattle.replay_laws.specs.Settled.{Free, Alive, Doomed, Stands, Kept, MayStart, Given}
use Rattle.replay_laws.proofs.Walk.{same_or_later, sooner_or_not, run, gather_source, effect_agrees, doing, after_more, runs, fold_all}

at_most_or_more : (t j : ℕ) → (t ≤ j) ⊎ (j < t)
at_most_or_more t j = grind arith

-- a guard may be anything up to where the cell has been gone past
pub stands_guarded : {C V : Type 0} (c : Case C V) (settled : ℕ → C → Type 0) (old new k : ℕ) (x : C) (v : V) → new ≤ k → Stands c settled old k x v → Stands c settled new k x v
stands_guarded c settled old new k x v le (inl alive) = inl (record { when = alive.when; from_guard = omega (arith, alive.reached); reached = alive.reached; by = alive.by; value = alive.value; free = alive.free })
stands_guarded c settled old new k x v le (inr doom) = inr (record { when = doom.when; from_guard = omega (arith, doom.reached); reached = doom.reached; is_op = doom.is_op; value = doom.value; gives = doom.gives; free = doom.free })

abbrev IsStay : {V : Type 0} → Effect V → Type 0
IsStay stays = Unit {0}
IsStay (becomes v) = ⊥
IsStay (rises n) = ⊥

pub stays_not : {V : Type 0} {v : V} → stays ≡ becomes v → ⊥
stays_not is = subst IsStay is tt

-- a cell that no op changes from i up to k
pub still_there : {C V : Type 0} (c : Case C V) (y : C) (i d k : ℕ) → k ≡ i + d → ((t : ℕ) → i ≤ t → t < k → effect (act c t y) (after c t) ≡ stays) → after c i y ≡ after c k y
still_there c y i zero k is still =
    let same : i ≡ k = omega arith in
    ap (λ j. after c j y) same
still_there c y i (suc d) k is still =
    sym (after_more c i y ∙ ap (λ e. moved c.raise e (after c i y)) (still i (omega arith) (omega arith))) ∙ still_there c y (suc i) d k (omega arith) (λ t from to. still t (omega arith) (omega arith))

module _ {C V : Type 0} (c : Case C V) (settled : ℕ → C → Type 0) where
  renewing : (x : C) (k : ℕ) → (doom : Doomed c settled (c.skips x) k x) → Renews c doom.when x
  renewing x k doom = record { is_op = doom.is_op; not_skipped = doom.from_guard; value = doom.value; gives = doom.gives }

  no_harm : MayStart c settled → (d i : ℕ) (z : C) → length c.ops ≤ i + d → settled i z → i < length c.ops → c.skips z ≤ i → Harmless c i z
  no_harm start zero i z room is op over = absurd (omega arith)
  no_harm start (suc d) i z room is op over =
      let doom = start.kept z i is op over in
      harmless doom.when (omega (arith, doom.reached)) (renewing z (suc i) doom) (λ j w from to source over. no_harm start d j w (omega arith) (doom.free j w (omega arith) source) (omega (arith, doom.is_op)) over)

  pub start_is_good : MayStart c settled → GoodStart c
  start_is_good start = record { cells = λ x. value x (start.stands x); copied = copied }
    where
      value : (x : C) → Stands c settled (c.skips x) 0 x (c.start x) → Had c x (length c.ops) ⊎ RenewedBefore c x (length c.ops)
      value x (inl alive) = inl (record { when = alive.when; from_guard = alive.from_guard; by = alive.by; value = alive.value })
      value x (inr doom) = inr (doom.when, doom.is_op, renewing x 0 doom)

      copied : (j : ℕ) (x : C) → j < length c.ops → c.skips x ≤ j → Harmless c j x ⊎ ((y : C) → Source (act c j x) y → Had c y j ⊎ RenewedBefore c y j)
      copied j x op over = gather_source (λ y. Had c y j ⊎ RenewedBefore c y j) (act c j x) (λ y source. either y source (start.stands y))
        where
          safe : settled j x → Harmless c j x
          safe is = no_harm start (length c.ops) j x (omega arith) is op over

          had : (y : C) → Source (act c j x) y → (alive : Alive c settled (c.skips y) 0 y (c.start y)) → (alive.when ≤ j) ⊎ (j < alive.when) → Harmless c j x ⊎ (Had c y j ⊎ RenewedBefore c y j)
          had y source alive (inl le) = inr (inl (record { when = alive.when; from_guard = alive.from_guard; by = le; value = alive.value }))
          had y source alive (inr lt) = inl (safe (alive.free j x lt source))

          renewed : (y : C) → Source (act c j x) y → (doom : Doomed c settled (c.skips y) 0 y) → (doom.when < j) ⊎ (j ≤ doom.when) → Harmless c j x ⊎ (Had c y j ⊎ RenewedBefore c y j)
          renewed y source doom (inl lt) = inr (inr (doom.when, lt, renewing y 0 doom))
          renewed y source doom (inr le) = inl (safe (doom.free j x (omega arith) source))

          either : (y : C) → Source (act c j x) y → Stands c settled (c.skips y) 0 y (c.start y) → Harmless c j x ⊎ (Had c y j ⊎ RenewedBefore c y j)
          either y source (inl alive) = had y source alive (at_most_or_more alive.when j)
          either y source (inr doom) = renewed y source doom (sooner_or_not doom.when j)

  -- some op from k on, of d ops, sets the cell, or a raise may go first
  abbrev Raised : C → ℕ → ℕ → Type 0
  Raised x k d = ((m : ℕ) × (k ≤ m) × (m < k + d) × (w : V) × (doing c x m ≡ becomes w)) ⊎ ((n : ℕ) (v : V) → run c.raise (doing c x) d k (c.raise n v) ≡ c.raise n (run c.raise (doing c x) d k v))

  raised_more : Raises c.raise → (x : C) (k d : ℕ) (e : Effect V) → doing c x k ≡ e → Raised x (suc k) d → Raised x k (suc d)
  raised_more laws x k d e is (inl (m, from, to, w, sets)) = inl (m, omega arith, omega arith, w, sets)
  raised_more laws x k d stays is (inr goes) =
      inr (λ n v. subst (λ e. run c.raise (doing c x) d (suc k) (moved c.raise e (c.raise n v)) ≡ c.raise n (run c.raise (doing c x) d (suc k) (moved c.raise e v))) (sym is) (goes n v))
  raised_more laws x k d (becomes w) is (inr goes) = inl (k, omega arith, omega arith, w, is)
  raised_more laws x k d (rises m) is (inr goes) =
      inr (λ n v. subst (λ e. run c.raise (doing c x) d (suc k) (moved c.raise e (c.raise n v)) ≡ c.raise n (run c.raise (doing c x) d (suc k) (moved c.raise e v))) (sym is)
      (ap (run c.raise (doing c x) d (suc k)) (laws.either_way m n v) ∙ goes n (c.raise m v)))

  raised : Raises c.raise → (x : C) (d k : ℕ) → Raised x k d
  raised laws x zero k = inr (λ n v. refl)
  raised laws x (suc d) k = raised_more laws x k d (doing c x k) refl (raised laws x d (suc k))

  -- at a cell that an op raises, and that has gone further: it is renewed on the way, or has been raised
  pub stays_raised : Raises c.raise → (x : C) (k n t : ℕ) → doing c x k ≡ rises n → suc k ≤ t → ((m : ℕ) × (suc k ≤ m) × (m < t) × (w : V) × (doing c x m ≡ becomes w)) ⊎ (c.raise n (after c t x) ≡ after c t x)
  stays_raised laws x k n t is le = by (raised laws x (t - suc k) (suc k))
    where
      by : Raised x (suc k) (t - suc k) → ((m : ℕ) × (suc k ≤ m) × (m < t) × (w : V) × (doing c x m ≡ becomes w)) ⊎ (c.raise n (after c t x) ≡ after c t x)
      by (inl (m, from, to, w, sets)) = inl (m, from, omega arith, w, sets)
      by (inr goes) = inr (ap (c.raise n) (sym ends) ∙ ap (c.raise n) (goes n u) ∙ laws.once n _ ∙ sym (goes n u) ∙ ends)
        where
          u : V
          u = after c k x

          ends : run c.raise (doing c x) (t - suc k) (suc k) (c.raise n u) ≡ after c t x
          ends =
              let next : after c (suc k) x ≡ c.raise n u = after_more c k x ∙ ap (λ e. moved c.raise e (after c k x)) is in
              let there : suc k + (t - suc k) ≡ t = omega arith in
              ap (run c.raise (doing c x) (t - suc k) (suc k)) (sym next) ∙ runs c x (t - suc k) (suc k) ∙ ap (λ j. after c j x) there

  -- more may be settled
  pub stands_settled : (now : ℕ → C → Type 0) (guard k : ℕ) (x : C) (v : V) → ((j : ℕ) (z : C) → settled j z → now j z) → Stands c settled guard k x v → Stands c now guard k x v
  stands_settled now guard k x v more (inl alive) = inl (record { when = alive.when; from_guard = alive.from_guard; reached = alive.reached; by = alive.by; value = alive.value; free = λ j z lt source. more j z (alive.free j z lt source) })
  stands_settled now guard k x v more (inr doom) = inr (record { when = doom.when; from_guard = doom.from_guard; reached = doom.reached; is_op = doom.is_op; value = doom.value; gives = doom.gives; free = λ j z lt source. more j z (doom.free j z lt source) })

  -- What is read of a cell that stands at i by the copy at k, where no op from i up to k changes it: what the fold has
  -- there, or the copy is settled.
  pub reads_at : (g i k : ℕ) (x y : C) (v : V) → i ≤ k → ((t : ℕ) → i ≤ t → t < k → effect (act c t y) (after c t) ≡ stays) → Source (act c k x) y → Stands c settled g i y v → settled k x ⊎ (v ≡ after c k y)
  reads_at g i k x y v le still source (inl alive) = by (at_most_or_more alive.when k)
    where
      by : (alive.when ≤ k) ⊎ (k < alive.when) → settled k x ⊎ (v ≡ after c k y)
      by (inl sooner) = inr (alive.value ∙ still_there c y alive.when (k - alive.when) k (omega arith) (λ t from to. still t (omega (arith, alive.reached)) (omega arith)))
      by (inr later) = inl (alive.free k x later source)
  reads_at g i k x y v le still source (inr doom) = by (at_most_or_more k doom.when)
    where
      by : (k ≤ doom.when) ⊎ (doom.when < k) → settled k x ⊎ (v ≡ after c k y)
      by (inl later) = inl (doom.free k x (omega arith) source)
      by (inr sooner) = absurd (stays_not (sym (still doom.when doom.reached sooner) ∙ doom.gives))

  module _ (guard k : ℕ) (s : C → V) (laws : Raises c.raise) (op : k < length c.ops) (x : C) (v : V) (kept : Kept c settled guard x) (here : Stands c settled guard k x (s x))
      (reads : (y : C) → Source (act c k x) y → settled k x ⊎ (s y ≡ after c k y)) (given : Given c settled guard k s x v)
      (now : ℕ → C → Type 0) (more : (j : ℕ) (z : C) → settled j z → now j z) (each : (z : C) → Source (act c k z) x → now k z) where
    freed_now : Free c settled x k → Free c now x (suc k)
    freed_now free j z lt source = by (same_or_later j k (omega arith))
      where
        by : (j ≡ k) ⊎ (j < k) → now j z
        by (inl is) = subst (λ i. now i z) (sym is) (each z (subst (λ i. Source (act c i z) x) is source))
        by (inr sooner) = more j z (free j z sooner source)

    -- what the op gives is settled, or is what the fold gives
    right : guard ≤ k → settled k x ⊎ (v ≡ moved c.raise (doing c x k) (s x))
    right over = by (given.done over)
      where
        read : v ≡ moved c.raise (effect (act c k x) s) (s x) → settled k x ⊎ ((y : C) → Source (act c k x) y → s y ≡ after c k y) → settled k x ⊎ (v ≡ moved c.raise (doing c x k) (s x))
        read e (inl is) = inl is
        read e (inr same) = inr (e ∙ ap (λ f. moved c.raise f (s x)) (effect_agrees (act c k x) s (after c k) same))

        by : settled k x ⊎ (v ≡ moved c.raise (effect (act c k x) s) (s x)) → settled k x ⊎ (v ≡ moved c.raise (doing c x k) (s x))
        by (inl is) = inl is
        by (inr e) = read e (gather_source (λ y. s y ≡ after c k y) (act c k x) reads)

    abbrev Next : Type 0
    Next = Stands c now guard (suc k) x v

    wider : Stands c settled guard (suc k) x v → Next
    wider stands = stands_settled now guard (suc k) x v more stands

    caught_up : guard ≤ k → Free c now x (suc k) → v ≡ after c (suc k) x → Next
    caught_up over free e = inl (record { when = suc k; from_guard = omega arith; reached = omega arith; by = omega arith; value = e; free = free })

    -- at a cell that holds what a later op left
    ahead : (t : ℕ) → guard ≤ k → suc k ≤ t → t ≤ length c.ops → Free c settled x t → (e : Effect V) → doing c x k ≡ e → s x ≡ after c t x → v ≡ moved c.raise e (s x) → Next
    ahead t over later to free stays is was e = wider (inl (record { when = t; from_guard = omega arith; reached = later; by = to; value = e ∙ was; free = free }))
    ahead t over later to free (becomes w) is was e = caught_up over (λ j z lt source. more j z (free j z (omega arith) source)) (e ∙ sym (after_more c k x ∙ ap (λ f. moved c.raise f (after c k x)) is))
    ahead t over later to free (rises n) is was e = by (stays_raised laws x k n t is later)
      where
        by : ((m : ℕ) × (suc k ≤ m) × (m < t) × (w : V) × (doing c x m ≡ becomes w)) ⊎ (c.raise n (after c t x) ≡ after c t x) → Next
        by (inl (m, from, before, w, sets)) = wider (inr (record { when = m; from_guard = omega arith; reached = from; is_op = omega arith; value = w; gives = sets; free = λ j z lt source. free j z (omega arith) source }))
        by (inr same) = wider (inl (record { when = t; from_guard = omega arith; reached = later; by = to; value = e ∙ ap (c.raise n) was ∙ same; free = free }))

    -- one cell is gone past by the op
    pub cell_next : Stands c now guard (suc k) x v
    cell_next = by (sooner_or_not k guard) here
      where
        left_out : k < guard → Stands c settled guard k x (s x) → Next
        left_out sooner (inl alive) = wider (inl (record { when = alive.when; from_guard = alive.from_guard; reached = omega (arith, alive.from_guard); by = alive.by; value = given.left_out sooner ∙ alive.value; free = alive.free }))
        left_out sooner (inr doom) = wider (inr (record { when = doom.when; from_guard = doom.from_guard; reached = omega (arith, doom.from_guard); is_op = doom.is_op; value = doom.value; gives = doom.gives; free = doom.free }))

        doom_next : guard ≤ k → v ≡ moved c.raise (doing c x k) (s x) → (doom : Doomed c settled guard k x) → (k ≡ doom.when) ⊎ (k < doom.when) → Next
        doom_next over e doom (inl is) = caught_up over (λ j z lt source. more j z (doom.free j z (omega arith) source)) (e ∙ ap (λ f. moved c.raise f (s x)) gives ∙ sym (after_more c k x ∙ ap (λ f. moved c.raise f (after c k x)) gives))
          where
            gives : doing c x k ≡ becomes doom.value
            gives = subst (λ i. doing c x i ≡ becomes doom.value) (sym is) doom.gives
        doom_next over e doom (inr later) = wider (inr (record { when = doom.when; from_guard = doom.from_guard; reached = later; is_op = doom.is_op; value = doom.value; gives = doom.gives; free = doom.free }))

        alive_next : guard ≤ k → v ≡ moved c.raise (doing c x k) (s x) → (alive : Alive c settled guard k x (s x)) → (k ≡ alive.when) ⊎ (k < alive.when) → Next
        alive_next over e alive (inl is) = caught_up over (freed_now (λ j z lt source. alive.free j z (omega arith) source)) (e ∙ ap (moved c.raise (doing c x k)) (alive.value ∙ ap (λ j. after c j x) (sym is)) ∙ sym (after_more c k x))
        alive_next over e alive (inr later) = ahead alive.when over later alive.by alive.free (doing c x k) refl alive.value e

        exact : guard ≤ k → v ≡ moved c.raise (doing c x k) (s x) → Stands c settled guard k x (s x) → Next
        exact over e (inl alive) = alive_next over e alive (same_or_later k alive.when alive.reached)
        exact over e (inr doom) = doom_next over e doom (same_or_later k doom.when doom.reached)

        done : guard ≤ k → Stands c settled guard k x (s x) → settled k x ⊎ (v ≡ moved c.raise (doing c x k) (s x)) → Next
        done over was (inl is) = wider (inr (kept k is op over))
        done over was (inr e) = exact over e was

        by : (k < guard) ⊎ (guard ≤ k) → Stands c settled guard k x (s x) → Next
        by (inl sooner) was = left_out sooner was
        by (inr over) was = done over was (right over)

  -- what holds past an op holds at it
  pub stands_before : (guard k j : ℕ) (x : C) (v : V) → k ≤ j → Stands c settled guard j x v → Stands c settled guard k x v
  stands_before guard k j x v le (inl alive) = inl (record { when = alive.when; from_guard = alive.from_guard; reached = omega (arith, alive.reached); by = alive.by; value = alive.value; free = alive.free })
  stands_before guard k j x v le (inr doom) = inr (record { when = doom.when; from_guard = doom.from_guard; reached = omega (arith, doom.reached); is_op = doom.is_op; value = doom.value; gives = doom.gives; free = doom.free })

  pub kept_at : (old new i : ℕ) (x : C) → new ≤ i → Doomed c settled old (suc i) x → Doomed c settled new (suc i) x
  kept_at old new i x le doom = record { when = doom.when; from_guard = omega (arith, doom.reached); reached = doom.reached; is_op = doom.is_op; value = doom.value; gives = doom.gives; free = doom.free }

  pub kept_guarded : (old new : ℕ) (x : C) → old ≤ new → Kept c settled old x → Kept c settled new x
  kept_guarded old new x le kept i is op over = kept_at old new i x over (kept i is op (omega arith))

  -- a guard is lost where the op at r, which it does not leave out, renews the cell, and what is copied from it up to then is settled
  pub kept_lost : (old new : ℕ) (x : C) → new ≤ old → Doomed c settled old old x → Kept c settled old x → Kept c settled new x
  kept_lost old new x down doom kept i is op over = by (sooner_or_not i old)
    where
      by : (i < old) ⊎ (old ≤ i) → Doomed c settled new (suc i) x
      by (inl sooner) = record { when = doom.when; from_guard = omega (arith, doom.from_guard); reached = omega (arith, doom.from_guard); is_op = doom.is_op; value = doom.value; gives = doom.gives; free = doom.free }
      by (inr after) = kept_at old new i x over (kept i is op after)

  -- a copy is settled once the cell's guard leaves its op out
  pub kept_settled : (now : ℕ → C → Type 0) (guard : ℕ) (x : C) → ((j : ℕ) (z : C) → settled j z → now j z) → ((j : ℕ) → now j x → settled j x ⊎ (j < guard)) → Kept c settled guard x → Kept c now guard x
  kept_settled now guard x more new kept i is op over = by (new i is)
    where
      by : settled i x ⊎ (i < guard) → Doomed c now guard (suc i) x
      by (inl was) = wider (kept i was op over)
        where
          wider : Doomed c settled guard (suc i) x → Doomed c now guard (suc i) x
          wider doom = record { when = doom.when; from_guard = doom.from_guard; reached = doom.reached; is_op = doom.is_op; value = doom.value; gives = doom.gives; free = λ j z lt source. more j z (doom.free j z lt source) }
      by (inr left_out) = absurd (omega arith)

  -- past all ops there is one value
  pub stands_ends : (guard : ℕ) (x : C) (v : V) → Stands c settled guard (length c.ops) x v → v ≡ fold c.raise c.ops c.before x
  stands_ends guard x v (inl alive) = alive.value ∙ ap (λ j. after c j x) (omega (arith, alive.by, alive.reached)) ∙ fold_all c.raise c.ops c.before x
  stands_ends guard x v (inr doom) = absurd (omega (arith, doom.reached, doom.is_op))

  -- an op that leaves the cell, and copies nothing from it
  pub idle : (guard k : ℕ) (x : C) (v : V) → k < length c.ops → act c k x ≡ leaves → ((z : C) → Source (act c k z) x → ⊥) → Raises c.raise → Kept c settled guard x → Stands c settled guard k x v → Stands c settled guard (suc k) x v
  idle guard k x v op leaving none laws kept here =
      cell_next guard k (λ y. v) laws op x v kept here (λ y source. absurd (subst (λ a. Source a y) leaving source)) (record { left_out = λ lt. refl; done = λ le. inr (ap (λ a. moved c.raise (effect a (λ y. v)) v) (sym leaving)) }) settled (λ j z is. is) (λ z source. absurd (none z source))

  -- the whole op, live or on replay: all cells are gone past, guards are set or lost, what it copied is settled
  pub op_next : (now : ℕ → C → Type 0) (old new : C → ℕ) (k : ℕ) (s t : C → V) → Raises c.raise → k < length c.ops → ((x : C) → Kept c settled (old x) x) → ((x : C) → Stands c settled (old x) k x (s x)) → ((x : C) → Given c settled (old x) k s x (t x))
      → ((j : ℕ) (z : C) → settled j z → now j z) → ((z y : C) → Source (act c k z) y → now k z) → ((x : C) → (new x ≡ old x) ⊎ (new x ≤ suc k)) → (x : C) → Stands c now (new x) (suc k) x (t x)
  op_next now old new k s t laws op kept stands given more each guards x = by (guards x)
    where
      next : Stands c now (old x) (suc k) x (t x)
      next = cell_next (old x) k s laws op x (t x) (kept x) (stands x) (λ y source. reads_at (old y) k k x y (s y) (omega arith) (λ t from to. absurd (omega arith)) source (stands y)) (given x) now more (λ z source. each z x source)

      by : (new x ≡ old x) ⊎ (new x ≤ suc k) → Stands c now (new x) (suc k) x (t x)
      by (inl same) = subst (λ g. Stands c now g (suc k) x (t x)) (sym same) next
      by (inr le) = stands_guarded c now (old x) (new x) (suc k) x (t x) le next
