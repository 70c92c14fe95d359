-- What is kept goes on to be kept when ops come at the end, and when a commit takes the first ones away.
use Rattle.std.proofs.Common.{◌≡◌, inl, inr, ℕ, suc, ◌+◌, ◌-◌, ◌<◌, ◌≤◌, List, [], ◌∷◌, ◌++◌, length, take, drop, refl, sym, ◌∙◌, ap, subst, arith, length-append, length-drop}
use Rattle.std.proofs.Math.Nat.{zero-add}
use Rattle.std.proofs.Math.Seq.{take-add}
use Rattle.std.proofs.lemmas.List.{take-append-le, get_or_append_left, get_or-drop}
use Rattle.replay_laws.specs.Replay.{Act, effect, fold, Source, Case, act, after}
use Rattle.replay_laws.specs.Settled.{Free, Doomed, Stands, Kept, Carries}

module _ {C V : Type 0} (c later : Case C V) (settled : ℕ → C → Type 0) (d : ℕ) (carries : Carries c later d) where
  abbrev then : ℕ → C → Type 0
  then j z = settled (d + j) z

  state_at : (t : ℕ) → d ≤ t → t ≤ length c.ops → after later (t - d) ≡ after c t
  state_at t from to =
      let is : d + (t - d) ≡ t = omega arith in
      carries.states (t - d) (omega arith) ∙ ap (after c) is

  act_at : (t : ℕ) (x : C) → d ≤ t → t < length c.ops → act later (t - d) x ≡ act c t x
  act_at t x from to =
      let is : d + (t - d) ≡ t = omega arith in
      carries.acts (t - d) x (omega arith) ∙ ap (λ j. act c j x) is

  free_then : (x : C) (t s : ℕ) → t ≤ length c.ops → d + s ≤ t → Free c settled x t → Free later then x s
  free_then x t s to le free j z lt source = free (d + j) z (omega arith) (subst (λ a. Source a x) (carries.acts j z (omega arith)) source)

  doomed_then : (guard k : ℕ) (x : C) → Doomed c settled guard (d + k) x → Doomed later then (guard - d) k x
  doomed_then guard k x doom = record {
    when = m - d;
    from_guard = omega (arith, doom.from_guard);
    reached = omega (arith, doom.reached);
    is_op = omega (arith, doom.is_op, carries.lengths, from);
    value = doom.value;
    gives = ap (λ a. effect a (after later (m - d))) (act_at m x from doom.is_op) ∙ ap (effect (act c m x)) (state_at m from (omega (arith, doom.is_op))) ∙ doom.gives;
    free = free_then x (suc m) (suc (m - d)) doom.is_op (omega (arith, from)) doom.free;
  }
    where
      m : ℕ
      m = doom.when

      from : d ≤ m
      from = omega (arith, doom.reached)

  pub stands_then : (guard k : ℕ) (x : C) (v : V) → Stands c settled guard (d + k) x v → Stands later then (guard - d) k x v
  stands_then guard k x v (inr doom) = inr (doomed_then guard k x doom)
  stands_then guard k x v (inl alive) = inl (record {
    when = alive.when - d;
    from_guard = omega (arith, alive.from_guard);
    reached = omega (arith, alive.reached);
    by = omega (arith, alive.by, carries.lengths);
    value = alive.value ∙ sym (ap (λ s. s x) (state_at alive.when (omega (arith, alive.reached)) alive.by));
    free = free_then x alive.when (alive.when - d) alive.by (omega (arith, alive.reached)) alive.free;
  })

  pub kept_then : (guard : ℕ) (x : C) → ((j : ℕ) → settled j x → j < length c.ops) → Kept c settled guard x → Kept later then (guard - d) x
  kept_then guard x bound kept i is op over = doomed_then guard (suc i) x (subst (λ k. Doomed c settled guard k x) next (kept (d + i) is (bound (d + i) is) (omega arith)))
    where
      next : suc (d + i) ≡ d + suc i
      next = omega arith

pub fold_append : {C V : Type 0} (raise : ℕ → V → V) (first rest : List (C → Act C V)) (s : C → V) → fold raise (first ++ rest) s ≡ fold raise rest (fold raise first s)
fold_append raise [] rest s = refl
fold_append raise (op ∷ first) rest s = fold_append raise first rest _

-- more ops at the end
pub longer : {C V : Type 0} (c : Case C V) (more : List (C → Act C V)) → Carries c (record { raise = c.raise; ops = c.ops ++ more; before = c.before; start = c.start; skips = c.skips }) 0
longer c more = record {
  acts = λ j x lt. rw (zero-add j) (ap (λ op. op x) (get_or_append_left c.ops more _ j (omega arith)));
  states = λ j le. rw (zero-add j) (ap (λ ops. fold c.raise ops c.before) (take-append-le j c.ops more (omega arith)));
  lengths = omega (arith, length-append c.ops more);
}

-- the first ops are taken away
pub shorter : {C V : Type 0} (c : Case C V) (d : ℕ) → Carries c (record { raise = c.raise; ops = drop d c.ops; before = after c d; start = c.start; skips = λ x. c.skips x - d }) d
shorter c d = record {
  acts = λ j x lt. ap (λ op. op x) (get_or-drop d c.ops j _);
  states = λ j le. sym (ap (λ ops. fold c.raise ops c.before) (take-add d j c.ops) ∙ fold_append c.raise (take d c.ops) (take j (drop d c.ops)) c.before);
  lengths = omega (arith, length-drop d c.ops);
}
