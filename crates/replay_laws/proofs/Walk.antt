-- Guarded replay ends in the fold.
use Rattle.std.proofs.Common.{◌≡◌, ◌⊎◌, inl, inr, ℕ, zero, suc, ◌+◌, ◌-◌, ◌<◌, ◌≤◌, List, [], ◌∷◌, map, length, take, get_or, refl, sym, ◌∙◌, ap, subst, arith, add-zero, add-suc}
use Rattle.std.proofs.Math.Nat.{suc-add, zero-add}
use Rattle.replay_laws.specs.Replay.{Effect, stays, becomes, rises, Act, leaves, sets, raises, copies, effect, moved, Raises, fold, Among, Source, Case, act, after, Renews, Harmless, harmless, Had, RenewedBefore, GoodStart, Passes, Replayed}

pub same_or_later : (k m : ℕ) → k ≤ m → (k ≡ m) ⊎ (k < m)
same_or_later k m le = grind arith

pub sooner_or_not : (k g : ℕ) → (k < g) ⊎ (g ≤ k)
sooner_or_not k g = grind arith

-- one more op
fold_more : {C V : Type 0} (raise : ℕ → V → V) (ops : List (C → Act C V)) (s : C → V) (k : ℕ) (x : C) → fold raise (take (suc k) ops) s x ≡ moved raise (effect (get_or ops k (λ _. leaves) x) (fold raise (take k ops) s)) (fold raise (take k ops) s x)
fold_more raise [] s zero x = refl
fold_more raise [] s (suc k) x = refl
fold_more raise (op ∷ ops) s zero x = refl
fold_more raise (op ∷ ops) s (suc k) x = fold_more raise ops _ k x

pub fold_all : {C V : Type 0} (raise : ℕ → V → V) (ops : List (C → Act C V)) (s : C → V) (x : C) → fold raise (take (length ops) ops) s x ≡ fold raise ops s x
fold_all raise [] s x = refl
fold_all raise (op ∷ ops) s x = fold_all raise ops _ x

-- what some effects make of a value: they forget it, or a raise may go first
abbrev Parted : {V : Type 0} → (ℕ → V → V) → (V → V) → Type 0
Parted {V} raise f = ((u v : V) → f u ≡ f v) ⊎ ((n : ℕ) (v : V) → f (raise n v) ≡ raise n (f v))

abbrev Again : {V : Type 0} → (V → V) → Type 0
Again {V} f = (v : V) → f (f v) ≡ f v

parted_more : {V : Type 0} (raise : ℕ → V → V) → Raises raise → (e : Effect V) (f : V → V) → Parted raise f → Parted raise (λ v. f (moved raise e v))
parted_more raise laws stays f parted = parted
parted_more raise laws (becomes w) f parted = inl (λ u v. refl)
parted_more raise laws (rises m) f (inl forgets) = inl (λ u v. forgets _ _)
parted_more raise laws (rises m) f (inr goes) = inr (λ n v. ap f (laws.either_way m n v) ∙ goes n (raise m v))

again_more : {V : Type 0} (raise : ℕ → V → V) → Raises raise → (e : Effect V) (f : V → V) → Parted raise f → Again f → Again (λ v. f (moved raise e v))
again_more raise laws stays f parted again = again
again_more raise laws (becomes w) f parted again = λ v. refl
again_more raise laws (rises m) f (inl forgets) again = λ v. forgets _ _
again_more raise laws (rises m) f (inr goes) again =
    λ v. goes m (f (raise m v)) ∙ ap (raise m) (again (raise m v)) ∙ ap (raise m) (goes m v) ∙ laws.once m (f v) ∙ sym (goes m v)

-- the effects of d ops from the one at k on
abbrev pub run : {V : Type 0} → (ℕ → V → V) → (ℕ → Effect V) → ℕ → ℕ → V → V
run raise e zero k v = v
run raise e (suc d) k v = run raise e d (suc k) (moved raise (e k) v)

parted : {V : Type 0} (raise : ℕ → V → V) → Raises raise → (e : ℕ → Effect V) (d k : ℕ) → Parted raise (run raise e d k)
parted raise laws e zero k = inr (λ n v. refl)
parted raise laws e (suc d) k = parted_more raise laws (e k) _ (parted raise laws e d (suc k))

again : {V : Type 0} (raise : ℕ → V → V) → Raises raise → (e : ℕ → Effect V) (d k : ℕ) → Again (run raise e d k)
again raise laws e zero k = λ v. refl
again raise laws e (suc d) k = again_more raise laws (e k) _ (parted raise laws e d (suc k)) (again raise laws e d (suc k))

run_on : {V : Type 0} (raise : ℕ → V → V) (e : ℕ → Effect V) (d₁ d₂ k : ℕ) (v : V) → run raise e (d₁ + d₂) k v ≡ run raise e d₂ (k + d₁) (run raise e d₁ k v)
run_on raise e zero d₂ k v = rw (zero-add d₂, add-zero k)
run_on raise e (suc d₁) d₂ k v = rw (suc-add d₁ d₂, add-suc k d₁, ← suc-add k d₁) (run_on raise e d₁ d₂ (suc k) (moved raise (e k) v))

gather : {C H : Type 0} (P : C → Type 0) (source : List C) → ((y : C) → Among y source → H ⊎ P y) → H ⊎ ((y : C) → Among y source → P y)
gather P [] each = inr (λ y none. absurd none)
gather {C} {H} P (z ∷ zs) each = both (each z (inl refl)) (gather P zs (λ y there. each y (inr there)))
  where
    one_of : P z → ((y : C) → Among y zs → P y) → (y : C) → Among y (z ∷ zs) → P y
    one_of here rest y (inl is) = subst P (sym is) here
    one_of here rest y (inr there) = rest y there

    both : H ⊎ P z → H ⊎ ((y : C) → Among y zs → P y) → H ⊎ ((y : C) → Among y (z ∷ zs) → P y)
    both (inl h) rest = inl h
    both (inr here) (inl h) = inl h
    both (inr here) (inr rest) = inr (one_of here rest)

pub gather_source : {C V H : Type 0} (P : C → Type 0) (a : Act C V) → ((y : C) → Source a y → H ⊎ P y) → H ⊎ ((y : C) → Source a y → P y)
gather_source P leaves each = inr (λ y none. absurd none)
gather_source P (sets v) each = inr (λ y none. absurd none)
gather_source P (raises n) each = inr (λ y none. absurd none)
gather_source P (copies source f) each = gather P source each

map_agrees : {C V : Type 0} (s t : C → V) (source : List C) → ((y : C) → Among y source → s y ≡ t y) → map s source ≡ map t source
map_agrees s t [] same = refl
map_agrees s t (z ∷ zs) same =
    let here : s z ≡ t z = same z (inl refl) in
    let rest : map s zs ≡ map t zs = map_agrees s t zs (λ y there. same y (inr there)) in
    cc

pub effect_agrees : {C V : Type 0} (a : Act C V) (s t : C → V) → ((y : C) → Source a y → s y ≡ t y) → effect a s ≡ effect a t
effect_agrees leaves s t same = refl
effect_agrees (sets v) s t same = refl
effect_agrees (raises n) s t same = refl
effect_agrees (copies source f) s t same = ap f (map_agrees s t source same)

module _ {C V : Type 0} (c : Case C V) where
  -- what the op at k does to x in the fold
  abbrev pub doing : C → ℕ → Effect V
  doing x k = effect (act c k x) (after c k)

  pub after_more : (k : ℕ) (x : C) → after c (suc k) x ≡ moved c.raise (doing x k) (after c k x)
  after_more k x = fold_more c.raise c.ops c.before k x

  pub runs : (x : C) (d k : ℕ) → run c.raise (doing x) d k (after c k x) ≡ after c (k + d) x
  runs x zero k = rw (add-zero k)
  runs x (suc d) k = rw (add-suc k d, ← suc-add k d) (ap (run c.raise (doing x) d (suc k)) (sym (after_more k x)) ∙ runs x d (suc k))

  -- replay of d ops from the one at k on makes of v what the fold has then
  abbrev Leads : C → ℕ → ℕ → V → Type 0
  Leads x zero k v = v ≡ after c k x
  Leads x (suc d) k v = (k < c.skips x → Leads x d (suc k) v) × (c.skips x ≤ k → Leads x d (suc k) (moved c.raise (doing x k) v))

  -- what x holds does not matter to the ops from the one at k on
  abbrev Spare : C → ℕ → Type 0
  Spare x k = (m : ℕ) × (k ≤ m) × Renews c m x × ((i : ℕ) (z : C) → k ≤ i → i ≤ m → Source (act c i z) x → c.skips z ≤ i → Harmless c i z)

  spare : (j : ℕ) (x : C) → Harmless c j x → Spare x (suc j)
  spare j x (harmless m later renews rest) = (m, omega arith, renews, λ i z from to. rest i z (omega arith) to)

  settles : (x : C) (d k : ℕ) (v : V) → c.skips x ≤ k → run c.raise (doing x) d k v ≡ after c (k + d) x → Leads x d k v
  settles x zero k v over e = rw (add-zero k) at e
  settles x (suc d) k v over e = ((λ sooner. absurd (omega arith)), (λ le. settles x d (suc k) _ (omega arith) (rw (add-suc k d, ← suc-add k d) at e)))

  follows : (x : C) (d k : ℕ) → c.skips x ≤ k → Leads x d k (after c k x)
  follows x d k over = settles x d k _ over (runs x d k)

  reruns : (x : C) (d₁ d₂ k : ℕ) → Raises c.raise → run c.raise (doing x) (d₁ + d₂) k (after c (k + d₁) x) ≡ after c ((k + d₁) + d₂) x
  reruns x d₁ d₂ k laws =
      let two = run_on c.raise (doing x) d₁ d₂ k (after c (k + d₁) x) in
      let first = runs x d₁ k in
      let twice = again c.raise laws (doing x) d₁ k (after c k x) in
      let back : run c.raise (doing x) d₁ k (after c (k + d₁) x) ≡ after c (k + d₁) x = ap (run c.raise (doing x) d₁ k) (sym first) ∙ twice ∙ first in
      two ∙ ap (run c.raise (doing x) d₂ (k + d₁)) back ∙ runs x d₂ (k + d₁)

  reruns_to : (x : C) (d k t : ℕ) → Raises c.raise → k ≤ t → t ≤ k + d → run c.raise (doing x) d k (after c t x) ≡ after c (k + d) x
  reruns_to x d k t laws from to =
      let a : (t - k) + (d - (t - k)) ≡ d = omega arith in
      let b : k + (t - k) ≡ t = omega arith in
      let e : (k + (t - k)) + (d - (t - k)) ≡ k + d = omega arith in
      let whole = reruns x (t - k) (d - (t - k)) k laws in
      rw (a, e, b) at whole

  begins : (x : C) (t : ℕ) → Raises c.raise → c.skips x ≤ t → (d k : ℕ) → k ≤ c.skips x → t ≤ k + d → Leads x d k (after c t x)
  begins x t laws from zero k yet to =
      let is : t ≡ k = omega arith in
      ap (λ j. after c j x) is
  begins x t laws from (suc d) k yet to = (
    (λ sooner. begins x t laws from d (suc k) (omega arith) (omega arith)),
    (λ over. (settles x (suc d) k (after c t x) over (reruns_to x (suc d) k t laws (omega arith) to)).1 over),
  )

  abbrev Needs : C → ℕ → Type 0
  Needs x j = Had c x j ⊎ RenewedBefore c x j

  -- before the op at j x is renewed, or what it holds does not matter now, or it leads to what x has there
  abbrev Covered : C → ℕ → ℕ → ℕ → V → Type 0
  Covered x d k j v = ((m : ℕ) × (k ≤ m) × (m < j) × Renews c m x) ⊎ (Spare x k ⊎ Leads x d k v)

  abbrev OnTheWay : ℕ → (C → V) → Type 0
  OnTheWay k s = (x : C) (d j : ℕ) → j ≡ k + d → Needs x j → Covered x d k j (s x)

  starts : Raises c.raise → (s : C → V) → ((x : C) → s x ≡ c.start x) → OnTheWay zero s
  starts laws s same x d j is (inl had) = inr (inr (subst (λ v. Leads x d zero v) (sym (same x ∙ had.value)) (begins x had.when laws had.from_guard d zero (omega arith) (omega arith))))
  starts laws s same x d j is (inr (m, sooner, renews)) = inl (m, omega arith, sooner, renews)

  module _ (good : GoodStart c) (k : ℕ) (old new : C → V) (is_op : k < length c.ops) (held : OnTheWay k old) (passes : Passes c k old new) where
    -- what the op at k gives x does not matter, or is what the fold gives
    exact : (x : C) → c.skips x ≤ k → Harmless c k x ⊎ (new x ≡ moved c.raise (doing x k) (old x))
    exact x over = by (good.copied k x is_op over) (passes.done x over)
      where
        source : (y : C) → Source (act c k x) y → Needs y k → Harmless c k x ⊎ (old y ≡ after c k y)
        source y from needs = from_covered (held y zero k (sym (add-zero k)) needs)
          where
            from_covered : Covered y zero k k (old y) → Harmless c k x ⊎ (old y ≡ after c k y)
            from_covered (inl (m, le, lt, renews)) = absurd (omega arith)
            from_covered (inr (inl (m, le, renews, rest))) = inl (rest k x (omega arith) le from over)
            from_covered (inr (inr here)) = inr here

        read : new x ≡ moved c.raise (effect (act c k x) old) (old x) → Harmless c k x ⊎ ((y : C) → Source (act c k x) y → old y ≡ after c k y) → Harmless c k x ⊎ (new x ≡ moved c.raise (doing x k) (old x))
        read e (inl h) = inl h
        read e (inr same) = inr (e ∙ ap (λ f. moved c.raise f (old x)) (effect_agrees (act c k x) old (after c k) same))

        by : Harmless c k x ⊎ ((y : C) → Source (act c k x) y → Needs y k) → Harmless c k x ⊎ (new x ≡ moved c.raise (effect (act c k x) old) (old x)) → Harmless c k x ⊎ (new x ≡ moved c.raise (doing x k) (old x))
        by (inl h) done = inl h
        by (inr sources) (inl h) = inl h
        by (inr sources) (inr e) = read e (gather_source (λ y. old y ≡ after c k y) (act c k x) (λ y from. source y from (sources y from)))

    renewed : (x : C) (d j : ℕ) → Renews c k x → Covered x d (suc k) j (new x)
    renewed x d j renews = by (exact x renews.not_skipped)
      where
        by : Harmless c k x ⊎ (new x ≡ moved c.raise (doing x k) (old x)) → Covered x d (suc k) j (new x)
        by (inl h) = inr (inl (spare k x h))
        by (inr e) = inr (inr (subst (λ v. Leads x d (suc k) v) (sym here) (follows x d (suc k) (omega (arith, renews.not_skipped)))))
          where
            here : new x ≡ after c (suc k) x
            here = e ∙ ap (λ f. moved c.raise f (old x)) renews.gives ∙ sym (after_more k x ∙ ap (λ f. moved c.raise f (after c k x)) renews.gives)

    goes_on : OnTheWay (suc k) new
    goes_on x d j is needs = by (held x (suc d) j (is ∙ suc-add k d ∙ sym (add-suc k d)) needs)
      where
        at_or_after : (m : ℕ) → k ≤ m → m < j → Renews c m x → (k ≡ m) ⊎ (k < m) → Covered x d (suc k) j (new x)
        at_or_after m le lt renews (inl now) = renewed x d j (subst (λ i. Renews c i x) (sym now) renews)
        at_or_after m le lt renews (inr later) = inl (m, later, lt, renews)

        spare_on : (s : Spare x k) → (k ≡ s.0) ⊎ (k < s.0) → Covered x d (suc k) j (new x)
        spare_on s (inl now) = renewed x d j (subst (λ i. Renews c i x) (sym now) s.2)
        spare_on s (inr later) = inr (inl (s.0, later, s.2, (λ i z from to. s.3 i z (omega arith) to)))

        leads_on : Leads x (suc d) k (old x) → (k < c.skips x) ⊎ (c.skips x ≤ k) → Covered x d (suc k) j (new x)
        leads_on way (inl sooner) = inr (inr (subst (λ v. Leads x d (suc k) v) (sym (passes.skipped x sooner)) (way.0 sooner)))
        leads_on way (inr over) = either (exact x over)
          where
            either : Harmless c k x ⊎ (new x ≡ moved c.raise (doing x k) (old x)) → Covered x d (suc k) j (new x)
            either (inl h) = inr (inl (spare k x h))
            either (inr e) = inr (inr (subst (λ v. Leads x d (suc k) v) (sym e) (way.1 over)))

        by : Covered x (suc d) k j (old x) → Covered x d (suc k) j (new x)
        by (inl (m, le, lt, renews)) = at_or_after m le lt renews (same_or_later k m le)
        by (inr (inl s)) = spare_on s (same_or_later k s.0 s.1)
        by (inr (inr way)) = leads_on way (sooner_or_not k (c.skips x))

  walks : Raises c.raise → GoodStart c → (k : ℕ) → k ≤ length c.ops → (s : C → V) → Replayed c k s → OnTheWay k s
  walks laws good zero le s same = starts laws s same
  walks laws good (suc k) le s (old, before, passes) = goes_on good k old s (omega arith) (walks laws good k (omega arith) old before) passes

  arrives : (s : C → V) → GoodStart c → OnTheWay (length c.ops) s → (x : C) → s x ≡ after c (length c.ops) x
  arrives s good held x = by (held x zero (length c.ops) (sym (add-zero (length c.ops))) (good.cells x))
    where
      by : Covered x zero (length c.ops) (length c.ops) (s x) → s x ≡ after c (length c.ops) x
      by (inl (m, le, lt, renews)) = absurd (omega arith)
      by (inr (inl (m, le, renews, rest))) = absurd (omega (arith, renews.is_op))
      by (inr (inr here)) = here

pub replay_ends : {C V : Type 0} (c : Case C V) → Raises c.raise → GoodStart c → (end : C → V) → Replayed c (length c.ops) end → (x : C) → end x ≡ fold c.raise c.ops c.before x
replay_ends c laws good end replayed x =
    arrives c end good (walks c laws good (length c.ops) (omega arith) end replayed) x ∙ fold_all c.raise c.ops c.before x
