-- What reads where several transactions are open.
use Rattle.std.proofs.Common.{◌≡◌, ◌≢◌, ◌⊎◌, inl, inr, ℕ, zero, suc, ◌+◌, ◌-◌, ◌<◌, ◌≤◌, min, Bool, true, false, cond, eqb, List, [], ◌∷◌, length, take, get_or, Option, None, Some, refl, sym, ◌∙◌, ap, subst, arith, tests}
use Rattle.replay_laws.specs.Replay.{Act, leaves, effect, moved, Case, act, after, fold}
use Rattle.replay_laws.proofs.Walk.{sooner_or_not, effect_agrees, after_more}
use Rattle.replay_laws.proofs.Carried.{fold_append}
use Rattle.replay_laws.proofs.Settled.{still_there}
use Rattle.slot_laws.specs.History.{Txn, txn, idle_op, AllWithin, count, Open, NoConflict, AreOpen, place, line}
use Rattle.slot_laws.specs.Live.{done_of, live, LiveLaw}
use Rattle.slot_laws.proofs.Flat.{count_grows, count_more, op_at}
use Rattle.slot_laws.proofs.Slots.{not_both, true_or_false, apart_at}

-- Of each cell's groups: the transactions before the one at stop are whole there, that one has d operations done, and no
-- later one names the cell.
pub record Here {C V : Type 0} (ts : List (Txn C V)) (slots : List (Option Open)) (started p : ℕ) (x : C) : Type 0 where
  -- a transaction that names the cell
  pub named : (i : ℕ) → i < started → (txn ts i).names x ≡ true
      → ((done_of slots i (length (txn ts i).ops) ≡ length (txn ts i).ops) × (count ts (suc i) ≤ p)) ⊎ ((p ≡ count ts i + done_of slots i (length (txn ts i).ops)) × (done_of slots i (length (txn ts i).ops) ≤ length (txn ts i).ops))

module _ {C V : Type 0} (raise : ℕ → V → V) (origin : C → V) (ts : List (Txn C V)) (all : AllWithin ts) (started : ℕ) (slots : List (Option Open)) (where_at : C → ℕ)
    (here : (x : C) → Here ts slots started (where_at x) x) where
  abbrev c : Case C V
  c = line raise origin ts started

  -- the first d operations of a transaction leave what it does not name
  leaves_one : (d : ℕ) (ops : List (C → Act C V)) (s : C → V) (x : C) → ((k : ℕ) → get_or ops k idle_op x ≡ leaves) → fold raise (take d ops) s x ≡ s x
  leaves_one zero ops s x none = refl
  leaves_one (suc d) [] s x none = refl
  leaves_one (suc d) (op ∷ ops) s x none = leaves_one d ops (λ y. moved raise (effect (op y) s) (s y)) x (λ k. none (suc k)) ∙ ap (λ a. moved raise (effect a s) (s x)) (none zero)

  -- on cells that agree, the operations of a transaction that names them agree
  agrees : (names : C → Bool) (i d : ℕ) (s : C → V) → i < started → d ≤ length (txn ts i).ops → ((y : C) → (txn ts i).names y ≡ true → s y ≡ after c (count ts i) y)
      → (y : C) → (txn ts i).names y ≡ true → fold raise (take d (txn ts i).ops) s y ≡ after c (count ts i + d) y
  agrees names i d s lt le same y is = same_after d le y is
    where
      step : (k : ℕ) (x : C) → fold raise (take (suc k) (txn ts i).ops) s x ≡ moved raise (effect (get_or (txn ts i).ops k idle_op x) (fold raise (take k (txn ts i).ops) s)) (fold raise (take k (txn ts i).ops) s x)
      step k x = after_more (record { raise = raise; ops = (txn ts i).ops; before = s; start = s; skips = λ z. 0 }) k x

      more : (k : ℕ) → k < length (txn ts i).ops → ((z : C) → (txn ts i).names z ≡ true → fold raise (take k (txn ts i).ops) s z ≡ after c (count ts i + k) z) → (x : C) → (txn ts i).names x ≡ true → fold raise (take (suc k) (txn ts i).ops) s x ≡ after c (suc (count ts i + k)) x
      more k op held x x_is =
          step k x
          ∙ ap (λ e. moved raise e (fold raise (take k (txn ts i).ops) s x)) (effect_agrees (get_or (txn ts i).ops k idle_op x) (fold raise (take k (txn ts i).ops) s) (after c (count ts i + k)) (λ z source. held z ((all i k).reads_own x z source)))
          ∙ ap (moved raise (effect (get_or (txn ts i).ops k idle_op x) (after c (count ts i + k)))) (held x x_is)
          ∙ sym (after_more c (count ts i + k) x ∙ ap (λ f. moved raise (effect (f x) (after c (count ts i + k))) (after c (count ts i + k) x)) (op_at ts i started k lt op))

      same_after : (k : ℕ) → k ≤ length (txn ts i).ops → (z : C) → (txn ts i).names z ≡ true → fold raise (take k (txn ts i).ops) s z ≡ after c (count ts i + k) z
      same_after zero to z z_is =
          let none : count ts i + 0 ≡ count ts i = omega arith in
          same z z_is ∙ ap (λ n. after c n z) (sym none)
      same_after (suc k) to z z_is =
          let next : suc (count ts i + k) ≡ count ts i + suc k = omega arith in
          more k (omega arith) (λ y y_is. same_after k (omega arith) y y_is) z z_is ∙ ap (λ n. after c n z) next

  quiet_there : (i a b : ℕ) (x : C) → i < started → (txn ts i).names x ≡ false → count ts i ≤ a → a ≤ b → b ≤ count ts (suc i) → after c a x ≡ after c b x
  quiet_there i a b x lt isnt low le high = still_there c x a (b - a) b (omega arith) (λ t from to. ap (λ f. effect f (after c t)) (leaving t (omega arith) (omega arith)))
    where
      leaving : (t : ℕ) → count ts i ≤ t → t < count ts (suc i) → act c t x ≡ leaves
      leaving t from to =
          let sum : t ≡ count ts i + (t - count ts i) = omega arith in
          let within : t - count ts i < length (txn ts i).ops = omega (arith, count_more ts i) in
          ap (λ n. act c n x) sum ∙ ap (λ f. f x) (op_at ts i started (t - count ts i) lt within) ∙ (all i (t - count ts i)).leaves_others x isnt

  so_far : (n : ℕ) → n ≤ started → (x : C) → fold raise (live ts slots n) origin x ≡ after c (min (where_at x) (count ts n)) x
  so_far zero le x =
      let none : min (where_at x) (count ts 0) ≡ 0 = omega arith in
      ap (λ k. after c k x) (sym none)
  so_far (suc n) le x = ap (λ s. s x) (fold_append raise (live ts slots n) (take (done_of slots n (length (txn ts n).ops)) (txn ts n).ops) origin) ∙ by (true_or_false ((txn ts n).names x)) (so_far n (omega arith))
    where
      d : ℕ
      d = done_of slots n (length (txn ts n).ops)

      by : ((txn ts n).names x ≡ true) ⊎ ((txn ts n).names x ≡ false) → ((y : C) → fold raise (live ts slots n) origin y ≡ after c (min (where_at y) (count ts n)) y)
          → fold raise (take d (txn ts n).ops) (fold raise (live ts slots n) origin) x ≡ after c (min (where_at x) (count ts (suc n))) x
      by (inr isnt) rest = leaves_one d (txn ts n).ops (fold raise (live ts slots n) origin) x (λ k. (all n k).leaves_others x isnt) ∙ rest x ∙ which (sooner_or_not (where_at x) (count ts n))
        where
          grows : count ts n ≤ count ts (suc n)
          grows = count_grows ts n (suc n) (omega arith)

          which : (where_at x < count ts n) ⊎ (count ts n ≤ where_at x) → after c (min (where_at x) (count ts n)) x ≡ after c (min (where_at x) (count ts (suc n))) x
          which (inl before) =
              let same : min (where_at x) (count ts n) ≡ min (where_at x) (count ts (suc n)) = omega (arith, grows) in
              ap (λ k. after c k x) same
          which (inr past) =
              let first : min (where_at x) (count ts n) ≡ count ts n = omega arith in
              ap (λ k. after c k x) first ∙ quiet_there n (count ts n) (min (where_at x) (count ts (suc n))) x (omega arith) isnt (omega arith) (omega (arith, grows)) (omega arith)
      by (inl is) rest = agrees (txn ts n).names n d (fold raise (live ts slots n) origin) (omega arith) (few x is) before x is ∙ ends ((here x).named n (omega arith) is)
        where
          few : (y : C) → (txn ts n).names y ≡ true → d ≤ length (txn ts n).ops
          few y y_is = of ((here y).named n (omega arith) y_is)
            where
              of : ((d ≡ length (txn ts n).ops) × (count ts (suc n) ≤ where_at y)) ⊎ ((where_at y ≡ count ts n + d) × (d ≤ length (txn ts n).ops)) → d ≤ length (txn ts n).ops
              of (inl (whole, to)) = omega arith
              of (inr (at, to)) = to

          past : (y : C) → (txn ts n).names y ≡ true → count ts n ≤ where_at y
          past y y_is = of ((here y).named n (omega arith) y_is)
            where
              of : ((d ≡ length (txn ts n).ops) × (count ts (suc n) ≤ where_at y)) ⊎ ((where_at y ≡ count ts n + d) × (d ≤ length (txn ts n).ops)) → count ts n ≤ where_at y
              of (inl (whole, to)) = omega (arith, count_more ts n)
              of (inr (at, to)) = omega arith

          before : (y : C) → (txn ts n).names y ≡ true → fold raise (live ts slots n) origin y ≡ after c (count ts n) y
          before y y_is =
              let at_least : count ts n ≤ where_at y = past y y_is in
              let first : min (where_at y) (count ts n) ≡ count ts n = omega arith in
              rest y ∙ ap (λ k. after c k y) first

          ends : ((d ≡ length (txn ts n).ops) × (count ts (suc n) ≤ where_at x)) ⊎ ((where_at x ≡ count ts n + d) × (d ≤ length (txn ts n).ops)) → after c (count ts n + d) x ≡ after c (min (where_at x) (count ts (suc n))) x
          ends (inl (whole, to)) =
              let same : count ts n + d ≡ min (where_at x) (count ts (suc n)) = omega (arith, count_more ts n) in
              ap (λ k. after c k x) same
          ends (inr (at, to)) =
              let same : count ts n + d ≡ min (where_at x) (count ts (suc n)) = omega (arith, count_more ts n) in
              ap (λ k. after c k x) same

-- where the place of each cell is that of its groups
module _ {C V : Type 0} (ts : List (Txn C V)) where
  test_true : (a b : ℕ) → a ≡ b → eqb a b ≡ true
  test_true a b is = grind (arith, tests)

  test_is : (a b : ℕ) → eqb a b ≡ true → a ≡ b
  test_is a b is = grind (arith, tests)

  test_false : (a b : ℕ) → a ≢ b → eqb a b ≡ false
  test_false a b isnt = by (true_or_false (eqb a b))
    where
      by : (eqb a b ≡ true) ⊎ (eqb a b ≡ false) → eqb a b ≡ false
      by (inl is) = absurd (isnt (test_is a b is))
      by (inr is) = is

  -- no slot names the cell: each transaction that does is whole
  abbrev At : ℕ → List (Option Open) → ℕ → C → ℕ → Type 0
  At started slots p x i = ((done_of slots i (length (txn ts i).ops) ≡ length (txn ts i).ops) × (count ts (suc i) ≤ p)) ⊎ ((p ≡ count ts i + done_of slots i (length (txn ts i).ops)) × (done_of slots i (length (txn ts i).ops) ≤ length (txn ts i).ops))

  not_there : (t : Txn C V) (x : C) (slots : List (Option Open)) (i : ℕ) (all : ℕ) → t.names x ≡ true → NoConflict ts t slots → (txn ts i).names x ≡ true → done_of slots i all ≡ all
  not_there t x [] i all is none named = refl
  not_there t x (None ∷ slots) i all is none named = not_there t x slots i all is none named
  not_there t x (Some o ∷ slots) i all is (apart, none) named = ap (λ b. cond b o.next (done_of slots i all)) (test_false o.index i other) ∙ not_there t x slots i all is none named
    where
      other : o.index ≡ i → ⊥
      other same = not_both ((txn ts o.index).names x) (subst (λ k. (txn ts k).names x ≡ true) (sym same) named) (swap (apart x))
        where
          swap : ((txn ts o.index).names x ≡ false) ⊎ (t.names x ≡ false) → (txn ts o.index).names x ≡ false
          swap (inl isnt) = isnt
          swap (inr isnt) = absurd (not_both (t.names x) is isnt)

  at_place : (started : ℕ) (slots : List (Option Open)) → AreOpen ts started slots → (x : C) (i : ℕ) → i < started → (txn ts i).names x ≡ true → At started slots (place ts started slots x) x i
  at_place started [] open_ones x i lt named = inl (refl, count_grows ts (suc i) started (omega arith))
  at_place started (None ∷ slots) open_ones x i lt named = at_place started slots open_ones x i lt named
  at_place started (Some o ∷ slots) (own, none, rest) x i lt named = by (true_or_false ((txn ts o.index).names x)) (at_place started slots rest x i lt named)
    where
      by : ((txn ts o.index).names x ≡ true) ⊎ ((txn ts o.index).names x ≡ false) → At started slots (place ts started slots x) x i → At started (Some o ∷ slots) (cond ((txn ts o.index).names x) (count ts o.index + o.next) (place ts started slots x)) x i
      by (inr isnt) later =
          subst (λ p. At started (Some o ∷ slots) p x i) (sym (ap (λ b. cond b (count ts o.index + o.next) (place ts started slots x)) isnt))
          (subst (λ n. ((n ≡ length (txn ts i).ops) × (count ts (suc i) ≤ place ts started slots x)) ⊎ ((place ts started slots x ≡ count ts i + n) × (n ≤ length (txn ts i).ops))) (sym (ap (λ b. cond b o.next (done_of slots i (length (txn ts i).ops))) (test_false o.index i other))) later)
        where
          other : o.index ≡ i → ⊥
          other same = not_both ((txn ts i).names x) named (subst (λ k. (txn ts k).names x ≡ false) same isnt)
      by (inl is) later = subst (λ p. At started (Some o ∷ slots) p x i) (sym (ap (λ b. cond b (count ts o.index + o.next) (place ts started slots x)) is)) (order (three o.index i))
        where
          three : (a b : ℕ) → (a ≡ b) ⊎ ((b < a) ⊎ (a < b))
          three a b = grind arith

          order : (o.index ≡ i) ⊎ ((i < o.index) ⊎ (o.index < i)) → At started (Some o ∷ slots) (count ts o.index + o.next) x i
          order (inl same) =
              let done : done_of (Some o ∷ slots) i (length (txn ts i).ops) ≡ o.next = ap (λ b. cond b o.next (done_of slots i (length (txn ts i).ops))) (test_true o.index i same) in
              inr (ap (λ k. count ts k + o.next) same ∙ ap (λ n. count ts i + n) (sym done), subst (λ n. n ≤ length (txn ts i).ops) (sym done) (subst (λ k. o.next ≤ length (txn ts k).ops) same own.within))
          order (inr (inl before)) =
              inl (ap (λ b. cond b o.next (done_of slots i (length (txn ts i).ops))) (test_false o.index i (λ same. absurd (omega arith))) ∙ not_there (txn ts o.index) x slots i (length (txn ts i).ops) is none named, omega (arith, count_grows ts (suc i) o.index (omega arith)))
          order (inr (inr later)) = absurd (not_both ((txn ts i).names x) named (apart_at ts (txn ts o.index) (txn ts i) x (own.alone i later lt) is))

  place_within : (started : ℕ) (slots : List (Option Open)) (x : C) → AreOpen ts started slots → place ts started slots x ≤ count ts started
  place_within started [] x open_ones = omega arith
  place_within started (None ∷ slots) x open_ones = place_within started slots x open_ones
  place_within started (Some o ∷ slots) x (own, none, rest) = by ((txn ts o.index).names x) (place_within started slots x rest)
    where
      by : (b : Bool) → place ts started slots x ≤ count ts started → cond b (count ts o.index + o.next) (place ts started slots x) ≤ count ts started
      by true le = omega (arith, count_more ts o.index, count_grows ts (suc o.index) started (omega (arith, own.begun)), own.within)
      by false le = le

pub live_law : {C V : Type 0} → LiveLaw C V
live_law = record {
  is_place = λ raise origin ts all started le slots open_ones x.
      let within = place_within ts started slots x open_ones in
      let most : min (place ts started slots x) (count ts started) ≡ place ts started slots x = omega arith in
      so_far raise origin ts all started slots (place ts started slots) (λ y. record { named = λ i lt named. at_place ts started slots open_ones y i lt named }) started (omega arith) x ∙ ap (λ k. after (line raise origin ts started) k x) most;
}
