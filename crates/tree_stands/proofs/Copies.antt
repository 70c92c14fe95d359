-- A copy and then its guard.
use Rattle.std.proofs.Common.{◌≡◌, ◌≢◌, ◌⊎◌, inl, inr, ⊎_elim, ℕ, suc, ◌<◌, ◌≤◌, max, Bool, cond, refl, sym, ◌∙◌, ap, subst, arith, Option}
use Rattle.tree_api.specs.Tree.{Version}
use Rattle.replay_laws.specs.Replay.{Act, leaves, Case, Source, Raises, act, effect, moved}
use Rattle.replay_laws.specs.Settled.{Given}
use Rattle.replay_laws.specs.Keeps.{Copied}
use Rattle.fs_cells.specs.Values.{Value}
use Rattle.fs_cells.specs.declared.cell.Part.{Part}
use Rattle.replay_laws.specs.Places.{AtEach, ReachedOne}
use Rattle.replay_laws.proofs.Places.{places_law}
use Rattle.slot_laws.specs.Slots.{DoesOp}
use Rattle.tree_stands.specs.Names.{Name, name_of}
use Rattle.fs_cells.specs.declared.cell.Cell.{Cell}
use Rattle.tree_stands.proofs.Names.{name_cases, true_not_false}
use Rattle.tree_stands.specs.Shown.{Counts, Shown, guard_in, value_in, guard_at, cells_in, guards_in, with_file}
use Rattle.tree_stands.specs.Copies.{Copies, passed_at, CopyLaw}
use Rattle.tree_stands.proofs.Steps.{image_step}

module _ (T : Shown) (n : Name) (v : Option Version) where
  pub put_other : (o : Name) → o ≢ n → (with_file n v T).object o ≡ T.object o
  put_other o differ = ⊎_elim (λ (is, at). absurd (differ at)) (λ (not, off). ap (λ (t : Bool). cond t v (T.object o)) not) (name_cases o n)

  pub put_here : (o : Name) → o ≡ n → (with_file n v T).object o ≡ v
  put_here o at = ⊎_elim (λ (is, same). ap (λ (t : Bool). cond t v (T.object o)) is) (λ (not, off). absurd (off at)) (name_cases o n)

  pub other_cell : (x : Cell) → (name_of x) ≢ n → cells_in (with_file n v T) x ≡ cells_in T x
  other_cell x differ = ap (λ (u : Option Version). value_in u x.part) (put_other (name_of x) differ)

  pub here_cell : (x : Cell) → (name_of x) ≡ n → cells_in (with_file n v T) x ≡ value_in v x.part
  here_cell x at = ap (λ (u : Option Version). value_in u x.part) (put_here (name_of x) at)

  pub other_guard : (g : Counts) (x : Cell) → (name_of x) ≢ n → guards_in g (with_file n v T) x ≡ guards_in g T x
  other_guard g x differ = ap (λ (u : Option Version). guard_at g (name_of x) (T.dir x.c) (guard_in u)) (put_other (name_of x) differ)

  pub here_guard : (g : Counts) (x : Cell) → (name_of x) ≡ n → guard_in v ≡ guard_in (T.object n) → guards_in g (with_file n v T) x ≡ guards_in g T x
  here_guard g x at same =
      ap (λ (u : Option Version). guard_at g (name_of x) (T.dir x.c) (guard_in u)) (put_here (name_of x) at)
      ∙ ap (guard_at g (name_of x) (T.dir x.c)) (same ∙ ap (λ (o : Name). guard_in (T.object o)) (sym at))

abbrev idle : Act Cell Value
idle = leaves

name_dec : (a b : Name) → (a ≡ b) ⊎ (a ≢ b)
name_dec a b = ⊎_elim (λ (is, at). inl at) (λ (not, off). inr off) (name_cases a b)

module _ (g : Counts) (c : Case Cell Value) (j : ℕ) (names : Cell → Bool) (place passed : Cell → ℕ) (T : Shown) (n : Name) (b w : Option Version) (copies : Copies g c j names place T n b w) where
  given : (v : Option Version) → ((part : Part) → value_in v part ≡ value_in b part) → (x : Cell) → (name_of x) ≡ n → Given c (Copied c passed) (guards_in g T x) j (cells_in T) x (cells_in (with_file n v T) x)
  given v same x at =
      let le : guards_in g T x ≤ j = copies.applies x at in
      record { left_out = λ lt. absurd (omega (arith, lt, le)); done = λ low. inr (here_cell T n v x at ∙ same x.part ∙ copies.gives x at) }

  none_from_own : (x : Cell) → (name_of x) ≡ n → (P : Type 0) → (z : Cell) → Source (act c j z) x → P
  none_from_own x at P z source = absurd ((copies.sources z x source).0 at)

  -- the guard stays, or is one that leaves the op out
  part_way : (laws : Raises c.raise) (v : Option Version) → ((part : Part) → value_in v part ≡ value_in b part)
      → ((x : Cell) → (name_of x) ≡ n → (guards_in g (with_file n v T) x ≡ guards_in g T x) ⊎ (guards_in g (with_file n v T) x ≡ suc j))
      → AtEach c place (cells_in T) (guards_in g T) passed → AtEach c place (cells_in (with_file n v T)) (guards_in g (with_file n v T)) passed
  part_way laws v same guard reads =
      places_law.keeps_within c laws j copies.is_op (cells_in T) (cells_in (with_file n v T)) (guards_in g T) (guards_in g (with_file n v T)) passed passed place reads
      (record { each = λ x. each x (name_dec (name_of x) n); reads = λ z y source. let s = copies.sources z y source in (s.1, s.2); further = λ x. omega arith; for_good = λ x. inl (omega arith) })
    where
      each : (x : Cell) → ((name_of x) ≡ n) ⊎ ((name_of x) ≢ n) → ReachedOne c j (cells_in T) (cells_in (with_file n v T)) (guards_in g T) (guards_in g (with_file n v T)) passed passed place x
      each x (inl at) = inr ((copies.own x at).1, given v same x at, record { is = ⊎_elim (λ stays. inl stays) (λ up. inr (inl (copies.applies x at, up))) (guard x at) }, λ z source. none_from_own x at (j < passed z) z source)
      each x (inr differ) = inl (other_cell T n v x differ, other_guard T n v g x differ)

  pub copied : Raises c.raise → AtEach c place (cells_in T) (guards_in g T) passed → AtEach c place (cells_in (with_file n b T)) (guards_in g (with_file n b T)) passed
  copied laws = part_way laws b (λ part. refl) (λ x at. inl (here_guard T n b g x at copies.guard))

  pub guarded : Raises c.raise → AtEach c place (cells_in T) (guards_in g T) passed → AtEach c place (cells_in (with_file n w T)) (guards_in g (with_file n w T)) passed
  guarded laws = part_way laws w copies.closed (λ x at. inr (copies.counts x at))

  passed_here : (x : Cell) → (name_of x) ≡ n → passed_at n j passed x ≡ max (passed x) (suc j)
  passed_here x at = ⊎_elim (λ (is, same). ap (λ (t : Bool). cond t (max (passed x) (suc j)) (passed x)) is) (λ (not, off). absurd (off at)) (name_cases (name_of x) n)

  passed_other : (x : Cell) → (name_of x) ≢ n → passed_at n j passed x ≡ passed x
  passed_other x differ = ⊎_elim (λ (is, same). absurd (differ same)) (λ (not, off). ap (λ (t : Bool). cond t (max (passed x) (suc j)) (passed x)) not) (name_cases (name_of x) n)

  pub more : (x : Cell) → passed x ≤ passed_at n j passed x
  more x = ⊎_elim (λ at. let e = passed_here x at in omega (arith, e)) (λ differ. let e = passed_other x differ in omega (arith, e)) (name_dec (name_of x) n)

  pub good_by : (guards : Cell → ℕ) → ((x : Cell) → (name_of x) ≡ n → suc j ≤ guards x) → (x : Cell) → (passed_at n j passed x ≤ passed x) ⊎ (passed_at n j passed x ≤ guards x)
  good_by guards up x = ⊎_elim here (λ differ. let e = passed_other x differ in inl (omega (arith, e))) (name_dec (name_of x) n)
    where
      which : (m k : ℕ) → (m ≤ k) ⊎ (k ≤ m)
      which m k = grind arith

      here : (name_of x) ≡ n → (passed_at n j passed x ≤ passed x) ⊎ (passed_at n j passed x ≤ guards x)
      here at =
          let e = passed_here x at in
          let le : suc j ≤ guards x = up x at in
          ⊎_elim (λ low. inr (omega (arith, e, le, low))) (λ high. inl (omega (arith, e, high))) (which (passed x) (suc j))

  own_only : (z y : Cell) → Source (act c j z) y → (name_of z) ≡ n
  own_only z y source = ⊎_elim (λ at. at) (λ differ. let none : Source idle y = subst (λ (a : Act Cell Value). Source a y) (copies.others z differ) source in absurd none) (name_dec (name_of z) n)

  pub done : DoesOp c names j (cells_in T) (cells_in (with_file n w T)) (guards_in g T) (guards_in g (with_file n w T)) passed (passed_at n j passed)
  done = record {
    given = λ x named. ⊎_elim (λ at. given w copies.closed x at)
        (λ differ. record { left_out = λ lt. other_cell T n w x differ; done = λ le. inr (other_cell T n w x differ ∙ ap (λ (a : Act Cell Value). moved c.raise (effect a (cells_in T)) (cells_in T x)) (sym (copies.others x differ))) })
        (name_dec (name_of x) n);
    guarded = λ x named. ⊎_elim (λ at. record { is = inr (inl (copies.applies x at, copies.counts x at)) }) (λ differ. record { is = inl (other_guard T n w g x differ) }) (name_dec (name_of x) n);
    others = λ x off. ⊎_elim (λ at. absurd (true_not_false (names x) ((copies.own x at).0) off)) (λ differ. (other_cell T n w x differ, other_guard T n w g x differ)) (name_dec (name_of x) n);
    further = more;
    for_good = good_by (guards_in g (with_file n w T)) (λ x at. let e = copies.counts x at in omega (arith, e));
    all_copied = λ z y source. let e = passed_here z (own_only z y source) in omega (arith, e);
  }

-- the numbers rise where the guard stands
pub stable : (g : Counts) (c : Case Cell Value) (k j : ℕ) (passed : Cell → ℕ) (n : Name) (E : Shown) → ((x : Cell) → (name_of x) ≡ n → suc j ≤ guards_in g E x)
    → AtEach c (λ x. k) (cells_in E) (guards_in g E) passed → AtEach c (λ x. k) (cells_in E) (guards_in g E) (passed_at n j passed)
stable g c k j passed n E up held = places_law.settles c (λ x. k) (cells_in E) (guards_in g E) passed (passed_at n j passed) held (λ x. (both x).0) (λ x. (both x).1)
  where
    which : (m i : ℕ) → (m ≤ i) ⊎ (i ≤ m)
    which m i = grind arith

    both : (x : Cell) → (passed x ≤ passed_at n j passed x) × ((passed_at n j passed x ≤ passed x) ⊎ (passed_at n j passed x ≤ guards_in g E x))
    both x = ⊎_elim
        (λ (is, at).
        let e : passed_at n j passed x ≡ max (passed x) (suc j) = ap (λ (t : Bool). cond t (max (passed x) (suc j)) (passed x)) is in
        let le : suc j ≤ guards_in g E x = up x at in
        (omega (arith, e), ⊎_elim (λ low. inr (omega (arith, e, le, low))) (λ high. inl (omega (arith, e, high))) (which (passed x) (suc j))))
        (λ (not, off).
        let e : passed_at n j passed x ≡ passed x = ap (λ (t : Bool). cond t (max (passed x) (suc j)) (passed x)) not in
        (omega (arith, e), inl (omega (arith, e))))
        (name_cases (name_of x) n)

pub copy_law : CopyLaw
copy_law = record {
  copied = λ g c laws j names place passed T n b w copies reads. copied g c j names place passed T n b w copies laws reads;
  guarded = λ g c laws j names place passed T n b w copies reads. guarded g c j names place passed T n b w copies laws reads;
  images = λ g c k passed T n b reads next F from. image_step g c k passed T n b reads next F from;
  done = λ g c j names place passed T n b w copies. done g c j names place passed T n b w copies;
  stable = λ g c k j passed n E up held. stable g c k j passed n E up held;
}
