-- Images and one operation, over what is seen of the objects.
use Rattle.std.proofs.Common.{◌≡◌, ◌≢◌, ◌⊎◌, inl, inr, ⊎_elim, ℕ, ◌≤◌, Bool, true, false, cond, List, sym, ◌∙◌, ap, subst, arith, Option, Some, None}
use Rattle.tree_api.specs.Tree.{Version}
use Rattle.replay_laws.specs.Replay.{leaves, Case, Source, act, after, effect, moved}
use Rattle.replay_laws.specs.Settled.{Stands, Kept, Given}
use Rattle.replay_laws.specs.Keeps.{Copied, Guarded}
use Rattle.fs_cells.specs.Actions.{on_object}
use Rattle.fs_cells.specs.Parts.{CellAct}
use Rattle.fs_cells.specs.Values.{Value, raise}
use Rattle.fs_cells.specs.declared.cell.Part.{Part}
use Rattle.replay_laws.specs.Places.{AtEach}
use Rattle.slot_laws.specs.Slots.{DoesOp}
use Rattle.tree_api.specs.Passing.{OneOf}
use Rattle.tree_stands.specs.Names.{Name, name_of, cell_at, same_name}
use Rattle.fs_cells.specs.declared.cell.Cell.{Cell}
use Rattle.tree_stands.specs.Edits.{Edits}
use Rattle.tree_stands.specs.Shown.{Counts, Shown, guard_in, value_in, seen, guard_at, cells_in, guards_in, with_file, ComesAt}
use Rattle.tree_stands.proofs.Names.{name_itself, name_cases, true_not_false}

-- where one cell with its guard may stand
abbrev pub Fine : Case Cell Value → (Cell → ℕ) → (Cell → ℕ) → Cell → Value → ℕ → Type 0
Fine c place passed x v g = Stands c (Copied c passed) g (place x) x v × Kept c (Copied c passed) g x

pub fine_of : (c : Case Cell Value) (place passed : Cell → ℕ) (cells : Cell → Value) (guards : Cell → ℕ) → AtEach c place cells guards passed → (x : Cell) → Fine c place passed x (cells x) (guards x)
fine_of c place passed cells guards held x = (held.stands x, held.kept x)

pub all_fine : (c : Case Cell Value) (place passed : Cell → ℕ) (cells : Cell → Value) (guards : Cell → ℕ) → ((x : Cell) → Fine c place passed x (cells x) (guards x)) → AtEach c place cells guards passed
all_fine c place passed cells guards each = record { stands = λ x. (each x).0; kept = λ x. (each x).1 }

pub fine_along : (c : Case Cell Value) (place passed : Cell → ℕ) (x : Cell) (v w : Value) (g h : ℕ) → w ≡ v → h ≡ g → Fine c place passed x v g → Fine c place passed x w h
fine_along c place passed x v w g h values counts fine =
    subst (λ (i : ℕ). Fine c place passed x w i) (sym counts) (subst (λ (u : Value). Fine c place passed x u g) (sym values) fine)

-- an image whose cells come from images, from what reads, and from what shall be
module _ (g : Counts) (c : Case Cell Value) (k : ℕ) (passed : Cell → ℕ) (T : Shown) (n : Name) (b : Option Version)
    (reads : AtEach c (λ x. k) (cells_in T) (guards_in g T) passed) (next : AtEach c (λ x. k) (cells_in (with_file n b T)) (guards_in g (with_file n b T)) passed) where
  abbrev Good : Cell → Value → ℕ → Type 0
  Good = Fine c (λ x. k) passed

  put_here : (with_file n b T).object n ≡ b
  put_here = ap (λ (t : Bool). cond t b (T.object n)) (name_itself n)

  -- what is seen of one object, with the collection's guard
  by_seen : (x : Cell) (d d2 : Option (Option (List ℕ))) (v w : Option Version) → d2 ≡ d → seen w x.part ≡ seen v x.part → Good x (value_in v x.part) (guard_at g (name_of x) d (guard_in v)) → Good x (value_in w x.part) (guard_at g (name_of x) d2 (guard_in w))
  by_seen x d d2 v w dirs is good =
      fine_along c (λ x. k) passed x (value_in v x.part) (value_in w x.part) (guard_at g (name_of x) d (guard_in v)) (guard_at g (name_of x) d2 (guard_in w))
      (ap (λ (p : Value × Option (List ℕ)). p.0) is)
      (ap (λ (e : Option (Option (List ℕ))). guard_at g (name_of x) e (guard_in w)) dirs ∙ ap (λ (p : Value × Option (List ℕ)). guard_at g (name_of x) d p.1) is)
      good

  module _ (F : Shown) where
    one : (o : Name) (part : Part) (E : Shown) → AtEach c (λ x. k) (cells_in E) (guards_in g E) passed → ComesAt T n b o E F
        → Good (cell_at o part) (value_in (F.object o) part) (guard_at g o (F.dir o.coll) (guard_in (F.object o)))
    one o part E held (inl (dirs, same)) =
        by_seen (cell_at o part) (E.dir o.coll) (F.dir o.coll) (E.object o) (F.object o) dirs (ap (λ (v : Option Version). seen v part) same) (fine_of c (λ x. k) passed (cells_in E) (guards_in g E) held (cell_at o part))
    one o part E held (inr (is, dirs, to_dirs, paired)) = pick (paired part)
      where
        x : Cell
        x = cell_at o part

        obj : (S : Shown) → S.object o ≡ S.object n
        obj S = ap S.object is

        pick : OneOf (seen (E.object n) part) (seen (T.object n) part) (seen b part) (seen (F.object n) part) → Good (cell_at o part) (value_in (F.object o) part) (guard_at g o (F.dir o.coll) (guard_in (F.object o)))
        pick (inl same) =
            by_seen (cell_at o part) (E.dir o.coll) (F.dir o.coll) (E.object o) (F.object o) dirs
            (ap (λ (v : Option Version). seen v part) (ap F.object is) ∙ same ∙ sym (ap (λ (v : Option Version). seen v part) (ap E.object is))) (fine_of c (λ x. k) passed (cells_in E) (guards_in g E) held (cell_at o part))
        pick (inr (inl same)) =
            by_seen (cell_at o part) (T.dir o.coll) (F.dir o.coll) (T.object o) (F.object o) to_dirs
            (ap (λ (v : Option Version). seen v part) (ap F.object is) ∙ same ∙ sym (ap (λ (v : Option Version). seen v part) (ap T.object is))) (fine_of c (λ x. k) passed (cells_in T) (guards_in g T) reads (cell_at o part))
        pick (inr (inr same)) =
            by_seen (cell_at o part) (T.dir o.coll) (F.dir o.coll) ((with_file n b T).object o) (F.object o) to_dirs
            (ap (λ (v : Option Version). seen v part) (ap F.object is) ∙ same ∙ sym (ap (λ (v : Option Version). seen v part) (ap (with_file n b T).object is ∙ put_here)))
            (fine_of c (λ x. k) passed (cells_in (with_file n b T)) (guards_in g (with_file n b T)) next (cell_at o part))

    -- each name may come from an image of its own
    pub image_step : ((o : Name) → (E : Shown) × AtEach c (λ x. k) (cells_in E) (guards_in g E) passed × ComesAt T n b o E F) → AtEach c (λ x. k) (cells_in F) (guards_in g F) passed
    image_step from = all_fine c (λ x. k) passed (cells_in F) (guards_in g F) (λ x. let f = from (name_of x) in one (name_of x) x.part f.0 f.1 f.2)

-- one operation on one object
module _ (g : Counts) (c : Case Cell Value) (j : ℕ) (names : Cell → Bool) (passed : Cell → ℕ) (T : Shown) (n : Name) (b : Option Version) (row : Part → CellAct)
    (rises : c.raise ≡ raise) (acts : (x : Cell) → act c j x ≡ on_object n.coll n.oid row x) (edits : Edits row (T.object n) b) (own : (x : Cell) → (name_of x) ≡ n → names x ≡ true) (applies : (part : Part) → guards_in g T (cell_at n part) ≤ j) where
  abbrev Now : Shown
  Now = with_file n b T

  other_object : (o : Name) → same_name o n ≡ false → Now.object o ≡ T.object o
  other_object o not = ap (λ (t : Bool). cond t b (T.object o)) not

  here_object : (o : Name) → same_name o n ≡ true → Now.object o ≡ b
  here_object o is = ap (λ (t : Bool). cond t b (T.object o)) is

  other_cell : (x : Cell) → same_name (name_of x) n ≡ false → cells_in Now x ≡ cells_in T x
  other_cell x not = ap (λ (v : Option Version). value_in v x.part) (other_object (name_of x) not)

  other_guard : (x : Cell) → same_name (name_of x) n ≡ false → guards_in g Now x ≡ guards_in g T x
  other_guard x not = ap (λ (v : Option Version). guard_at g (name_of x) (T.dir x.c) (guard_in v)) (other_object (name_of x) not)

  here_guard : (x : Cell) → same_name (name_of x) n ≡ true → guards_in g Now x ≡ guard_at g (name_of x) (T.dir x.c) (guard_in b)
  here_guard x is = ap (λ (v : Option Version). guard_at g (name_of x) (T.dir x.c) (guard_in v)) (here_object (name_of x) is)

  acts_on : (x : Cell) (t : Bool) → same_name (name_of x) n ≡ t → act c j x ≡ cond t (row x.part) leaves
  acts_on x t is = acts x ∙ ap (λ (s : Bool). cond s (row x.part) leaves) is

  given : (x : Cell) → Given c (Copied c passed) (guards_in g T x) j (cells_in T) x (cells_in Now x)
  given x = ⊎_elim here other (name_cases (name_of x) n)
    where
      here : (same_name (name_of x) n ≡ true) × ((name_of x) ≡ n) → Given c (Copied c passed) (guards_in g T x) j (cells_in T) x (cells_in Now x)
      here (is, at) = record {
        left_out = λ lt.
            let le : guards_in g T x ≤ j = subst (λ (o : Name). guards_in g T (cell_at o x.part) ≤ j) (sym at) (applies x.part) in
            absurd (omega (arith, lt, le));
        done = λ le. inr (
            ap (λ (v : Option Version). value_in v x.part) (here_object (name_of x) is)
            ∙ edits.gives x.part (cells_in T)
            ∙ ap (λ (r : ℕ → Value → Value). moved r (effect (row x.part) (cells_in T)) (value_in (T.object n) x.part)) (sym rises)
            ∙ ap (λ (o : Name). moved c.raise (effect (row x.part) (cells_in T)) (value_in (T.object o) x.part)) (sym at)
            ∙ ap (λ (a : CellAct). moved c.raise (effect a (cells_in T)) (cells_in T x)) (sym (acts_on x true is)));
      }

      other : (same_name (name_of x) n ≡ false) × ((name_of x) ≢ n) → Given c (Copied c passed) (guards_in g T x) j (cells_in T) x (cells_in Now x)
      other (not, off) = record {
        left_out = λ lt. other_cell x not;
        done = λ le. inr (other_cell x not ∙ ap (λ (a : CellAct). moved c.raise (effect a (cells_in T)) (cells_in T x)) (sym (acts_on x false not)));
      }

  least : (o : Name) (d : Option (Option (List ℕ))) (file : Option (List ℕ)) → guard_at g o d None ≤ guard_at g o d file
  least o None file = omega arith
  least o (Some d) file = omega arith

  guarded : (x : Cell) → Guarded c j (guards_in g T x) (guards_in g Now x) x
  guarded x = ⊎_elim here (λ (not, differ). record { is = inl (other_guard x not) }) (name_cases (name_of x) n)
    where
      here : (same_name (name_of x) n ≡ true) × ((name_of x) ≡ n) → Guarded c j (guards_in g T x) (guards_in g Now x) x
      here (is, at) = ⊎_elim
          (λ stays. record { is = inl (here_guard x is ∙ ap (guard_at g (name_of x) (T.dir x.c)) (stays ∙ ap (λ (o : Name). guard_in (T.object o)) (sym at))) })
          (λ (none, resets).
          let e : guards_in g Now x ≡ guard_at g (name_of x) (T.dir x.c) None = here_guard x is ∙ ap (guard_at g (name_of x) (T.dir x.c)) none in
          let low : guard_at g (name_of x) (T.dir x.c) None ≤ guards_in g T x = least (name_of x) (T.dir x.c) (guard_in (T.object (name_of x))) in
          let le : guards_in g T x ≤ j = subst (λ (o : Name). guards_in g T (cell_at o x.part) ≤ j) (sym at) (applies x.part) in
          let set = resets x.part in
          record { is = inr (inr (omega (arith, e, low), le, (set.0, ap (λ (a : CellAct). effect a (after c j)) (acts_on x true is ∙ set.1)))) })
          edits.guard

  no_source : (z y : Cell) (t : Bool) → Source (cond t (row z.part) leaves) y → ⊥
  no_source z y true is = edits.no_copy z.part y is
  no_source z y false is = is

  pub does : DoesOp c names j (cells_in T) (cells_in Now) (guards_in g T) (guards_in g Now) passed passed
  does = record {
    given = λ x named. given x;
    guarded = λ x named. guarded x;
    others = λ x off. ⊎_elim (λ (is, at). absurd (true_not_false (names x) (own x at) off)) (λ (not, differ). (other_cell x not, other_guard x not)) (name_cases (name_of x) n);
    further = λ x. omega arith;
    for_good = λ x. inl (omega arith);
    all_copied = λ z y from. absurd (no_source z y (same_name (name_of z) n) (subst (λ (a : CellAct). Source a y) (acts z) from));
  }
