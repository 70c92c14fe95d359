-- A tree along a line that grows, or whose first operations are forgotten; and what takes the next tree to its places.
use Rattle.std.proofs.Common.{◌≡◌, ◌⊎◌, inl, inr, ⊎_elim, ℕ, suc, ◌+◌, ◌-◌, ◌<◌, ◌≤◌, Bool, true, false, List, ◌++◌, length, map, drop, refl, sym, ◌∙◌, ap, subst, arith, length-append, length-drop, Some}
use Rattle.std.proofs.lemmas.Bool.{cases_Bool}
use Rattle.std.proofs.lemmas.List.{map-append, drop-map, length-map}
use Rattle.std.specs.Prelude.{slice_get}
use Rattle.std.specs.FinMap as fin
use Rattle.fs_names.specs.declared.coll.Coll.{Coll}
use Rattle.fs_names.specs.declared.settings.Settings.{Settings}
use Rattle.fs_model.specs.declared.op.Op.{Op}
use Rattle.fs_model.specs.Objects.{Objects}
use Rattle.fs_model.specs.Rows.{fold_ops}
use Rattle.tree_api.specs.Tree.{Tree}
use Rattle.replay_laws.specs.Replay.{Act, leaves, moved, effect, after, Case}
use Rattle.replay_laws.specs.Settled.{Given}
use Rattle.replay_laws.specs.Keeps.{Copied}
use Rattle.replay_laws.specs.Places.{AtEach, GoesOne, from_there}
use Rattle.replay_laws.proofs.Places.{places_law}
use Rattle.replay_laws.proofs.Walk.{same_or_later}
use Rattle.fs_cells.specs.declared.cell.Cell.{Cell}
use Rattle.fs_cells.specs.Actions.{act_of}
use Rattle.fs_cells.specs.Standing.{StandsForObjects}
use Rattle.fs_cells.specs.Values.{Value, raise, cells_of, absent}
use Rattle.fs_cells.proofs.Replaying.{raise_laws}
use Rattle.fs_cells.proofs.Rows.{fold_law}
use Rattle.fs_cells.proofs.Standing.{once_law}
use Rattle.tree_stands.specs.Shown.{cells_in, guards_in}
use Rattle.tree_stands.specs.Trees.{Maps, AreMaps, shown}
use Rattle.tree_stands.proofs.Trees.{maps, maps_are}
use Rattle.op_places.specs.Line.{line_of, after_ops, makes, takes, gone_in, counts_of, IsPlain}
use Rattle.op_places.specs.Places.{is_there, CollAt, PastOps}
use Rattle.op_places.proofs.Colls.{same_end, next_there, stays_by}
use Rattle.op_places.proofs.Gone.{is_place, gone_drop, gone_more}
use Rattle.op_places.proofs.Line.{after_more, after_longer, after_is, act_is, is_act, no_source}
use Rattle.op_places.proofs.Cells.{Holds, at_each, holds_along, holds_gone}
use Rattle.op_places.proofs.Shown.{is_missing, guard_there, guard_missing, cell_none}

-- no place is past the line
pub place_le : (set : Settings) (O : Objects) (ops : List Op) (k : ℕ) (t : Tree) (c : Coll) → PastOps set O ops k t → k ≤ length ops
place_le set O ops k t c past = let at = past.colls c in omega (arith, at.from, at.to)

-- a cell of a missing collection is absent
pub past_absent : (set : Settings) (O : Objects) (ops : List Op) (k : ℕ) (t : Tree) (M : Maps) → AreMaps set t M → PastOps set O ops k t → (x : Cell) → is_there t x.c ≡ false
    → cells_in (shown M t) x ≡ absent x.part
past_absent set O ops k t M of_t past x isnt = cell_none set t M of_t x (λ fits. past.empty x.c fits (is_missing t x.c fits isnt))

-- more operations come
module _ (set : Settings) (O : Objects) (ops rest : List Op) (k : ℕ) (t : Tree) (plain : IsPlain O (ops ++ rest)) (past : PastOps set O ops k t) where
  longer : (M : Maps) → AreMaps set t M → AtEach (line_of O (ops ++ rest)) (λ x. k) (cells_in (shown M t)) (guards_in (counts_of ops) (shown M t)) (λ x. 0)
  longer M of_t =
      subst (λ (acts : List (Cell → Act Cell Value)). AtEach (record { raise = raise; ops = acts; before = cells_of O; start = cells_of O; skips = λ x. 0 }) (λ x. k) (cells_in (shown M t)) (guards_in (counts_of ops) (shown M t)) (λ x. 0))
      (sym (map-append act_of ops rest))
      (places_law.more (line_of O ops) (map act_of rest) (λ x. k) (cells_in (shown M t)) (guards_in (counts_of ops) (shown M t)) (λ x. 0) (λ x. omega arith) (past.cells M of_t))

  cell_more : (M : Maps) → AreMaps set t M → (x : Cell) → Holds O (ops ++ rest) (guards_in (counts_of (ops ++ rest)) (shown M t) x) k x (cells_in (shown M t) x)
  cell_more M of_t x = ⊎_elim there missing (cases_Bool (is_there t x.c))
    where
      was : Holds O (ops ++ rest) (guards_in (counts_of ops) (shown M t) x) k x (cells_in (shown M t) x)
      was = (longer M of_t).stands x

      same : guards_in (counts_of (ops ++ rest)) (shown M t) x ≡ guards_in (counts_of ops) (shown M t) x → Holds O (ops ++ rest) (guards_in (counts_of (ops ++ rest)) (shown M t) x) k x (cells_in (shown M t) x)
      same is = holds_along O (ops ++ rest) (guards_in (counts_of ops) (shown M t) x) (guards_in (counts_of (ops ++ rest)) (shown M t) x) k x (cells_in (shown M t) x) (cells_in (shown M t) x) is refl was

      there : is_there t x.c ≡ true → Holds O (ops ++ rest) (guards_in (counts_of (ops ++ rest)) (shown M t) x) k x (cells_in (shown M t) x)
      there is = same (guard_there (ops ++ rest) M t x is ∙ sym (guard_there ops M t x is))

      missing : is_there t x.c ≡ false → Holds O (ops ++ rest) (guards_in (counts_of (ops ++ rest)) (shown M t) x) k x (cells_in (shown M t) x)
      missing isnt = ⊎_elim
          (λ still. same (guard_missing (ops ++ rest) M t x isnt ∙ still ∙ sym (guard_missing ops M t x isnt)))
          (λ later.
          holds_along O (ops ++ rest) (gone_in x.c (ops ++ rest)) (guards_in (counts_of (ops ++ rest)) (shown M t) x) k x (absent x.part) (cells_in (shown M t) x)
          (guard_missing (ops ++ rest) M t x isnt) (past_absent set O ops k t M of_t past x isnt)
          (holds_gone O (ops ++ rest) plain k x (omega (arith, later, place_le set O ops k t x.c past))))
          (gone_more x.c ops rest)

  pub past_more : PastOps set O (ops ++ rest) k t
  past_more = record {
    cells = λ M of_t. at_each O (ops ++ rest) (λ x. k) (cells_in (shown M t)) (guards_in (counts_of (ops ++ rest)) (shown M t)) (cell_more M of_t);
    colls = λ c. let at = past.colls c in
        record {
          when = at.when;
          from = at.from;
          to = omega (arith, at.to, length-append ops rest);
          is = at.is ∙ sym (ap (λ (P : Objects). fin.contains_key P c) (after_longer O ops rest at.when at.to));
        };
    whole = past.whole;
    empty = past.empty;
  }

pub past_back : (set : Settings) (O : Objects) (ops : List Op) (k l : ℕ) (t : Tree) → l ≤ k → PastOps set O ops k t → PastOps set O ops l t
past_back set O ops k l t le past = record {
  cells = λ M of_t. places_law.back (line_of O ops) (λ x. k) (λ x. l) (cells_in (shown M t)) (guards_in (counts_of ops) (shown M t)) (λ x. 0) (past.cells M of_t) (λ x. le);
  colls = λ c. let at = past.colls c in record { when = at.when; from = omega (arith, at.from); to = at.to; is = at.is };
  whole = past.whole;
  empty = past.empty;
}

-- the first d operations are forgotten
module _ (set : Settings) (O : Objects) (ops : List Op) (d : ℕ) (t : Tree) (plain : IsPlain O ops) (fits : d ≤ length ops) (past : PastOps set O ops d t) where
  abbrev begun : List (Cell → Act Cell Value) → (Cell → Value) → Case Cell Value
  begun acts before = record { raise = raise; ops = acts; before = before; start = cells_of (after_ops O ops d); skips = λ x. 0 }

  guard_less : (M : Maps) (x : Cell) → guards_in (counts_of ops) (shown M t) x - d ≡ guards_in (counts_of (drop d ops)) (shown M t) x
  guard_less M x = ⊎_elim
      (λ there. ap (λ (g : ℕ). g - d) (guard_there ops M t x there) ∙ none_less ∙ sym (guard_there (drop d ops) M t x there))
      (λ isnt. ap (λ (g : ℕ). g - d) (guard_missing ops M t x isnt) ∙ sym (gone_drop x.c d ops) ∙ sym (guard_missing (drop d ops) M t x isnt))
      (cases_Bool (is_there t x.c))
    where
      none_less : 0 - d ≡ 0
      none_less = omega arith

  based : (M : Maps) → AreMaps set t M → AtEach (begun (drop d (map act_of ops)) (after (line_of O ops) d)) (λ x. 0) (cells_in (shown M t)) (λ x. guards_in (counts_of ops) (shown M t) x - d) (λ x. 0 - d)
  based M of_t = places_law.restarts (from_there (line_of O ops) d (cells_in (shown M t)) (guards_in (counts_of ops) (shown M t))) (cells_of (after_ops O ops d)) (λ x. 0) (λ x. 0)
      (cells_in (shown M t)) (λ x. guards_in (counts_of ops) (shown M t) x - d) (λ x. 0 - d)
      (places_law.rebase (line_of O ops) d (cells_in (shown M t)) (guards_in (counts_of ops) (shown M t)) (λ x. 0) (omega (arith, fits, length-map ops act_of)) (past.cells M of_t))

  moved_to : (M : Maps) → AreMaps set t M → AtEach (line_of (after_ops O ops d) (drop d ops)) (λ x. 0) (cells_in (shown M t)) (λ x. guards_in (counts_of ops) (shown M t) x - d) (λ x. 0 - d)
  moved_to M of_t =
      subst (λ (acts : List (Cell → Act Cell Value)). AtEach (begun acts (cells_of (after_ops O ops d))) (λ x. 0) (cells_in (shown M t)) (λ x. guards_in (counts_of ops) (shown M t) x - d) (λ x. 0 - d)) (drop-map act_of d ops)
      (subst (λ (before : Cell → Value). AtEach (begun (drop d (map act_of ops)) before) (λ x. 0) (cells_in (shown M t)) (λ x. guards_in (counts_of ops) (shown M t) x - d) (λ x. 0 - d)) (after_is O ops d plain.allowed) (based M of_t))

  none_passed : ◌≡◌ {A = Cell → ℕ} (λ x. 0 - d) (λ x. 0)
  none_passed = λ i x. zero_less i
    where
      zero_less : 0 - d ≡ 0
      zero_less = omega arith

  pub past_rebase : PastOps set (after_ops O ops d) (drop d ops) 0 t
  past_rebase = record {
    cells = λ M of_t.
        subst (λ (guards : Cell → ℕ). AtEach (line_of (after_ops O ops d) (drop d ops)) (λ x. 0) (cells_in (shown M t)) guards (λ x. 0)) (λ i x. guard_less M x i)
        (subst (λ (passed : Cell → ℕ). AtEach (line_of (after_ops O ops d) (drop d ops)) (λ x. 0) (cells_in (shown M t)) (λ x. guards_in (counts_of ops) (shown M t) x - d) passed) none_passed (moved_to M of_t));
    colls = λ c. let at = past.colls c in
        let sum : d + (at.when - d) ≡ at.when = omega (arith, at.from) in
        record {
          when = at.when - d;
          from = omega arith;
          to = omega (arith, at.to, length-drop d ops);
          is = at.is ∙ sym (ap (λ (P : Objects). fin.contains_key P c) (after_more O ops d (at.when - d) ∙ ap (after_ops O ops) sum));
        };
    whole = past.whole;
    empty = past.empty;
  }

-- whatever it began with, the line takes it to one end
stands_for : (set : Settings) (O : Objects) (ops : List Op) (t : Tree) (M : Maps) → AreMaps set t M → IsPlain O ops → PastOps set O ops 0 t
    → StandsForObjects (map act_of ops) (cells_in (shown M t)) (guards_in (counts_of ops) (shown M t)) (fold_ops O ops)
stands_for set O ops t M of_t plain past = record {
  before = cells_of O;
  passed = λ x. 0;
  held = places_law.restarts (line_of O ops) (cells_in (shown M t)) (guards_in (counts_of ops) (shown M t)) (λ x. 0) (cells_in (shown M t)) (guards_in (counts_of ops) (shown M t)) (λ x. 0) (past.cells M of_t);
  ends = fold_law O ops plain.allowed;
}

pub past_once : (set : Settings) (O P : Objects) (ops : List Op) (t : Tree) → IsPlain O ops → IsPlain P ops → PastOps set O ops 0 t → PastOps set P ops 0 t → fold_ops O ops ≡ fold_ops P ops
past_once set O P ops t plain other one two =
    once_law (map act_of ops) (cells_in (shown (maps set t one.whole) t)) (guards_in (counts_of ops) (shown (maps set t one.whole) t)) (fold_ops O ops) (fold_ops P ops)
    (λ c. same_end O P ops c (one.colls c).when (two.colls c).when (sym (one.colls c).is ∙ (two.colls c).is))
    (stands_for set O ops t (maps set t one.whole) (maps_are set t one.whole) plain one)
    (stands_for set P ops t (maps set t one.whole) (maps_are set t one.whole) other two)

-- a collection that the operation leaves as it is
pub coll_next : (O : Objects) (ops : List Op) (k : ℕ) (op : Op) (c : Coll) (b : Bool) → slice_get ops k ≡ Some op → makes c op ≡ false → takes c op ≡ false
    → CollAt O ops k c b → CollAt O ops (suc k) c b
coll_next O ops k op c b is no_make no_take at = ⊎_elim
    (λ here. record {
      when = suc k;
      from = omega arith;
      to = omega (arith, is_place ops k op is);
      is = at.is
          ∙ sym (ap (λ (i : ℕ). fin.contains_key (after_ops O ops i) c) here)
          ∙ sym (stays_by c op (fin.contains_key (after_ops O ops k) c) no_make no_take)
          ∙ sym (next_there O ops k op c is);
    })
    (λ later. record { when = at.when; from = omega (arith, later); to = at.to; is = at.is })
    (same_or_later k at.when at.from)

-- it is as after this operation
pub coll_by : (O : Objects) (ops : List Op) (k l : ℕ) (op : Op) (c : Coll) (b : Bool) → slice_get ops k ≡ Some op → l ≤ suc k → b ≡ fin.contains_key (after_ops O ops (suc k)) c → CollAt O ops l c b
coll_by O ops k l op c b is le same = record { when = suc k; from = le; to = omega (arith, is_place ops k op is); is = same }

-- The tree stays, and the operation at k is past: each cell is left by it, or a removal to come leaves it out.
module _ (set : Settings) (O : Objects) (ops : List Op) (k : ℕ) (op : Op) (t : Tree) (plain : IsPlain O ops) (is : slice_get ops k ≡ Some op) (past : PastOps set O ops k t)
    (each : (x : Cell) → ((is_there t x.c ≡ false) × (k < gone_in x.c ops)) ⊎ (act_of op x ≡ leaves)) where
  given : (M : Maps) (x : Cell) → Given (line_of O ops) (Copied (line_of O ops) (λ y. 0)) (guards_in (counts_of ops) (shown M t) x) k (cells_in (shown M t)) x (cells_in (shown M t) x)
  given M x = record {
    left_out = λ lt. refl;
    done = λ le. ⊎_elim
        (λ (isnt, lt). absurd (omega (arith, le, lt, guard_missing ops M t x isnt)))
        (λ left. inr (sym (ap (λ (a : Act Cell Value). moved raise (effect a (cells_in (shown M t))) (cells_in (shown M t) x)) (act_is O ops k op is x ∙ left))))
        (each x);
  }

  passes : (M : Maps) → GoesOne (line_of O ops) k (cells_in (shown M t)) (cells_in (shown M t)) (guards_in (counts_of ops) (shown M t)) (guards_in (counts_of ops) (shown M t)) (λ x. 0) (λ x. 0) (λ x. k) (λ x. suc k)
  passes M = record {
    each = λ x. inl (refl, refl, given M x, record { is = inl refl });
    reads = λ z y from. absurd (no_source O ops plain.built k z y from);
    further = λ x. omega arith;
    for_good = λ x. inl (omega arith);
    all_copied = λ z y from. absurd (no_source O ops plain.built k z y from);
  }

  pub past_next : ((c : Coll) → CollAt O ops (suc k) c (is_there t c)) → PastOps set O ops (suc k) t
  past_next colls = record {
    cells = λ M of_t. places_law.keeps (line_of O ops) raise_laws k (is_act O ops k op is) (cells_in (shown M t)) (cells_in (shown M t)) (guards_in (counts_of ops) (shown M t)) (guards_in (counts_of ops) (shown M t))
        (λ x. 0) (λ x. 0) (λ x. k) (λ x. suc k) (past.cells M of_t) (passes M);
    colls = colls;
    whole = past.whole;
    empty = past.empty;
  }
